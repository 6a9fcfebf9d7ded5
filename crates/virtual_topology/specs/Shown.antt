-- What uses and rows that the code has stand for.
use Rattle.virtual_topology.specs.declared.uses.Use.{Use}
use Rattle.std.specs.Prelude.{Bool}
use Rattle.virtual_topology.specs.Places.{PlaceUse, same_use}
use Rattle.virtual_topology.specs.Rows.{Row, Spot}

abbrev pub shown : Use → PlaceUse
shown u = record { role = u.role; place = record { name = u.name.0.now; port = u.port } }

abbrev pub shown_row : Use × Spot → Row
shown_row r = (shown r.0, r.1)

-- two uses of the code are one
abbrev pub same_shown : Use → Use → Bool
same_shown a b = same_use (shown a) (shown b)
