-- The entry that a switch uses for a packet, of those that stand on it.
use Rattle.std.specs.Prelude.{List, [], ◌∷◌, Option, Some, None, if◌then◌else◌}
use Rattle.install_plan.specs.Best.{IsBest, is_above, is_holding}
use Rattle.install_plan.specs.declared.written.Written.{Written}
use Rattle.of10_match.specs.Fields.{HeaderOf}

-- of two entries the one of the higher rank, and of one rank that of the lesser cookie; else the first
abbrev pub above : Option Written → Written → Written
above None w = w
above (Some v) w = if is_above w v then w else v

-- the highest of an entry and of those of a list that hold the header
abbrev pub highest_from : HeaderOf → Option Written → List Written → Option Written
highest_from h best [] = best
highest_from h best (w ∷ ws) = highest_from h (if is_holding h w then Some (above best w) else best) ws

-- the highest of those that hold the header; none where none holds it
abbrev pub used_for : HeaderOf → List Written → Option Written
used_for h standing = highest_from h None standing

-- it is so by the rule of the tables of switches
abbrev pub UsedIsBest : Type 0
UsedIsBest = (h : HeaderOf) (standing : List Written) → IsBest h standing (used_for h standing)
