use Rattle.std.proofs.Common.{◌≡◌, ◌++◌, take}
use Rattle.std.specs.List.{flat_map}
use Rattle.status_page.specs.Page.{row_of}
use Rattle.status_page.proofs.html.say_rows.Given as goal

abbrev pub invariant-loop-endpoint : goal.invariant-loop-endpoint
invariant-loop-endpoint l = l.text ≡ l.fn.text ++ flat_map row_of (take l.endpoint-index l.endpoints)
