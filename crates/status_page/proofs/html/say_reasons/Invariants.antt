use Rattle.std.proofs.Common.{◌≡◌, ◌++◌, take}
use Rattle.std.specs.List.{flat_map}
use Rattle.status_page.specs.Page.{reason_of}
use Rattle.status_page.proofs.html.say_reasons.Given as goal

abbrev pub invariant-loop-cause : goal.invariant-loop-cause
invariant-loop-cause l = l.text ≡ l.fn.text ++ flat_map reason_of (take l.cause-index l.refused)
