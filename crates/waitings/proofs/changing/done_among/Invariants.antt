use Rattle.std.proofs.Common.{◌≡◌, ◌++◌, drop}
use Rattle.std.specs.Prelude.{filter}
use Rattle.waitings.specs.Waitings.{is_done}
use Rattle.waitings.proofs.changing.done_among.Given as goal

abbrev pub invariant-loop-waiting : goal.invariant-loop-waiting
invariant-loop-waiting l = l.done ++ filter is_done (drop l.waiting-index l.list) ≡ filter is_done l.list
