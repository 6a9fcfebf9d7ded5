use Rattle.std.proofs.Common.{◌≡◌, ◌++◌, take, drop, map}
use Rattle.waitings.specs.Waitings.{without_parts_of}
use Rattle.waitings.proofs.changing.drop_all_parts_of.Given as goal

abbrev pub invariant-loop-waiting : goal.invariant-loop-waiting
invariant-loop-waiting l =
    l.list ≡ map (without_parts_of l.switch) (take l.waiting-index l.fn.list) ++ drop l.waiting-index l.fn.list
