use Rattle.std.proofs.Common.{◌≡◌, ◌++◌, take, drop, map}
use Rattle.waitings.specs.Waitings.{with_xid}
use Rattle.waitings.proofs.changing.give_all_xid.Given as goal

abbrev pub invariant-loop-waiting : goal.invariant-loop-waiting
invariant-loop-waiting l =
    l.list ≡ map (with_xid l.v l.switch l.xid) (take l.waiting-index l.fn.list) ++ drop l.waiting-index l.fn.list
