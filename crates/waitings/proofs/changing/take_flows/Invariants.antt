use Rattle.std.proofs.Common.{◌≡◌, false, take}
use Rattle.std.specs.List.{list_any}
use Rattle.waitings.specs.Waitings.{waits_for_flows}
use Rattle.waitings.proofs.changing.take_flows.Given as goal

abbrev pub invariant-loop-waiting : goal.invariant-loop-waiting
invariant-loop-waiting l = record {
  same : l.list ≡ l.fn.list;
  none : list_any (waits_for_flows l.switch l.xid) (take l.waiting-index l.fn.list) ≡ false;
}
