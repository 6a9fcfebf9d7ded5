use Rattle.std.proofs.Common.{◌≡◌, ◌++◌, take, drop, map}
use Rattle.waitings.specs.InsideSpans.{span_with_xid}
use Rattle.waitings.proofs.parts.give_all_xid.Given as goal

abbrev pub invariant-loop-span : goal.invariant-loop-span
invariant-loop-span l =
    l.spans ≡ map (span_with_xid l.switch l.xid) (take l.span-index l.fn.spans) ++ drop l.span-index l.fn.spans
