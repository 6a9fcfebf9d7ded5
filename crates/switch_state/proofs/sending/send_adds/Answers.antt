use Rattle.std.proofs.Common.{sym, subst}
use Rattle.std.specs.Vec.Iter.{into_iter_items}
use Rattle.of10_msgs.specs.Ranges.{CanWrite}
use Rattle.switch_state.specs.Fitting.{CanAdd}
use Rattle.switch_state.specs.Messages.{addition}
use Rattle.switch_state.specs.Sending.{sending_of}
use Rattle.switch_state.proofs.Fitting.{addition_fits}
use Rattle.switch_state.proofs.Left.{more_done, next_holds}
use Rattle.switch_state.proofs.Partly.{mapped_sent}
use Rattle.switch_state.proofs.sending.send_adds.Goals as goal

pub send-requires : goal.send-requires
send-requires c =
    let can =
    next_holds CanAdd c.loop-written.yielded c.in-Some.written (into_iter_items c.next.new.self)
    (into_iter_items c.loop-written.written-iterator) c.args.adds c.in-Some.ensures.steps.0
    c.loop-written.invariant.left c.requires in
    subst CanWrite (sym c.addition.ensures) (addition_fits c.in-Some.written can)

pub loop-written-preserved : goal.loop-written-preserved
loop-written-preserved c = record {
  sent =
      mapped_sent addition c.loop-written.yielded c.in-Some.written c.addition.result
      (sending_of c.args.known.now c.args.messages.now) (sending_of c.loop-written.known c.loop-written.messages)
      (sending_of c.send.new.known c.send.new.messages) c.loop-written.invariant.sent c.addition.ensures
      c.in_ok-send.ensures.sent;
  left =
      more_done c.loop-written.yielded c.in-Some.written (into_iter_items c.next.new.self)
      (into_iter_items c.loop-written.written-iterator) c.args.adds c.in-Some.ensures.steps.0
      c.loop-written.invariant.left;
}
