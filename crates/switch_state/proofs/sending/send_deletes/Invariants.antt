use Rattle.std.proofs.Common.{◌≡◌, ◌++◌, map}
use Rattle.std.specs.Vec.Iter.{into_iter_items}
use Rattle.switch_state.specs.Messages.{delete_strict}
use Rattle.switch_state.specs.Sending.{send_all, sending_of}
use Rattle.switch_state.proofs.sending.send_deletes.Given as goal

-- what is sent so far, and what is left
abbrev pub invariant-loop-written : goal.invariant-loop-written
invariant-loop-written l = record {
  sent : sending_of l.known l.messages ≡ send_all (map delete_strict l.yielded)
      (sending_of l.initial.known l.initial.messages);
  left : l.yielded ++ into_iter_items l.written-iterator ≡ l.fn.deletes;
}
