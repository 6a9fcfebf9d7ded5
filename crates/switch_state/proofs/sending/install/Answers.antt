use Rattle.std.proofs.Common.{◌≡◌, [], ◌∷◌, sym, subst}
use Rattle.of10_msgs.specs.Ranges.{CanWrite}
use Rattle.of10_msgs.specs.declared.message.Body.{Body}
use Rattle.of10_msgs.specs.declared.message.Body.TheVariants.{BarrierRequest, SetConfig}
use Rattle.switch_state.specs.Messages.{delete_all}
use Rattle.switch_state.specs.Sending.{send, sending_of}
use Rattle.switch_state.proofs.Fitting.{delete_all_fits, set_config_fits}
use Rattle.switch_state.proofs.Partly.{one_sent, on_err, stopped}
use Rattle.switch_state.proofs.sending.install.Goals as goal

pub send-requires : goal.send-requires
send-requires c = set_config_fits

pub send-requires-2 : goal.send-requires-2
send-requires-2 c = subst CanWrite (sym c.delete_all.ensures) delete_all_fits

pub returns-in_err-send-2-clause-memory : goal.returns-in_err-send-2-clause-memory
returns-in_err-send-2-clause-memory c =
    stopped c.from_residual-in_err-send-2.result (SetConfig 0 65535 ∷ []) (delete_all ∷ BarrierRequest ∷ [])
    (sending_of c.args.known.now c.args.messages.now)
    c.send.new.known c.send-2.new.known c.send.new.messages c.send-2.new.messages c.in_ok-send.ensures.sent
    (on_err c.from_residual-in_err-send-2.result _ c.in_err-send-2.ensures.memory)

pub returns-clause-memory : goal.returns-clause-memory
returns-clause-memory c =
    let old = sending_of c.args.known.now c.args.messages.now in
    let mid = sending_of c.send.new.known c.send.new.messages in
    let new = sending_of c.send-2.new.known c.send-2.new.messages in
    let second = subst (λ (body : Body). new ≡ send mid body) c.delete_all.ensures c.in_ok-send-2.ensures.sent in
    stopped c.send_barrier.result (SetConfig 0 65535 ∷ delete_all ∷ []) (BarrierRequest ∷ []) old c.send-2.new.known
    c.send_barrier.new.known c.send-2.new.messages c.send_barrier.new.messages
    (one_sent (SetConfig 0 65535 ∷ []) delete_all old mid new c.in_ok-send.ensures.sent second)
    c.send_barrier.ensures.memory
