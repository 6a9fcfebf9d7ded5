use Rattle.std.proofs.Common.{◌≡◌, ap, sym, subst, ◌∙◌}
use Rattle.std.specs.Prelude.{IfOk}
use Rattle.of10_msgs.specs.Ranges.{CanWrite}
use Rattle.of10_msgs.specs.declared.message.Message.{Message}
use Rattle.made_script.proofs.Fitting.{message_fits}
use Rattle.made_script.specs.Script.{message_of, sender_of, sending}
use Rattle.made_script.proofs.messages.line.Goals as goal

pub sending-requires-clause-fits : goal.sending-requires-clause-fits
sending-requires-clause-fits c = subst (λ (m : Message). CanWrite m.body) (sym c.in_ok-message.ensures)
    (message_fits _ _)

pub returns : goal.returns
returns c =
    let k = c.args.k in
    let named = subst (λ name. IfOk c.sending.result (λ line. line ≡ sending name c.in_ok-message.message))
    c.sender.ensures.name c.sending.ensures in
    let m = c.in_ok-message.ensures ∙ ap (message_of k) c.drawn.ensures.value in
    subst (λ m. IfOk c.sending.result (λ line. line ≡ sending (sender_of k) m)) m named
