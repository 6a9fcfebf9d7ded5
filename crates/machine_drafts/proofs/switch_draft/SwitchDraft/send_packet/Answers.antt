use Rattle.std.proofs.Common.{◌∙◌, ap}
use Rattle.switch_state.specs.Known.{KnownOf}
use Rattle.switch_state.specs.Messages.{packet_out}
use Rattle.machine_drafts.proofs.DarkPorts.{after_send}
use Rattle.machine_drafts.proofs.switch_draft.SwitchDraft.send_packet.Goals as goal

pub invariant_of-self-2 : goal.invariant_of-self-2
invariant_of-self-2 c =
    λ still.
    let n = c.send_packet-sent in
    after_send n.result (packet_out c.args.port c.args.bytes) c.in_ok-known.known n.new.self c.args.messages.now n.new.messages
    n.ensures.sent n.ensures.memory
    ∙ (ap (λ (x : KnownOf). x.dark) c.in_ok-known.ensures.known ∙ c.self.invariant still)
