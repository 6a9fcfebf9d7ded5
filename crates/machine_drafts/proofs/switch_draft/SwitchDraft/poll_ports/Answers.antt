use Rattle.std.proofs.Common.{◌∙◌, ap}
use Rattle.switch_state.specs.Known.{KnownOf}
use Rattle.switch_state.specs.Messages.{port_request}
use Rattle.machine_drafts.proofs.DarkPorts.{after_send}
use Rattle.machine_drafts.proofs.switch_draft.SwitchDraft.poll_ports.Goals as goal

pub invariant_of-self-2 : goal.invariant_of-self-2
invariant_of-self-2 c =
    λ still.
    let n = c.poll_ports-sent in
    after_send n.result port_request c.in_ok-known.known n.new.self c.args.messages.now n.new.messages
    n.ensures.sent n.ensures.memory
    ∙ (ap (λ (x : KnownOf). x.dark) c.in_ok-known.ensures.known ∙ c.self.invariant still)
