use Rattle.std.proofs.Common.{◌∙◌, ap}
use Rattle.switch_state.specs.Known.{KnownOf}
use Rattle.switch_state.specs.Messages.{switch_messages}
use Rattle.switch_state.specs.Sending.{sending_of}
use Rattle.machine_drafts.proofs.DarkPorts.{after_write}
use Rattle.machine_drafts.proofs.switch_draft.SwitchDraft.write.Goals as goal

pub invariant_of-self-2 : goal.invariant_of-self-2
invariant_of-self-2 c =
    λ still.
    let n = c.write-written in
    after_write n.result (switch_messages c.args.begins c.args.batch)
    (sending_of c.in_ok-known.known c.args.messages.now) (sending_of n.new.self n.new.messages)
    n.ensures.sent n.ensures.memory
    ∙ (ap (λ (x : KnownOf). x.dark) c.in_ok-known.ensures.known ∙ c.self.invariant still)
