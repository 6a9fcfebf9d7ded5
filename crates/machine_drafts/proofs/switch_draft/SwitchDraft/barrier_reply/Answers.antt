use Rattle.std.proofs.Common.{◌∙◌, ap, refl}
use Rattle.switch_state.specs.Known.{KnownOf}
use Rattle.switch_state.specs.Reports.{barrier_reply}
use Rattle.machine_drafts.proofs.DarkPorts.{after_report}
use Rattle.machine_drafts.proofs.switch_draft.SwitchDraft.barrier_reply.Goals as goal

pub invariant_of-self-2 : goal.invariant_of-self-2
invariant_of-self-2 c =
    λ still.
    let k = c.in_ok-known.known in
    let n = c.barrier_reply-number in
    after_report n.result k n.new.self (barrier_reply c.args.xid k) refl n.ensures.answered n.ensures.memory
    ∙ (ap (λ (x : KnownOf). x.dark) c.in_ok-known.ensures.known ∙ c.self.invariant still)
