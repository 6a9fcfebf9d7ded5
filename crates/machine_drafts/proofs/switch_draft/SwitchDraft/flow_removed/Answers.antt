use Rattle.std.proofs.Common.{◌∙◌, ap}
use Rattle.switch_state.specs.Known.{KnownOf}
use Rattle.machine_drafts.proofs.DarkPorts.{after_removed}
use Rattle.machine_drafts.proofs.switch_draft.SwitchDraft.flow_removed.Goals as goal

pub invariant_of-self-2 : goal.invariant_of-self-2
invariant_of-self-2 c =
    λ still.
    let n = c.flow_removed-removal in
    after_removed n.result c.args.cookie c.in_ok-known.known n.new.self n.ensures.known n.ensures.memory
    ∙ (ap (λ (x : KnownOf). x.dark) c.in_ok-known.ensures.known ∙ c.self.invariant still)
