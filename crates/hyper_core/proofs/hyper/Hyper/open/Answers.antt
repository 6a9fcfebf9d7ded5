use Rattle.std.proofs.Common.{Some, subst}
use Rattle.event_composes.specs.Kept.{IsKept}
use Rattle.event_composes.specs.Settled.{IsSettledState}
use Rattle.machine_drafts.specs.Machines.{HasAll, state_in_held}
use Rattle.policies.specs.Policies.{PolicyOf}
use Rattle.hyper_core.proofs.hyper.Hyper.open.Goals as goal

pub invariant_of-result : goal.invariant_of-result
invariant_of-result g c = subst
    (λ (p : PolicyOf). HasAll p c.in-Ok.opened.held
    × (IsSettledState p (state_in_held c.in-Ok.opened.held)
    × IsKept p (state_in_held c.in-Ok.opened.held) (Some c.in-Ok.opened.composed)))
    c.deref.ensures
    (c.in-Ok.ensures.all, (c.in-Ok.ensures.settled, c.in-Ok.ensures.kept))
