use Rattle.std.proofs.Common.{subst, sym}
use Rattle.policies.specs.Policies.{PolicyOf}
use Rattle.event_composes.specs.Kept.{IsKept}
use Rattle.event_composes.specs.Settled.{IsSettledState}
use Rattle.machine_drafts.specs.Machines.{HasAll, state_in_held}
use Rattle.hyper_core.proofs.hyper.Hyper.step.Goals as goal

pub step-requires-clause-settled : goal.step-requires-clause-settled
step-requires-clause-settled g c κs within = subst
    (λ (p : PolicyOf). IsSettledState p (state_in_held c.self.inside.held))
    (sym c.deref.ensures)
    c.self.invariant.1.0

pub invariant_of-self : goal.invariant_of-self
invariant_of-self g c = subst
    (λ (p : PolicyOf). HasAll p c.step.new.held
    × (IsSettledState p (state_in_held c.step.new.held) × IsKept p (state_in_held c.step.new.held) c.step.new.composed))
    c.deref.ensures
    (c.step.ensures.all, (c.step.ensures.settled, c.step.ensures.kept))
