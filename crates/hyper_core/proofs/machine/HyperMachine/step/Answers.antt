use denote.Param.Send.{sendable}
use Rattle.std.proofs.Common.{◌+◌, ◌≤◌, ℕ, subst}
use Rattle.event_composes.proofs.Bounds.{cost_is, most_is}
use Rattle.event_composes.proofs.Meanings.{step_is}
use Rattle.hyper_core.proofs.machine.HyperMachine.step.Goals as goal

pub returns-clause-stepped : goal.returns-clause-stepped
returns-clause-stepped g c =
    step_is c.args.self.now c.step.new.self c.args.event.now c.step.result c.step.ensures.plan c.step.ensures.step
    c.step.ensures.memory

pub returns-clause-cost : goal.returns-clause-cost
returns-clause-cost g c ready =
    subst (λ (n : ℕ). c.step.new.steps ≤ c.args.steps.now + n) (cost_is c.args.self.now c.args.event.now)
    (c.step.ensures.cost ready)

pub returns-clause-most : goal.returns-clause-most
returns-clause-most g c =
    subst (λ (n : ℕ). c.step.new.steps ≤ c.args.steps.now + n) (most_is c.args.self.now c.args.event.now)
    c.step.ensures.most

pub step-requires-sync-R : goal.step-requires-sync-R
step-requires-sync-R g c ks lives = search (c.requires, sendable) depth 10
