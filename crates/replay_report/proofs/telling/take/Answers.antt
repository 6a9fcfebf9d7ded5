use Rattle.std.proofs.Common.{◌∙◌, ℕ, Option, List, ap, subst, sym}
use Rattle.events.specs.declared.event.Event.TheVariants.{Take}
use Rattle.machine_drafts.specs.Machines.{state_of}
use Rattle.machine_meaning.specs.Steps.{step_of}
use Rattle.replay_report.specs.Takings.{TakesFirst}
use Rattle.replay_report.proofs.Counting.{taking_counts}
use Rattle.replay_report.proofs.Takes.{takes_first}
use Rattle.replay_report.proofs.telling.take.Goals as goal

pub returns-clause-taken : goal.returns-clause-taken
returns-clause-taken g c =
    let p = c.args.machine.now.plan in
    let s = state_of c.args.machine.now in
    let who = c.args.who in
    let stepped = c.in_ok-reply.ensures.step
    ∙ ap (λ (n : ℕ). step_of p s (Take (record { who = who; round = n }))) c.round.ensures in
    subst (λ (o : Option (List ℕ)). TakesFirst o who s (state_of c.step.new.machine)) (sym c.message_in.ensures)
    (takes_first p who s (state_of c.step.new.machine) c.in_ok-reply.reply stepped)

pub returns-clause-steps : goal.returns-clause-steps
returns-clause-steps g c =
    taking_counts c.args.machine.now.plan (state_of c.args.machine.now)
    (record { who = c.args.who; round = c.round.result }) c.args.steps.now c.step.new.steps c.step.ensures.steps

pub returns-in_err-reply-clause-steps : goal.returns-in_err-reply-clause-steps
returns-in_err-reply-clause-steps g c =
    taking_counts c.args.machine.now.plan (state_of c.args.machine.now)
    (record { who = c.args.who; round = c.round.result }) c.args.steps.now c.step.new.steps c.step.ensures.steps
