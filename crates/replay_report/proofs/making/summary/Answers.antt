use Rattle.std.proofs.Common.{◌≡◌, ◌≤◌, ◌+◌, ◌∙◌, ap, subst, sym}
use Rattle.std.specs.Prelude.{IfOk}
use Rattle.policies.specs.Policies.{PolicyOf}
use Rattle.replay_report.specs.Making.{first, script_steps, summary_in}
use Rattle.replay_report.proofs.Stepping.{none_counted, unowed}
use Rattle.replay_report.proofs.making.summary.Goals as goal

pub returns-clause-summary : goal.returns-clause-summary
returns-clause-summary g c =
    subst (λ (p : PolicyOf). IfOk c.tell-told.result (λ summary. summary ≡ summary_in p c.args.script))
    c.in_ok-player.ensures.plan c.tell-told.ensures.summary

pub returns-clause-steps : goal.returns-clause-steps
returns-clause-steps g c =
    subst (λ (p : PolicyOf). c.tell-told.new.steps ≤ c.args.steps.now + script_steps p c.args.script)
    c.in_ok-player.ensures.plan c.tell-told.ensures.steps

pub tell-told-requires-clause-form : goal.tell-told-requires-clause-form
tell-told-requires-clause-form g c ks lives = c.in_ok-player.ensures.form

pub tell-told-requires-clause-first : goal.tell-told-requires-clause-first
tell-told-requires-clause-first g c ks lives = c.in_ok-player.ensures.first ∙ ap first (sym c.in_ok-player.ensures.plan)

pub tell-told-requires-clause-report : goal.tell-told-requires-clause-report
tell-told-requires-clause-report g c ks lives = c.in_ok-player.ensures.report

pub tell-told-requires-clause-lines : goal.tell-told-requires-clause-lines
tell-told-requires-clause-lines g c ks lives = c.requires

pub tell-told-requires-clause-ready : goal.tell-told-requires-clause-ready
tell-told-requires-clause-ready g c ks lives = c.in_ok-player.ensures.ready

-- after want of memory
pub returns-in_err-player-clause-summary : goal.returns-in_err-player-clause-summary
returns-in_err-player-clause-summary g c = unowed c.from_residual.result _ c.from_residual.ensures.0

pub returns-in_err-player-clause-steps : goal.returns-in_err-player-clause-steps
returns-in_err-player-clause-steps g c = none_counted (script_steps c.args.policy c.args.script) c.args.steps.now
