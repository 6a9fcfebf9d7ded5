use Rattle.std.proofs.Common.{◌∙◌}
use Rattle.replay_report.proofs.Stepping.{line_counted, unowed}
use Rattle.replay_report.proofs.making.play_line.Goals as goal

pub do_line-requires-clause-form : goal.do_line-requires-clause-form
do_line-requires-clause-form g c ks lives = c.requires.form

pub do_line-requires-clause-report : goal.do_line-requires-clause-report
do_line-requires-clause-report g c ks lives = c.requires.report

pub do_line-requires-clause-ready : goal.do_line-requires-clause-ready
do_line-requires-clause-ready g c ks lives = c.requires.ready

-- once a line was done, or not
pub returns-clause-tally : goal.returns-clause-tally
returns-clause-tally g c =
    line_counted c.in_ok-refused.refused c.args.player.now c.do_line.new.player c.clear.new.self
    c.args.counts.now c.count_line.new.counts c.args.line.now c.report.result.now
    c.in_ok-refused.ensures.stepped c.report.ensures c.in_ok-count_line.ensures c.clear.ensures.progress

pub returns-clause-form : goal.returns-clause-form
returns-clause-form g c = c.clear.ensures.form ∙ c.do_line.ensures.form ∙ c.requires.form

pub returns-clause-plan : goal.returns-clause-plan
returns-clause-plan g c = c.clear.ensures.plan ∙ c.do_line.ensures.plan

pub returns-clause-report : goal.returns-clause-report
returns-clause-report g c = c.clear.ensures.report

pub returns-clause-ready : goal.returns-clause-ready
returns-clause-ready g c = c.clear.ensures.ready c.in_ok-refused.ensures.ready

pub returns-clause-steps : goal.returns-clause-steps
returns-clause-steps g c = c.do_line.ensures.steps

-- after want of memory
pub returns-in_err-refused-clause-tally : goal.returns-in_err-refused-clause-tally
returns-in_err-refused-clause-tally g c = unowed c.from_residual.result _ c.from_residual.ensures.0

pub returns-in_err-refused-clause-form : goal.returns-in_err-refused-clause-form
returns-in_err-refused-clause-form g c = unowed c.from_residual.result _ c.from_residual.ensures.0

pub returns-in_err-refused-clause-plan : goal.returns-in_err-refused-clause-plan
returns-in_err-refused-clause-plan g c = unowed c.from_residual.result _ c.from_residual.ensures.0

pub returns-in_err-refused-clause-report : goal.returns-in_err-refused-clause-report
returns-in_err-refused-clause-report g c = unowed c.from_residual.result _ c.from_residual.ensures.0

pub returns-in_err-refused-clause-ready : goal.returns-in_err-refused-clause-ready
returns-in_err-refused-clause-ready g c = unowed c.from_residual.result _ c.from_residual.ensures.0

pub returns-in_err-refused-clause-steps : goal.returns-in_err-refused-clause-steps
returns-in_err-refused-clause-steps g c = c.do_line.ensures.steps

pub returns-in_err-count_line-clause-tally : goal.returns-in_err-count_line-clause-tally
returns-in_err-count_line-clause-tally g c =
    unowed c.from_residual-in_err-count_line.result _ c.from_residual-in_err-count_line.ensures.0

pub returns-in_err-count_line-clause-form : goal.returns-in_err-count_line-clause-form
returns-in_err-count_line-clause-form g c =
    unowed c.from_residual-in_err-count_line.result _ c.from_residual-in_err-count_line.ensures.0

pub returns-in_err-count_line-clause-plan : goal.returns-in_err-count_line-clause-plan
returns-in_err-count_line-clause-plan g c =
    unowed c.from_residual-in_err-count_line.result _ c.from_residual-in_err-count_line.ensures.0

pub returns-in_err-count_line-clause-report : goal.returns-in_err-count_line-clause-report
returns-in_err-count_line-clause-report g c =
    unowed c.from_residual-in_err-count_line.result _ c.from_residual-in_err-count_line.ensures.0

pub returns-in_err-count_line-clause-ready : goal.returns-in_err-count_line-clause-ready
returns-in_err-count_line-clause-ready g c =
    unowed c.from_residual-in_err-count_line.result _ c.from_residual-in_err-count_line.ensures.0

pub returns-in_err-count_line-clause-steps : goal.returns-in_err-count_line-clause-steps
returns-in_err-count_line-clause-steps g c = c.do_line.ensures.steps
