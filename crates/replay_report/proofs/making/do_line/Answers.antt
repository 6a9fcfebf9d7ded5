use Rattle.std.proofs.Common.{length}
use Rattle.replay_report.proofs.Stepping.{line_counts, stepped, used_some, used_within}
use Rattle.replay_report.proofs.making.do_line.Goals as goal

pub line-requires-clause-some : goal.line-requires-clause-some
line-requires-clause-some g c ks lives = used_some c.used.result (length c.args.line.now) c.used.ensures

pub line-requires-clause-short : goal.line-requires-clause-short
line-requires-clause-short g c ks lives = used_within c.used.result (length c.args.line.now) c.used.ensures

pub line-requires-clause-ready : goal.line-requires-clause-ready
line-requires-clause-ready g c ks lives = c.requires.ready

pub returns-clause-stepped : goal.returns-clause-stepped
returns-clause-stepped g c =
    stepped c.line.result c.args.player.now c.line.new.self c.args.line.now c.used.result
    c.requires.form c.requires.report c.used.ensures c.line.ensures.takes

pub returns-clause-form : goal.returns-clause-form
returns-clause-form g c = c.line.ensures.form

pub returns-clause-plan : goal.returns-clause-plan
returns-clause-plan g c = c.line.ensures.plan

pub returns-clause-ready : goal.returns-clause-ready
returns-clause-ready g c = c.line.ensures.ready

pub returns-clause-steps : goal.returns-clause-steps
returns-clause-steps g c =
    line_counts c.args.player.now c.args.line.now c.used.result c.args.steps.now c.line.new.steps c.requires.form
    c.used.ensures c.line.ensures.steps
