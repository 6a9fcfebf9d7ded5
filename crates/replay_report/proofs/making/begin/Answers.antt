use Rattle.replay_report.proofs.Stepping.{begun}
use Rattle.replay_report.proofs.making.begin.Goals as goal

pub returns-clause-form : goal.returns-clause-form
returns-clause-form g c = c.open.ensures.form

pub returns-clause-plan : goal.returns-clause-plan
returns-clause-plan g c = c.open.ensures.plan

pub returns-clause-first : goal.returns-clause-first
returns-clause-first g c = begun c.open.result c.args.policy c.open.ensures.begins

pub returns-clause-report : goal.returns-clause-report
returns-clause-report g c = c.open.ensures.report

pub returns-clause-ready : goal.returns-clause-ready
returns-clause-ready g c = c.open.ensures.ready
