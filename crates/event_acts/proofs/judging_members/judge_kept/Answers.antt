use Rattle.std.proofs.Common.{subst}
use Rattle.std.specs.Prelude.{IfOk}
use Rattle.of10_actions.specs.declared.effects.PortView.{PortView}
use Rattle.event_acts.specs.InsideJudging.{IsJudged}
use Rattle.event_acts.proofs.judging_members.judge_kept.Goals as goal

pub returns-clause-judged : goal.returns-clause-judged
returns-clause-judged c =
    subst
    (λ (v : PortView). IfOk c.judge.result (IsJudged c.args.m.now.grant v c.judge.new.kept c.args.now c.args.frame.now))
    c.in-Some.ensures.ports c.judge.ensures.judged
