use Rattle.std.proofs.Common.{◌∙◌, ◌++◌, ap}
use Rattle.std.specs.Prelude.{option_to_list}
use Rattle.std.proofs.lemmas.Result.{on_ok_weaker}
use Rattle.member_state.specs.InsideRanks.{rank_if_added}
use Rattle.member_state.specs.Plans.{after_planned}
use Rattle.member_state.proofs.Plans.{drop_after, drop_keeps}
use Rattle.leaf_changes.proofs.PlansMade.{drop-is-plan}
use Rattle.leaf_changes.proofs.plans.plan_drop.Goals as goal

pub returns-clause-dropped : goal.returns-clause-dropped
returns-clause-dropped c =
    let x = c.args.kept.now.state in
    let p = c.args.planned.now in
    on_ok_weaker c.add_drop.result
    (λ e now. ap (λ q. after_planned x q now) e
    ∙ drop_after x p c.args.serial
    (p.ranks ++ (option_to_list c.rank_of-rank.result
    ++ option_to_list (rank_if_added c.args.serial p.change.added))) now) c.add_drop.ensures.dropped

pub returns-clause-ready : goal.returns-clause-ready
returns-clause-ready c = λ r.
    drop_keeps c.add_drop.result c.args.kept.now c.args.planned.now c.add_drop.new.planned c.args.serial
    c.rank_of-rank.result c.table.ensures.sound.table c.rank_of-rank.ensures c.add_drop.ensures.dropped
    c.add_drop.ensures.memory r

pub returns-clause-plan : goal.returns-clause-plan
returns-clause-plan c = λ plan.
    drop-is-plan c.add_drop.result c.args.kept.now.state c.args.planned.now c.add_drop.new.planned c.args.serial
    c.rank_of-rank.result c.add_drop.ensures.dropped c.add_drop.ensures.memory plan
