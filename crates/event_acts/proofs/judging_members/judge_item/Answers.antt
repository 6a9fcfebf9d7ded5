use Rattle.std.proofs.Common.{◌<◌, length, get_or, arith}
use Rattle.machine_drafts.specs.declared.session.Member.{Member}
use Rattle.event_acts.proofs.WasJudged.{judged_there, state_kept}
use Rattle.event_acts.proofs.judging_members.judge_item.Goals as goal

pub returns-in_err-judged-clause-state : goal.returns-in_err-judged-clause-state
returns-in_err-judged-clause-state c =
    state_kept c.args.members.now c.args.n c.index-members-n.result c.judge_kept.new.kept c.judge_kept.ensures.state

pub returns-clause-state : goal.returns-clause-state
returns-clause-state c =
    state_kept c.args.members.now c.args.n c.index-members-n.result c.judge_kept.new.kept c.judge_kept.ensures.state

pub returns-clause-judged : goal.returns-clause-judged
returns-clause-judged c =
    let lt : c.args.n < length c.args.members.now = omega arith in
    let here : Member = get_or c.args.members.now c.args.n c.index-members-n.result in
    judged_there c.args.setup.now c.args.n c.args.now c.args.frame.now c.in_ok-judged.judged c.args.members.now
    c.args.m.now (record here { kept = c.judge_kept.new.kept }) lt c.requires.item c.in_ok-judged.ensures.judged
