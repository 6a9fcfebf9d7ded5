use Rattle.std.proofs.Common.{◌∙◌, sym}
use Rattle.packet_map.proofs.Finding.{rising-at}
use Rattle.packet_map.proofs.Following.{sent-ends, sent-goes}
use Rattle.packet_map.proofs.sending.sent.Goals as goal

pub effects-requires-clause-rising : goal.effects-requires-clause-rising
effects-requires-clause-rising c = rising-at c.args.world.now.grants.now c.args.member c.in-Some.grant.now
    c.requires.rising (sym c.in-Some.ensures.value)

pub returns-in-None : goal.returns-in-None
returns-in-None c =
    sent-ends c.args.world.now c.args.member c.args.m.now c.args.h.now c.in-Some.grant.now c.in_ok-effects.effects
    c.nowhere-walked.result c.add_outs.new.walked c.add_outs.new.walked c.new.result c.ingress.result
    (sym c.in-Some.ensures.value) c.in_ok-effects.ensures.meaning c.nowhere-walked.ensures c.new.ensures
    c.ingress.ensures c.in_ok-add_outs.ensures (sym c.in-None.is ∙ c.taken_up.ensures)

pub returns : goal.returns
returns c =
    sent-goes c.args.world.now c.args.member c.args.m.now c.args.h.now c.in-Some.grant.now c.in_ok-effects.effects
    c.nowhere-walked.result c.add_outs.new.walked c.follow.new.walked c.new.result c.ingress.result
    (sym c.in-Some.ensures.value) c.in_ok-effects.ensures.meaning c.nowhere-walked.ensures c.new.ensures
    c.ingress.ensures c.in_ok-add_outs.ensures
    c.in-Some-taken_up.on c.arriving.result (sym c.in-Some-taken_up.is ∙ c.taken_up.ensures) c.arriving.ensures
    c.in_ok-follow-in-Some-taken_up.ensures
