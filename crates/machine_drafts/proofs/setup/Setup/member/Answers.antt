use Rattle.std.proofs.Common.{◌∙◌, ◌<◌, List, ap, length, slice_get}
use Rattle.of10_actions.specs.Ports.{AreRising}
use Rattle.policies.specs.declared.policy.MemberItem.{MemberItem}
use Rattle.machine_drafts.proofs.Found.{copied_each, each_there}
use Rattle.machine_drafts.proofs.setup.Setup.member.Goals as goal

pub returns-clause-member : goal.returns-clause-member
returns-clause-member c = c.member_at.ensures ∙ ap (λ (ms : List MemberItem). slice_get ms c.args.n)
    c.members.ensures.members

pub returns-clause-rising : goal.returns-clause-rising
returns-clause-rising c =
    let ms = c.members.result.now in
    let rising = λ (m : MemberItem). AreRising m.grant.ports in
    copied_each rising c.member_at.result (slice_get ms c.args.n) c.member_at.ensures
    (each_there rising ms c.args.n c.members.ensures.rising)

pub returns-clause-there : goal.returns-clause-there
returns-clause-there c =
    let ms = c.members.result.now in
    let there = λ (m : MemberItem). m.grant.ports.v < length c.args.self.now.virtuals in
    copied_each there c.member_at.result (slice_get ms c.args.n) c.member_at.ensures
    (each_there there ms c.args.n c.members.ensures.there)
