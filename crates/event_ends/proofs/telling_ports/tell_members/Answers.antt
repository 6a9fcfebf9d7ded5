use Rattle.std.proofs.Common.{◌<◌, length, subst, sym}
use Rattle.std.proofs.lemmas.List.Elements.{All-get_or}
use Rattle.policies.specs.declared.policy.MemberItem.{MemberItem}
use Rattle.event_ends.proofs.telling_ports.tell_members.Goals as goal

pub tell_member-requires : goal.tell_member-requires
tell_member-requires c =
    let many = length c.args.setup.now.virtuals in
    subst (λ (m : MemberItem). m.grant.ports.v < many) (sym c.m-item.is)
    (All-get_or (λ (m : MemberItem). m.grant.ports.v < many) c.members-m-items.result.now c.loop-n.n c.m-item.result
    c.loop-n-test.true c.members-m-items.ensures.there)
