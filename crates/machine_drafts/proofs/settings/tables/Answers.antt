use Rattle.std.proofs.Common.{subst, sym}
use Rattle.std.proofs.lemmas.List.Elements.{All-get_or}
use Rattle.of10_actions.specs.Ports.{AreRising}
use Rattle.policies.specs.declared.policy.MemberItem.{MemberItem}
use Rattle.machine_drafts.proofs.settings.tables.Goals as goal

pub table-requires : goal.table-requires
table-requires c =
    let x = c.index-items-n.result in
    let rising = λ (m : MemberItem). AreRising m.grant.ports in
    subst rising (sym c.index-items-n.is) (All-get_or rising c.args.items.now c.loop-n.n x c.loop-n-test.true
    c.requires.rising)
