use Rattle.std.proofs.Common.{◌≡◌, ap, true, sym, Option, Some, ◌∙◌}
use Rattle.policy_meaning.specs.declared.leaf.LeafTable.{LeafTable}
use Rattle.packet_map.specs.Answers.{table_of}
use Rattle.packet_map.proofs.Finding.{rising-at}
use Rattle.explain_path.specs.Traces.{asked_member}
use Rattle.explain_path.proofs.asking.met_at.Goals as goal

pub ask_member-requires : goal.ask_member-requires
ask_member-requires c = rising-at c.args.world.now.grants.now c.args.index c.in-Some.member.grant.now c.requires
    c.in-Some.ensures.grant

pub returns-in_ok-met-in-Some-clause-leaf : goal.returns-in_ok-met-in-Some-clause-leaf
returns-in_ok-met-in-Some-clause-leaf c =
    let h = c.args.header.now in
    let here : record { member = c.args.index; kind = c.in_ok-met-in-Some.met.kind; used = true }
    ≡ asked_member c.args.index (Some (table_of c.in-Some.member)) h =
    λ i. record { member = sym c.in-Some.ensures.number i; kind = c.in_ok-met-in-Some.ensures.kind i; used = true } in
    here ∙ ap (λ (o : Option LeafTable). asked_member c.args.index o h) c.in-Some.ensures.table
