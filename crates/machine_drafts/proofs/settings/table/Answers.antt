use Rattle.std.proofs.Common.{◌≡◌, ◌∙◌, IfOk, subst}
use Rattle.member_state.specs.Leaves.{leaf_of}
use Rattle.member_state.specs.States.{MemberStateOf}
use Rattle.policy_meaning.specs.declared.leaf.LeafTable.{LeafTable}
use Rattle.machine_drafts.proofs.settings.table.Goals as goal

pub returns : goal.returns
returns c = subst
    (λ (k : MemberStateOf). IfOk c.leaf_table-table.result
    (λ (t : LeafTable). t ≡ leaf_of c.args.n c.args.item.now.grant k))
    (c.state.ensures ∙ c.in_ok-kept.ensures) c.leaf_table-table.ensures
