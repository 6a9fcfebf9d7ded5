use Rattle.std.proofs.Common.{ap, subst, sym}
use Rattle.std.specs.List.{AllByRecursion}
use Rattle.member_state.specs.States.{MemberStateOf}
use Rattle.policy_meaning.specs.declared.leaf.LeafTable.{LeafTable}
use Rattle.leaf_changes.specs.Told.{IsFitting}
use Rattle.leaf_changes.proofs.Told.{all_fitting, state_good}
use Rattle.leaf_changes.proofs.anew.all_entries.Goals as goal

pub returns-clause-fitting : goal.returns-clause-fitting
returns-clause-fitting c =
    let after = c.in_ok-after.after in
    let sound = c.table.ensures.sound in
    subst (λ n. AllByRecursion (IsFitting n) c.in_ok-table.table.entries)
    (ap (λ (y : MemberStateOf). y.levels.size) c.in_ok-after.ensures)
    (subst (λ (t : LeafTable). AllByRecursion (IsFitting after.state.levels.size) t.entries) (sym c.in_ok-table.ensures)
    (all_fitting after.state.levels c.args.member c.args.grant.now.ports sound.kept.levels after.state.table.entries
    (state_good after sound)))
