use Rattle.std.proofs.Common.{[], ◌∷◌, subst, sym}
use Rattle.std.specs.List.{AllByRecursion}
use Rattle.policy_meaning.specs.LeafFact.{IsSoundTable}
use Rattle.policy_meaning.proofs.Lists.{all-append}
use Rattle.random_changes.proofs.members.empty_tables.Goals as goal

pub loop-member-init : goal.loop-member-init
loop-member-init c = subst (AllByRecursion IsSoundTable) (sym c.new-tables.ensures) tt

pub loop-member-preserved : goal.loop-member-preserved
loop-member-preserved c =
    subst (AllByRecursion IsSoundTable) (sym c.in_ok-push.ensures.pushed)
    (all-append IsSoundTable c.loop-member.tables (c.in_ok-table.table ∷ []) c.loop-member.invariant
    (c.in_ok-table.ensures, tt))
