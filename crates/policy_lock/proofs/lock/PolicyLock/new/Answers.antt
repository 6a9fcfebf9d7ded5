use Rattle.std.proofs.Common.{rules, ◌≡◌, ◌∷◌, [], Some, sym, subst}
use Rattle.atomic_table.specs.Table.{opening}
use Rattle.policy_lock.specs.View.{first_view}
use Rattle.policy_lock.specs.Rule.{Kept}
use Rattle.policy_lock.proofs.Splits.{starts}
use Rattle.policy_lock.proofs.lock.PolicyLock.new.Goals as goal

pub new-requires-2 : goal.new-requires-2
new-requires-2 g c = let mg = g.M.Machine in let start = mg.meaning c.of-about.result.value in
    let items : c.push_reserved.new.self.items ≡ Some c.in_ok-locked.locked ∷ [] = search rules in
    subst (λ l. Kept mg start (opening (0 ∷ []) l (first_view start))) (sym items)
    (starts mg start c.in_ok-locked.locked (search rules))
