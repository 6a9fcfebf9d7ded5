use Rattle.std.proofs.Common.{rules, ◌∷◌, Some, ap, sym, ◌∙◌}
use Rattle.atomic_table.specs.Table.{rest}
use Rattle.policy_lock.proofs.Keeps.{takes_it}
use Rattle.policy_lock.proofs.lock.PolicyLock.take.Goals as goal

pub compare_exchange-found-requires : goal.compare_exchange-found-requires
compare_exchange-found-requires g c =
    (search rules, search rules, takes_it g.M.Machine _ _ _ _ _ _ (search rules) (search rules) (search rules))

pub exchange-requires : goal.exchange-requires
exchange-requires g c = let t = c.compare_exchange-found.ensures.2.1 c.if-found-word.true in let e =
    ap (λ m. m.1) t.4 in (search rules, (Some t.1, e ∙ ap (λ l. (0, Some t.1) ∷ rest l) (sym e)))
