use Rattle.std.proofs.Common.{◌≡◌, ◌+◌, ◌∙◌, ap, subst, Ok, OnOk, Result, nat_eq, unwrap_or}
use Rattle.indexmap.specs.IndexMap.{get}
use Rattle.member_table.proofs.Ranking.{counted_set}
use Rattle.member_table.proofs.rank_counts.add.Goals as goal

-- what stands after a success
put_by : {X E : Type 0} (r : Result X E) (x : X) → r ≡ Ok x → (P : Type 0) → OnOk r P → P
put_by r x e P h = let Q : Result _ _ → Type 0 = λ o. OnOk o P in subst Q e h

pub returns-clause-counted : goal.returns-clause-counted
returns-clause-counted c = λ q.
    let set = put_by c.insert.result c.unwrap.result c.unwrap.ensures _ c.insert.ensures.updates in
    ap (λ o. unwrap_or o 0) (set.0 q)
    ∙ counted_set (get nat_eq c.args.counts.now) c.args.rank _ _ q (ap (λ n. n + 1) c.count-before.ensures)
