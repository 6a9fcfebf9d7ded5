use Rattle.std.proofs.Common.{◌≡◌, ◌∙◌, Result, Ok, OnOk, subst}
use Rattle.indexmap.proofs.CallerLemmas.{insert_entry-new}
use Rattle.exact_gate.specs.Standing.{one_key}
use Rattle.exact_gate.proofs.buckets.put.Goals as goal

-- what stands after a success
after_ok : {X E : Type 0} (r : Result X E) (x : X) → r ≡ Ok x → (P : Type 0) → OnOk r P → P
after_ok r x e P h = let Q : Result _ _ → Type 0 = λ o. OnOk o P in subst Q e h

pub returns-clause-entries : goal.returns-clause-entries
returns-clause-entries c =
    after_ok c.insert.result c.unwrap.result c.unwrap.ensures _ c.insert.ensures.entries
    ∙ insert_entry-new one_key c.args.buckets.now c.args.key c.args.bucket c.requires.absent
