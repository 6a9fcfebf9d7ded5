-- The next cookie after some entries, and after some batches.
use Rattle.std.proofs.Common.{◌≡◌, ℕ, zero, suc, ◌+◌, ◌<◌, ◌≤◌, List, [], ◌∷◌, ◌++◌, length, drop, refl, ap, ◌∙◌, arith}
use Rattle.std.specs.Prelude.{if◌then◌else◌}
use Rattle.install_plan.specs.Tables.{after}
use Rattle.install_plan.specs.declared.written.Written.{Written}
use Rattle.switch_tables.specs.Turning.{after_all, cookie_after}
use Rattle.switch_tables.specs.declared.tables.SwitchBatch.{SwitchBatch}

pub after_next : (c : ℕ) (adds : List Written) (i : ℕ) → i < length adds
    → after_all (after c) (drop (i + 1) adds) ≡ after_all c (drop i adds)
after_next c [] i lt = absurd (omega arith)
after_next c (w ∷ ws) zero lt = let one : 0 + 1 ≡ suc 0 = omega arith in
    ap (λ (n : ℕ). after_all (after c) (drop n (w ∷ ws))) one
after_next c (w ∷ ws) (suc i) lt =
    let next : suc i + 1 ≡ suc (i + 1) = omega arith in
    ap (λ (n : ℕ). after_all (after c) (drop n (w ∷ ws))) next ∙ after_next c ws i (omega arith)

pub after_end : (c : ℕ) (adds : List Written) (i : ℕ) → length adds ≤ i → after_all c (drop i adds) ≡ c
after_end c [] zero le = refl
after_end c [] (suc i) le = refl
after_end c (w ∷ ws) zero le = absurd (omega arith)
after_end c (w ∷ ws) (suc i) le = after_end c ws i (omega arith)

pub cookie-more : (c : ℕ) (bs : List SwitchBatch) (b : SwitchBatch)
    → cookie_after c (bs ++ b ∷ []) ≡ cookie_after (cookie_after c bs) (b ∷ [])
cookie-more c [] b = refl
cookie-more c (d ∷ ds) b = cookie-more (if d.up then after_all c d.batch.adds else c) ds b
