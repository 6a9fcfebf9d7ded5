-- Texts that grow by pieces.
use Rattle.std.proofs.Common.{◌≡◌, ℕ, List, ◌++◌, ap, ◌∙◌}
use Rattle.std.proofs.Common.{append_assoc}

-- two pieces are one
pub join : (t a b : List ℕ) → {t1 t2 : List ℕ} → t1 ≡ t ++ a → t2 ≡ t1 ++ b → t2 ≡ t ++ (a ++ b)
join t a b {t1} {t2} p q = q ∙ (ap (λ z. z ++ b) p ∙ append_assoc t a b)
