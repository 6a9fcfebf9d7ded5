use Rattle.std.proofs.Common.{◌≡◌, ◌∙◌, ◌&&◌, ℕ, Bool, true, false, ap, refl, sym}
use Rattle.std.specs.Prelude.{◌==◌}
use Rattle.std.proofs.lemmas.Bool.Decides.{Decides-eqb}
use Rattle.of10_match.specs.Same.{same_match}
use Rattle.shared_rows.proofs.keys.is_same_key.Goals as goal

and_false : (a : Bool) → (a && false) ≡ false
and_false true = refl
and_false false = refl

differs : (m n : ℕ) → (m ≡ n → ⊥) → (m == n) ≡ false
differs m n apart = by (m == n) refl
  where
    by : (b : Bool) → (m == n) ≡ b → (m == n) ≡ false
    by true e = absurd (apart ((Decides-eqb m n).0 e))
    by false e = e

pub returns-else-first-second : goal.returns-else-first-second
returns-else-first-second c =
    let first = c.args.first.now in
    let second = c.args.second.now in
    let apart = differs first.priority second.priority c.if-first-second.false in
    let same = same_match first.m second.m in
    apart ∙ sym (ap (λ b. same && b) apart ∙ and_false same)
