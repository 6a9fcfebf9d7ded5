-- The order of matches by their bytes.
use Rattle.std.proofs.Common.{◌≡◌, List, [], ◌∷◌, ℕ, arith, refl, ◌∙◌, ap, sym, nat_cmp}
use Rattle.std.specs.Prelude.{◌↔◌}
use Rattle.std.specs.Ordering.{ordering_then}
use Rattle.std.proofs.lemmas.Bool.Decides.{nat_tests}
use Rattle.std.specs.Cmp.{IsTotalOrder}
use Rattle.std.specs.Cmp.Lexicographic.{slice_cmp, on_texts}
use Rattle.std.specs.declared.cmp.Ordering.{Ordering}
use Rattle.std.specs.declared.cmp.Ordering.TheVariants.{Equal}
use Rattle.std.proofs.lemmas.Map.Lookups.{exact_bytes}
use Rattle.of10_match.specs.Fields.{MatchOf}
use Rattle.of10_match.specs.Order.{by_bytes}
use Rattle.of10_match.specs.Ranges.{IsMatch}
use Rattle.of10_match.specs.OfpMatchFields.{fields_in}
use Rattle.of10_match.specs.Wildcards.{match_bytes, named}
use Rattle.of10_match.proofs.ReadingBack.{match_bytes-injective}

pub by_bytes_total : IsTotalOrder by_bytes
by_bytes_total = on_texts match_bytes

pub by_bytes-equal : (m n : MatchOf) → IsMatch m → IsMatch n → by_bytes m n ≡ Equal → m ≡ n
by_bytes-equal m n p q e = match_bytes-injective m n p q (exact_bytes _ _ e)

bytes_self : (xs : List ℕ) → slice_cmp nat_cmp xs xs ≡ Equal
bytes_self [] = refl
bytes_self (x ∷ xs) = ap (λ o. ordering_then o (slice_cmp nat_cmp xs xs)) (number_self x) ∙ bytes_self xs where
  number_self : (n : ℕ) → nat_cmp n n ≡ Equal
  number_self n = grind (arith, nat_tests)

-- what a comparison of bytes says of the matches that they name
pub by_bytes_exact : (r : Ordering) (xs ys : List ℕ) (m n : MatchOf) → r ≡ slice_cmp nat_cmp xs ys
    → named (fields_in xs) ≡ m → named (fields_in ys) ≡ n → xs ≡ match_bytes m → ys ≡ match_bytes n
    → (r ≡ Equal) ↔ (m ≡ n)
by_bytes_exact r xs ys m n e names_m names_n writes_m writes_n = (
  λ t. sym names_m ∙ (ap (λ bytes. named (fields_in bytes)) (exact_bytes xs ys (sym e ∙ t)) ∙ names_n),
  λ s. e
      ∙ (ap (slice_cmp nat_cmp xs) (writes_n ∙ (ap match_bytes (sym s) ∙ sym writes_m)) ∙ bytes_self xs),
)
