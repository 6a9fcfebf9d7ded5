-- What the meet of two matches says of their headers.
use Rattle.std.proofs.Common.{◌≡◌, Bool, true, false, ◌&&◌, Option, Some, None, refl, ◌∙◌, ap, sym, subst}
use Rattle.std.specs.Prelude.{IfSome, if◌then◌else◌}
use Rattle.std.proofs.Math.Bool.{and-true}
use Rattle.of10_match.specs.Fields.{MatchOf}
use Rattle.of10_match.specs.Matching.{holds, overlaps, both, meet}
use Rattle.of10_match.specs.Normal.{IsNormal}
use Rattle.of10_match.specs.Ranges.{IsMatch}
use Rattle.of10_match.specs.Sets.{IsMeet}
use Rattle.of10_match.proofs.Commuting.{both-comm, overlaps-comm}
use Rattle.of10_match.proofs.FieldTests.{overlaps-fields}
use Rattle.of10_match.proofs.Holding.{holds-both}
use Rattle.of10_match.proofs.NormalMeet.{IsNormal-both}

headers-cases : (m n : MatchOf) (b : Bool) → overlaps m n ≡ b
    → IfSome (if b then Some (both m n) else None) (IsMeet m n)
headers-cases m n true e = λ h. sym (and-true (holds (both m n) h))
    ∙ (sym (ap (λ (b : Bool). holds (both m n) h && b) e) ∙ holds-both m n h)
headers-cases m n false e = tt

-- it holds the headers of both
pub meet_headers : (r : Option MatchOf) (m n : MatchOf) → r ≡ meet m n → IfSome r (IsMeet m n)
meet_headers r m n e =
    let P : Option MatchOf → Type 0 = λ o. IfSome o (IsMeet m n) in
    subst P (sym e) (headers-cases m n (overlaps m n) refl)

normal-cases : (m n : MatchOf) → IsNormal m → IsNormal n → (b : Bool) → overlaps m n ≡ b
    → IfSome (if b then Some (both m n) else None) IsNormal
normal-cases m n p q true e = IsNormal-both m n e p q
normal-cases m n p q false e = tt

-- it is normal where both are
pub meet_normal : (r : Option MatchOf) (m n : MatchOf) → r ≡ meet m n → IsNormal m → IsNormal n → IfSome r IsNormal
meet_normal r m n e p q =
    let P : Option MatchOf → Type 0 = λ o. IfSome o IsNormal in
    subst P (sym e) (normal-cases m n p q (overlaps m n) refl)

-- it is the meet in the other order
pub both_commutes : (r m n : MatchOf) → overlaps m n ≡ true → IsMatch m → IsMatch n → r ≡ both m n → r ≡ both n m
both_commutes r m n o p q e = e ∙ both-comm m n p q (overlaps-fields m n o)

pub meet_commutes : (r m n : MatchOf) → overlaps m n ≡ true → r ≡ both n m → Some r ≡ meet n m
meet_commutes r m n o e =
    ap (λ (r : MatchOf). Some r) e
    ∙ sym (ap (λ (b : Bool). if b then Some (both n m) else None) (sym (overlaps-comm m n) ∙ o))

pub apart_commutes : (m n : MatchOf) → overlaps m n ≡ false → None ≡ meet n m
apart_commutes m n e = sym (ap (λ (b : Bool). if b then Some (both n m) else None) (sym (overlaps-comm m n) ∙ e))
