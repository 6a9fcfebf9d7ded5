-- Two matches overlap exactly where some header is in both.
use Rattle.std.proofs.Common.{◌≡◌, true, Bool, ◌&&◌, ◌∙◌, sym}
use Rattle.std.specs.Prelude.{◌↔◌, IsTrue}
use Rattle.of10_match.specs.Fields.{MatchOf}
use Rattle.of10_match.specs.Matching.{holds, both, overlaps}
use Rattle.of10_match.specs.Ranges.{IsMatch}
use Rattle.of10_match.specs.Sets.{Overlap}
use Rattle.of10_match.proofs.Twelve.{and-first, and-second, and-intro}
use Rattle.of10_match.proofs.Holding.{holds-both}
use Rattle.of10_match.proofs.FieldTests.{holds-intro}
use Rattle.of10_match.proofs.Both.{IsMatch-both}
use Rattle.of10_match.proofs.Addresses.{first_address, Picks-first}
use Rattle.of10_match.proofs.Sample.{sample, zeros, Fits-sample, IsHeader-sample, IsHeader-zeros}

Overlap-from_test : (m n : MatchOf) → IsMatch m → IsMatch n → overlaps m n ≡ true → Overlap m n
Overlap-from_test m n p q e =
    let b = both m n in
    let in_range = IsMatch-both m n p q in
    let h = sample first_address zeros b in
    let in_both : holds b h ≡ true = holds-intro b h (Fits-sample first_address zeros b Picks-first in_range) in
    let each_holds : (holds m h && holds n h) ≡ true = sym (holds-both m n h)
    ∙ and-intro (holds b h) (overlaps m n) in_both e in
    record {
      header = h;
      is_header = IsHeader-sample first_address zeros b Picks-first IsHeader-zeros in_range;
      in_first = and-first (holds m h) (holds n h) each_holds;
      in_second = and-second (holds m h) (holds n h) each_holds;
    }

overlaps-from_header : (m n : MatchOf) → Overlap m n → overlaps m n ≡ true
overlaps-from_header m n o =
    let h = o.header in
    and-second (holds (both m n) h) (overlaps m n) (holds-both m n h
    ∙ and-intro (holds m h) (holds n h) o.in_first o.in_second)

-- what a test that equals `overlaps` says of headers
pub overlaps_exact : (test : Bool) (m n : MatchOf) → IsMatch m → IsMatch n → test ≡ overlaps m n
    → IsTrue test ↔ Overlap m n
overlaps_exact test m n p q e =
    (λ t. Overlap-from_test m n p q (sym e ∙ t), λ o. e ∙ overlaps-from_header m n o)
