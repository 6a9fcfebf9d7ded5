-- What pulls and images hold.
use Rattle.std.proofs.Common.{◌≡◌, ℕ, ◌<◌, ◌^◌, ◌%◌, Bool, true, false, ◌&&◌, Option, Some, None, refl, ◌∙◌, sym, ap}
use Rattle.std.proofs.Common.{subst, arith, rules}
use Rattle.std.specs.Prelude.{IfSome, IsSome, ◌↔◌, if◌then◌else◌}
use Rattle.std.proofs.Math.Bool.{and-true}
use Rattle.std.proofs.lemmas.Bool.{false≢true}
use Rattle.of10_match.specs.Fields.{HeaderOf, MatchOf}
use Rattle.of10_match.specs.Matching.{holds}
use Rattle.of10_match.specs.Normal.{IsNormal}
use Rattle.of10_match.specs.Ranges.{IsMatch, IsPrefix, IsTos}
use Rattle.of10_match.proofs.MeetSelf.{overlaps_self}
use Rattle.of10_match.proofs.Overlapping.{overlaps_exact}
use Rattle.of10_match.proofs.Twelve.{and-false}
use Rattle.of10_actions.specs.Fields.{RewriteOf}
use Rattle.of10_actions.specs.Rewriting.{apply}
use Rattle.pull_back.specs.Pulling.{can_pull, pulled, pull, unset, set_in, whole}
use Rattle.pull_back.specs.Pulls.{IsPullBack, Reaches, PullIsExact, ImageHolds}
use Rattle.pull_back.proofs.PulledMatches.{holds-pulled, holds-image}
use Rattle.pull_back.proofs.Normality.{normal-guarded, normal-pulled}

pub pull_is_exact : PullIsExact
pull_is_exact r m h n = holds-pulled r m h (normal-guarded m n)

pub image_holds : ImageHolds
image_holds r m n h e = holds-image r m h (normal-guarded m n) e

-- what holds of a value that is asked for holds of it where it still is
pub kept : {A B : Type 0} (P : A → Type 0) (b : Bool) (o : Option B) (x : Option A) → IfSome x P
    → IfSome (unset b o x) P
kept P b None x p = p
kept P true (Some v) x p = tt
kept P false (Some v) x p = p

-- and of a value that is known
pub known : {A B : Type 0} (P : A → Type 0) (Q : B → Type 0) (f : B → A) → ((v : B) → Q v → P (f v)) →
    (b : Bool) (o : Option B) (x : Option A) → IfSome o Q → IfSome x P → IfSome (set_in f b o x) P
known P Q f into b None x q p = p
known P Q f into true (Some v) x q p = into v q
known P Q f into false (Some v) x q p = p

pub whole-prefix : (v : ℕ) → v < 2 ^ 32 → IsPrefix (whole v)
whole-prefix v l = (omega arith, omega arith, l, search rules)

-- a byte that is a multiple of 4
pub tos : (o : Option ℕ) → IfSome o (λ v. v < 2 ^ 8) → IfSome o (λ v. v % 4 ≡ 0) → IfSome o IsTos
tos None p q = tt
tos (Some v) p q = (p, q)

module _ (r : RewriteOf) (m : MatchOf) where
  module _ (n : IsNormal m) where
    exact_by : (b : Bool) → can_pull r m ≡ b → IsPullBack r m (if b then Some (pulled r m) else None)
    exact_by true e = λ h. sym (and-true (holds (pulled r m) h))
        ∙ (ap (λ b. holds (pulled r m) h && b) (sym e) ∙ pull_is_exact r m h n)
    exact_by false e = λ h. sym (pull_is_exact r m h n)
        ∙ (ap (λ b. holds (pulled r m) h && b) e ∙ and-false (holds (pulled r m) h))

    pub pull_exact : IsPullBack r m (pull r m)
    pull_exact = exact_by (can_pull r m) refl

    normal_by : (b : Bool) → IfSome (if b then Some (pulled r m) else None) IsNormal
    normal_by true = normal-pulled r m n
    normal_by false = tt

    pub pull_normal : IfSome (pull r m) IsNormal
    pull_normal = normal_by (can_pull r m)

    -- a header that some match holds comes in by it
    reaches_by : (p : MatchOf) → IsMatch p → ((h : HeaderOf) → holds p h ≡ holds m (apply r h)) → Reaches r m
    reaches_by p i same =
        let o = (overlaps_exact true p p i i (sym (overlaps_self p))).0 refl in
        record { header = o.header; is_header = o.is_header; comes_in = sym (same o.header) ∙ o.in_first }

-- the same of a result that is the pull
pub exact_at : (r : RewriteOf) (m : MatchOf) (result : Option MatchOf) → result ≡ pull r m → IsNormal m
    → IsPullBack r m result
exact_at r m result e n = subst (IsPullBack r m) (sym e) (pull_exact r m n)

pub some_at : (r : RewriteOf) (m p : MatchOf) → Some p ≡ pull r m → IsMatch p → IsNormal m
    → IsSome (Some p) ↔ Reaches r m
some_at r m p e i n = (λ s. reaches_by r m n p i (exact_at r m (Some p) e n), λ s. refl)

pub none_at : (r : RewriteOf) (m : MatchOf) → None ≡ pull r m → IsNormal m → (false ≡ true) ↔ Reaches r m
none_at r m e n =
    (λ s. absurd (false≢true s), λ s. absurd (false≢true (sym (exact_at r m None e n s.header) ∙ s.comes_in)))

pub normal_at : (r : RewriteOf) (m : MatchOf) (result : Option MatchOf) → result ≡ pull r m → IsNormal m
    → IfSome result IsNormal
normal_at r m result e n = subst (λ o. IfSome o IsNormal) (sym e) (pull_normal r m n)
