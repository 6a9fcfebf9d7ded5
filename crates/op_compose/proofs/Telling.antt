-- What the rule of a pair holds.
use Rattle.std.proofs.Common.{◌≡◌, ℕ, Bool, true, false, ◌&&◌, Option, Some, None, refl, ◌∙◌, sym, ap, subst}
use Rattle.std.specs.Prelude.{Result, Ok, Err, IfOk, IfSome, IsSome, ◌↔◌, option_map, if◌then◌else◌}
use Rattle.std.specs.Option.{option_and_then}
use Rattle.std.proofs.lemmas.Bool.{false≢true}
use Rattle.std.proofs.Math.Bool.{and-true}
use Rattle.of10_match.specs.Fields.{HeaderOf, MatchOf}
use Rattle.of10_match.specs.Matching.{holds, overlaps, both, meet}
use Rattle.of10_match.specs.Normal.{IsNormal}
use Rattle.of10_match.specs.Ranges.{IsMatch}
use Rattle.of10_match.proofs.Holding.{holds-both}
use Rattle.of10_match.proofs.MeetSelf.{overlaps_self}
use Rattle.of10_match.proofs.NormalMeet.{IsNormal-both}
use Rattle.of10_match.proofs.Overlapping.{overlaps_exact}
use Rattle.of10_match.proofs.Twelve.{and-false, and-first, and-second}
use Rattle.of10_actions.specs.Fields.{RewriteOf}
use Rattle.of10_actions.specs.Rewriting.{apply}
use Rattle.pull_back.specs.Pulling.{pull}
use Rattle.of10_actions.specs.declared.effects.Tail.{Tail}
use Rattle.of10_actions.specs.declared.effects.Tail.TheVariants.{Nothing, Pass, Link}
use Rattle.pull_back.specs.Pulls.{IsPullBack}
use Rattle.pull_back.proofs.Exactness.{pull_exact, pull_normal}
use Rattle.policy_meaning.specs.Rules.{summed, chained}
use Rattle.policy_meaning.specs.Hops.{hopped, without_port}
use Rattle.policy_meaning.specs.declared.rule.Rule.{Rule}
use Rattle.policy_meaning.proofs.Normality.{normal-without_port}
use Rattle.op_compose.specs.declared.op.Op.{Op}
use Rattle.op_compose.specs.declared.op.Op.TheVariants.{Par, Seq, Over, Hop}
use Rattle.op_compose.specs.Composition.{Joins, joined, passed, crossed}
use Rattle.op_compose.specs.Pairs.{HoldsBoth, SomeIsInBoth, after_tail, asked, onward}

-- the match holds exactly the headers that pass the test; without a match none passes
abbrev pub Tells : (HeaderOf → Bool) → Option MatchOf → Type 0
Tells f None = (h : HeaderOf) → f h ≡ false
Tells f (Some m) = (h : HeaderOf) → holds m h ≡ f h

module _ (f : HeaderOf → Bool) (m : MatchOf) where
  meet_by : (n : MatchOf) → ((h : HeaderOf) → holds n h ≡ f h) → (b : Bool) → overlaps m n ≡ b
      → Tells (λ h. holds m h && f h) (if b then Some (both m n) else None)
  meet_by n t true e = λ h. sym (and-true (holds (both m n) h))
      ∙ (ap (λ b. holds (both m n) h && b) (sym e) ∙ (holds-both m n h ∙ ap (λ b. holds m h && b) (t h)))
  meet_by n t false e = λ h. ap (λ b. holds m h && b) (sym (t h))
      ∙ (sym (holds-both m n h) ∙ (ap (λ b. holds (both m n) h && b) e ∙ and-false (holds (both m n) h)))

  meet_tells : (p : Option MatchOf) → Tells f p → Tells (λ h. holds m h && f h) (option_and_then (meet m) p)
  meet_tells None t = λ h. ap (λ b. holds m h && b) (t h) ∙ and-false (holds m h)
  meet_tells (Some n) t = meet_by n t (overlaps m n) refl

-- the same of rules
abbrev pub RuleTells : (HeaderOf → Bool) → Option Rule → Type 0
RuleTells f None = (h : HeaderOf) → f h ≡ false
RuleTells f (Some r) = (h : HeaderOf) → holds r.m h ≡ f h

rule_tells : (f : HeaderOf → Bool) (g : MatchOf → Rule) → ((m : MatchOf) → (g m).m ≡ m) → (o : Option MatchOf)
    → Tells f o → RuleTells f (option_map g o)
rule_tells f g same None t = t
rule_tells f g same (Some m) t = λ h. ap (λ n. holds n h) (same m) ∙ t h

pulled_tells : (r : RewriteOf) (m : MatchOf) (p : Option MatchOf) → IsPullBack r m p
    → Tells (λ h. holds m (apply r h)) p
pulled_tells r m None t = t
pulled_tells r m (Some n) t = t

module _ (size : ℕ) (a b : Rule) (n : IsNormal b.m) where
  passed_tells : (t : Tail) → Joins Seq t
      → RuleTells (λ h. holds a.m h && holds b.m (after_tail t h)) (passed t size a b)
  passed_tells Nothing j = absurd j
  passed_tells (Link r p) j = absurd j
  passed_tells (Pass r) j =
      rule_tells _ (chained size r a b) (λ m. refl) _
      (meet_tells (λ h. holds b.m (apply r h)) a.m (pull r b.m)
      (pulled_tells r b.m (pull r b.m) (pull_exact r b.m n)))

  crossed_tells : (t : Tail) → Joins Hop t
      → RuleTells (λ h. holds a.m h && holds (without_port b.m) (after_tail t h)) (crossed t size a b)
  crossed_tells Nothing j = absurd j
  crossed_tells (Pass r) j = absurd j
  crossed_tells (Link r p) j =
      rule_tells _ (hopped size r a b) (λ m. refl) _
      (meet_tells (λ h. holds (without_port b.m) (apply r h)) a.m (pull r (without_port b.m))
      (pulled_tells r (without_port b.m) (pull r (without_port b.m))
      (pull_exact r (without_port b.m) (normal-without_port b.m n))))

  pub joined_tells : (op : Op) → Joins op a.tail
      → RuleTells (λ h. holds a.m h && holds (asked op b.m) (onward op a.tail h)) (joined op size a b)
  joined_tells Par j = rule_tells _ (summed a b) (λ m. refl) _
      (meet_tells (λ h. holds b.m h) a.m (Some b.m) (λ h. refl))
  joined_tells Seq j = passed_tells a.tail j
  joined_tells Over j = absurd j
  joined_tells Hop j = crossed_tells a.tail j

-- what is known of the rule of a pair
pub holds_both : (op : Op) (a b : Rule) (o : Option Rule)
    → RuleTells (λ h. holds a.m h && holds (asked op b.m) (onward op a.tail h)) o → IfSome o (HoldsBoth op a b)
holds_both op a b None t = tt
holds_both op a b (Some r) t = t

some_header : (op : Op) (a b r : Rule) → IsMatch r.m → HoldsBoth op a b r → SomeIsInBoth op a b
some_header op a b r i t =
    let o = (overlaps_exact true r.m r.m i i (sym (overlaps_self r.m))).0 refl in
    let e = sym (t o.header) ∙ o.in_first in
    record {
      header = o.header;
      is_header = o.is_header;
      in_left = and-first (holds a.m o.header) (holds (asked op b.m) (onward op a.tail o.header)) e;
      in_right = and-second (holds a.m o.header) (holds (asked op b.m) (onward op a.tail o.header)) e;
    }

pub some_in_both : (op : Op) (a b : Rule) (o : Option Rule)
    → RuleTells (λ h. holds a.m h && holds (asked op b.m) (onward op a.tail h)) o → IfSome o (λ r. IsMatch r.m)
    → IsSome o ↔ SomeIsInBoth op a b
some_in_both op a b (Some r) t i = (λ s. some_header op a b r i t, λ s. refl)
some_in_both op a b None t i =
    (λ s. absurd (false≢true s), λ s. absurd (false≢true (sym (t s.header) ∙ rw (s.in_left, s.in_right))))

-- the meet of normal matches, and the rule that is made of it, are normal
met-normal : (m : MatchOf) (p : Option MatchOf) → IsNormal m → IfSome p IsNormal
    → IfSome (option_and_then (meet m) p) IsNormal
met-normal m None a b = tt
met-normal m (Some n) a b = by_test (overlaps m n) refl
  where
    by_test : (t : Bool) → overlaps m n ≡ t → IfSome (if t then Some (both m n) else None) IsNormal
    by_test true e = IsNormal-both m n e a b
    by_test false e = tt

made-normal : (g : MatchOf → Rule) → ((m : MatchOf) → (g m).m ≡ m) → (o : Option MatchOf) → IfSome o IsNormal
    → IfSome (option_map g o) (λ (r : Rule). IsNormal r.m)
made-normal g same None n = tt
made-normal g same (Some m) n = subst IsNormal (sym (same m)) n

module _ (size : ℕ) (a b : Rule) (p : IsNormal a.m) (q : IsNormal b.m) where
  passed-normal : (t : Tail) → IfSome (passed t size a b) (λ (r : Rule). IsNormal r.m)
  passed-normal Nothing = tt
  passed-normal (Link r port) = tt
  passed-normal (Pass r) = made-normal (chained size r a b) (λ m. refl) _
      (met-normal a.m (pull r b.m) p (pull_normal r b.m q))

  crossed-normal : (t : Tail) → IfSome (crossed t size a b) (λ (r : Rule). IsNormal r.m)
  crossed-normal Nothing = tt
  crossed-normal (Pass r) = tt
  crossed-normal (Link r port) = made-normal (hopped size r a b) (λ m. refl) _
      (met-normal a.m (pull r (without_port b.m)) p (pull_normal r (without_port b.m) (normal-without_port b.m q)))

  pub joined-normal : (op : Op) → IfSome (joined op size a b) (λ (r : Rule). IsNormal r.m)
  joined-normal Par = made-normal (summed a b) (λ m. refl) _ (met-normal a.m (Some b.m) p q)
  joined-normal Seq = passed-normal a.tail
  joined-normal Over = tt
  joined-normal Hop = crossed-normal a.tail

-- the same of a result that is the rule of the pair
module _ (op : Op) (size : ℕ) (a b : Rule) (o : Option Rule) (e : o ≡ joined op size a b) where
  result_tells : Joins op a.tail → IsNormal b.m
      → RuleTells (λ h. holds a.m h && holds (asked op b.m) (onward op a.tail h)) o
  result_tells j n = subst (RuleTells (λ h. holds a.m h && holds (asked op b.m) (onward op a.tail h))) (sym e)
      (joined_tells size a b n op j)

  pub none_at : Joins op a.tail → IsNormal b.m → IfSome o (λ (r : Rule). IsMatch r.m) → IsSome o ↔ SomeIsInBoth op a b
  none_at j n i = some_in_both op a b o (result_tells j n) i

  pub holds_at : Joins op a.tail → IsNormal b.m → IfSome o (HoldsBoth op a b)
  holds_at j n = holds_both op a b o (result_tells j n)

  pub normal_at : IsNormal a.m → IsNormal b.m → IfSome o (λ (r : Rule). IsNormal r.m)
  normal_at p q = subst (λ x. IfSome x (λ (r : Rule). IsNormal r.m)) (sym e) (joined-normal size a b p q op)

-- what follows of the value of a call
module _ {A E : Type 0} where
  pub on_ok : (x : Result A E) (P Q : A → Type 0) → ((o : A) → P o → Q o) → IfOk x P → IfOk x Q
  on_ok (Ok o) P Q f p = f o p
  on_ok (Err e) P Q f p = p

  pub on_both_ok : (x : Result A E) (P Q R : A → Type 0) → ((o : A) → P o → Q o → R o) → IfOk x P → IfOk x Q → IfOk x R
  on_both_ok (Ok o) P Q R f p q = f o p q
  on_both_ok (Err e) P Q R f p q = p
