-- Meets, and rules that are made of meets.
use Rattle.std.proofs.Common.{◌≡◌, Bool, true, false, Some, None, refl, ◌∙◌, sym}
use Rattle.std.specs.Prelude.{option_map, if◌then◌else◌}
use Rattle.std.specs.Option.{option_and_then}
use Rattle.of10_match.specs.Fields.{HeaderOf, MatchOf}
use Rattle.of10_match.specs.Matching.{holds, overlaps, both, meet}
use Rattle.of10_match.proofs.Holding.{holds-both}
use Rattle.of10_actions.specs.Fields.{RewriteOf}
use Rattle.pull_back.specs.Pulling.{can_pull, pulled, pull}
use Rattle.policy_meaning.proofs.Booleans.{split_and, join_and, some_injective}

-- a meet is there where a header is in both, and holds it
pub meet_there : (m n : MatchOf) (h : HeaderOf) → holds m h ≡ true → holds n h ≡ true
    → (holds (both m n) h ≡ true) × (overlaps m n ≡ true)
meet_there m n h p q = split_and _ _ (holds-both m n h ∙ join_and (holds m h) (holds n h) p q)

-- what a meet holds is in both
pub meet_holds : (m n : MatchOf) (h : HeaderOf) → holds (both m n) h ≡ true → overlaps m n ≡ true
    → (holds m h ≡ true) × (holds n h ≡ true)
meet_holds m n h p q = split_and _ _ (sym (holds-both m n h) ∙ join_and _ _ p q)

meet_cases : (b : Bool) (m y : MatchOf) → (if b then Some m else None) ≡ Some y → (b ≡ true) × (m ≡ y)
meet_cases true m y e = (refl, some_injective e)
meet_cases false m y e = cc

-- a meet that is there
pub some_meet : (m n y : MatchOf) → meet m n ≡ Some y → (overlaps m n ≡ true) × (both m n ≡ y)
some_meet m n y e = meet_cases (overlaps m n) (both m n) y e

module _ {A : Type 0} where
  some_mapped : (g : MatchOf → A) (b : Bool) (m : MatchOf) (y : A) → option_map g (if b then Some m else None) ≡ Some y
      → (b ≡ true) × (g m ≡ y)
  some_mapped g true m y e = (refl, some_injective e)
  some_mapped g false m y e = cc

  -- what is made of a meet that is there
  pub some_met : (g : MatchOf → A) (m n : MatchOf) (y : A) → option_map g (meet m n) ≡ Some y
      → (overlaps m n ≡ true) × (g (both m n) ≡ y)
  some_met g m n y e = some_mapped g (overlaps m n) (both m n) y e

  pulled_cases : (g : MatchOf → A) (m n : MatchOf) (y : A) (c : Bool)
      → option_map g (option_and_then (meet m) (if c then Some n else None)) ≡ Some y
      → (c ≡ true) × (overlaps m n ≡ true) × (g (both m n) ≡ y)
  pulled_cases g m n y true e = let s = some_met g m n y e in (refl, s.0, s.1)
  pulled_cases g m n y false e = cc

  -- what is made of a meet with a pull, where both are there
  pub some_pulled : (g : MatchOf → A) (m n : MatchOf) (r : RewriteOf) (y : A)
      → option_map g (option_and_then (meet m) (pull r n)) ≡ Some y
      → (can_pull r n ≡ true) × (overlaps m (pulled r n) ≡ true) × (g (both m (pulled r n)) ≡ y)
  some_pulled g m n r y e = pulled_cases g m (pulled r n) y (can_pull r n) e

  pub is_met : (g : MatchOf → A) (m n : MatchOf) → overlaps m n ≡ true → option_map g (meet m n) ≡ Some (g (both m n))
  is_met g m n e = rw e

  pub is_pulled : (g : MatchOf → A) (m n : MatchOf) (r : RewriteOf) → can_pull r n ≡ true
      → overlaps m (pulled r n) ≡ true
      → option_map g (option_and_then (meet m) (pull r n)) ≡ Some (g (both m (pulled r n)))
  is_pulled g m n r c e = rw (c, e)
