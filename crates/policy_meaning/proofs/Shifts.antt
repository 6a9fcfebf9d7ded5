-- What the rules of `a |> b` say.
use Rattle.std.proofs.Common.{◌≡◌, ℕ, ◌<◌, Bool, true, false, List, [], ◌∷◌, ◌++◌, refl, ◌∙◌, arith, sym}
use Rattle.std.specs.Prelude.{flat_map, if◌then◌else◌}
use Rattle.of10_match.specs.Fields.{HeaderOf}
use Rattle.of10_match.specs.Matching.{holds}
use Rattle.alg_priority.specs.Levels.{shift_level}
use Rattle.alg_priority.specs.Sizes.{shift_size}
use Rattle.policy_meaning.specs.Meaning.{first_touched}
use Rattle.policy_meaning.specs.Rules.{shifts_with, lifted}
use Rattle.policy_meaning.specs.Best.{EachAt, Below, IsBest, first, IsUntouched, Says}
use Rattle.policy_meaning.specs.declared.meaning.Meaning.{Meaning}
use Rattle.policy_meaning.specs.declared.rule.Rule.{Rule}
use Rattle.policy_meaning.proofs.Booleans.{true_not_false}
use Rattle.policy_meaning.proofs.BestLemmas.{best_holds, best_most, at-append, at-flat_map, at-below, best-flat_map}
use Rattle.policy_meaning.proofs.BestLemmas.{best-append_left, best-append_right}

part : (k : ℕ) (x : Rule) (P : Rule → Type 0) (h : HeaderOf)
    → (holds x.m h ≡ true → x.touched ≡ true → P (lifted (shift_level x.level k) x)) → (t : Bool) → x.touched ≡ t
    → EachAt h P (if t then lifted (shift_level x.level k) x ∷ [] else [])
part k x P h up true e = (λ u. up u e, tt)
part k x P h up false e = tt

-- what one rule of the left operand makes
shift-part : (k : ℕ) (x : Rule) (P : Rule → Type 0) (h : HeaderOf)
    → (holds x.m h ≡ true → x.touched ≡ true → P (lifted (shift_level x.level k) x)) → EachAt h P (shifts_with k x)
shift-part k x P h up = part k x P h up x.touched refl

module _ (h : HeaderOf) (xs bs : List Rule) where
  pub best-touched : (k : ℕ) (a b : Rule) → a.touched ≡ true → IsBest h xs a → IsBest h bs b → b.level < k →
      IsBest h (flat_map (shifts_with k) xs ++ bs) (lifted (shift_level a.level k) a)
  best-touched k a b t p q lt =
      best-append_left h
      (best-flat_map h (shifts_with k) (lifted (shift_level a.level k) a) (rw t (first (best_holds h p) tt))
      (λ x low. shift-part k x (Below (shift_level a.level k)) h
      (λ e _. let l : x.level < a.level = low e in omega arith)) p)
      bs (at-below h k (shift_level a.level k) bs (omega arith) (best_most h q k lt))

  -- where no rule of the left operand acts, it makes none that holds the header
  pub none-touched : (k : ℕ) (P : Rule → Type 0) → EachAt h IsUntouched xs → EachAt h P (flat_map (shifts_with k) xs)
  none-touched k P u = at-flat_map h IsUntouched P (shifts_with k) xs
      (λ x ux. shift-part k x P h (λ e t. absurd (true_not_false (sym t ∙ ux e)))) u

  shift-says-by : (n k : ℕ) (x y : Meaning) (p : Says h xs n x) → Says h bs k y → (t : Bool) → p.rule.touched ≡ t
      → Says h (flat_map (shifts_with k) xs ++ bs) (shift_size n k) (first_touched x y)
  shift-says-by n k x y p q true t = record {
    rule = lifted (shift_level p.rule.level k) p.rule;
    best = best-touched k p.rule q.rule t p.best q.best q.below;
    below = let l = p.below in omega arith;
    means = rw (← p.means, t) (rw (← t) refl);
    untouched = λ e. absurd (true_not_false (sym t ∙ e));
  }
  shift-says-by n k x y p q false t = record {
    rule = q.rule;
    best = best-append_right h (flat_map (shifts_with k) xs) (none-touched k (Below q.rule.level) (p.untouched t))
        q.best;
    below = let l = q.below in omega arith;
    means = rw (← p.means, t) q.means;
    untouched = λ e. at-append h IsUntouched (flat_map (shifts_with k) xs) bs
        (none-touched k IsUntouched (p.untouched t)) (q.untouched e);
  }

  pub shift-says : (n k : ℕ) (x y : Meaning) → Says h xs n x → Says h bs k y
      → Says h (flat_map (shifts_with k) xs ++ bs) (shift_size n k) (first_touched x y)
  shift-says n k x y p q = shift-says-by n k x y p q p.rule.touched refl
