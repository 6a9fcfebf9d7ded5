-- What the count of the missing seats says.
use Rattle.std.proofs.Common.{◌≡◌, ◌≢◌, ℕ, zero, suc, ◌<◌, ◌+◌, Bool, true, false, List, ◌∷◌, length, get_or, drop}
use Rattle.std.proofs.Common.{refl, sym, ap, ◌∙◌, arith}
use Rattle.std.proofs.lemmas.List.{at_drop_more}
use mathlib.Core.Logic.{dite}
use native.Mathlib.Decide.{ℕ_discrete}
use Rattle.std.specs.Prelude.{if◌then◌else◌, ◌||◌, min}
use Rattle.policy_lock.specs.Seat.{SeatOf}
use Rattle.policy_lock.specs.Number.{Numbered, numbers, has_number, lacks, missing_children, missing_below}
use Rattle.policy_lock.proofs.Histories.{same-eq, ne-same}

lacks_none : (b : Bool) → ◌≡◌ {A = ℕ} (if b then 0 else 1) 0 → b ≡ true
lacks_none true e = refl
lacks_none false e = absurd (omega arith)

pub is_there : (all : List Numbered) (n : List ℕ) → lacks all n ≡ 0 → has_number n all ≡ true
is_there all n e = lacks_none (has_number n all) e

-- where no child of the number is missing, each is there
pub child_there : (all : List Numbered) (n : List ℕ) (k j : ℕ) → missing_children all n k ≡ 0 → j < k
    → has_number (j ∷ n) all ≡ true
child_there all n zero j none lt = absurd (omega arith)
child_there all n (suc k) j none lt = let parts : missing_children all n k + lacks all (k ∷ n) ≡ 0 = none in
    dite (ℕ_discrete j k)
    (λ e. ap (λ (q : ℕ). has_number (q ∷ n) all) e ∙ is_there all (k ∷ n) (omega arith))
    (λ ne. child_there all n k j (omega arith) (omega arith))

module _ {E R S : Type 0} (n : List ℕ) (seats : List (SeatOf E R S)) (i : ℕ) (x : SeatOf E R S) where
  -- whether the number is among the seats from the i-th on
  abbrev pub Rest : Bool
  Rest = has_number n (numbers (drop i seats))

  ahead : i < length seats → x ≡ get_or seats i x → Rest ≡ has_number n (numbers (x ∷ drop (i + 1) seats))
  ahead lt is = at_drop_more (λ l. has_number n (numbers l)) seats i x lt
      ∙ ap (λ y. has_number n (numbers (y ∷ drop (i + 1) seats))) (sym is)

  -- it is, where the i-th has it
  pub found : i < length seats → x ≡ get_or seats i x → x.pass.number ≡ n → Rest ≡ true
  found lt is same = ahead lt is ∙ ap (λ b. b || has_number n (numbers (drop (i + 1) seats)))
      (same-eq x.pass.number n same)

  -- else it is among the later ones, or not at all
  pub passed : i < length seats → x ≡ get_or seats i x → x.pass.number ≢ n
      → Rest ≡ has_number n (numbers (drop (i + 1) seats))
  passed lt is other = ahead lt is ∙ ap (λ b. b || has_number n (numbers (drop (i + 1) seats)))
      (ne-same x.pass.number n other)

module _ {E R S : Type 0} (all : List Numbered) (seats : List (SeatOf E R S)) (i : ℕ) (x : SeatOf E R S) where
  -- the children of the i-th, and those of the later ones
  pub below : i < length seats → x ≡ get_or seats i x
      → missing_below all (numbers (drop i seats))
      ≡ missing_children all x.pass.number x.pass.children + missing_below all (numbers (drop (i + 1) seats))
  below lt is = at_drop_more (λ l. missing_below all (numbers l)) seats i x lt
      ∙ ap (λ y. missing_below all (numbers (y ∷ drop (i + 1) seats))) (sym is)

-- a sum that stops at the most, added up from parts
pub saturated : (most a b r : ℕ) → min (min (a + min b most) most + r) most ≡ min (a + (b + r)) most
saturated most a b r = omega arith
