-- The seats that a new lock begins with have each a number of its own.
use Rattle.std.specs.List.{AllByRecursion, IsDistinct}
use Rattle.std.proofs.Common.{◌≡◌, ◌<◌, ◌≤◌, ◌==◌, ◌-◌, ◌&&◌, ℕ, zero, suc, Bool, true, false, List, [], ◌∷◌, ◌++◌, map}
use Rattle.std.proofs.Common.{refl, sym, ap, ◌∙◌, subst, arith}
use Rattle.std.proofs.lemmas.List.{map-append}
use Rattle.events.specs.declared.event.Event.{Event}
use Rattle.events.specs.declared.event.Reply.{Reply}
use Rattle.policy_lock.specs.History.{same_number}
use Rattle.policy_lock.specs.Number.{Numbered, numbered, numbers}
use Rattle.policy_lock.specs.Opening.{children_of_first, new_seat, opening_seats}
use Rattle.policy_lock.specs.Seat.{LockOf, SeatOf}

all-push : {X : Type 0} (P : X → Type 0) (xs : List X) (y : X) → AllByRecursion P xs → P y
    → AllByRecursion P (xs ++ y ∷ [])
all-push P [] y all p = (p, tt)
all-push P (x ∷ xs) y all p = (all.0, all-push P xs y all.1 p)

-- one more, which is none of those before
once-push : {X : Type 0} (e : X → X → Bool) (xs : List X) (y : X) → IsDistinct e xs
    → AllByRecursion (λ x. e x y ≡ false) xs → IsDistinct e (xs ++ y ∷ [])
unfolding IsDistinct
once-push e [] y once others = (tt, tt)
once-push e (x ∷ xs) y once others =
    (all-push (λ z. e x z ≡ false) xs y once.0 others.0, once-push e xs y once.1 others.1)

-- two numbers of one count differ where the counts do
others : (k m : ℕ) → k < m → same_number (k ∷ []) (m ∷ []) ≡ false
others k m lt = by (k == m) refl
  where
    by : (b : Bool) → (k == m) ≡ b → (b && true) ≡ false
    by false e = refl
    by true e = absurd (grind arith)

module _ {S : Type 0} where
  -- their numbers
  abbrev pub firsts : List (SeatOf Event Reply S) → List (List ℕ)
  firsts seats = map (λ (n : Numbered). n.0) (numbers seats)

  firsts-append : (xs ys : List (SeatOf Event Reply S)) → firsts (xs ++ ys) ≡ firsts xs ++ firsts ys
  firsts-append xs ys =
      ap (map (λ (n : Numbered). n.0)) (map-append (λ (seat : SeatOf Event Reply S). numbered seat.pass) xs ys)
      ∙ map-append (λ (n : Numbered). n.0) (numbers xs) (numbers ys)

  children-below : (lock : LockOf S) (k m : ℕ) → k ≤ m
      → AllByRecursion (λ n. same_number n (m ∷ []) ≡ false) (firsts (children_of_first lock k))
  children-below lock zero m le = tt
  children-below lock (suc k) m le =
      subst (AllByRecursion (λ n. same_number n (m ∷ []) ≡ false))
      (sym (firsts-append (children_of_first lock k) (new_seat lock (k ∷ []) 0 ∷ [])))
      (all-push (λ n. same_number n (m ∷ []) ≡ false) (firsts (children_of_first lock k)) (k ∷ [])
      (children-below lock k m (grind arith)) (others k m (grind arith)))

  children-longer : (lock : LockOf S) (k : ℕ)
      → AllByRecursion (λ n. same_number [] n ≡ false) (firsts (children_of_first lock k))
  children-longer lock zero = tt
  children-longer lock (suc k) =
      subst (AllByRecursion (λ n. same_number [] n ≡ false))
      (sym (firsts-append (children_of_first lock k) (new_seat lock (k ∷ []) 0 ∷ [])))
      (all-push (λ n. same_number [] n ≡ false) (firsts (children_of_first lock k)) (k ∷ []) (children-longer lock k)
      refl)

  children-once : (lock : LockOf S) (k : ℕ) → IsDistinct same_number (firsts (children_of_first lock k))
  unfolding IsDistinct
  children-once lock zero = tt
  children-once lock (suc k) =
      subst (IsDistinct same_number)
      (sym (firsts-append (children_of_first lock k) (new_seat lock (k ∷ []) 0 ∷ [])))
      (once-push same_number (firsts (children_of_first lock k)) (k ∷ []) (children-once lock k)
      (children-below lock k k (grind arith)))

  pub opening-once : (lock : LockOf S) (n : ℕ) → IsDistinct same_number (firsts (opening_seats lock n))
  unfolding IsDistinct
  opening-once lock n = (children-longer lock (n - 1), children-once lock (n - 1))
