-- Of the seats that a lock begins with none is missing.
use Rattle.std.proofs.Common.{◌≡◌, ℕ, zero, suc, ◌<◌, ◌+◌, ◌-◌, Bool, true, false, List, [], ◌∷◌, ◌++◌, refl, sym, ap}
use Rattle.std.proofs.Common.{◌∙◌, arith}
use mathlib.Core.Logic.{dite}
use native.Mathlib.Decide.{ℕ_discrete}
use Rattle.std.proofs.lemmas.Bool.{false≢true}
use Rattle.std.proofs.lemmas.List.Elements.{All-push}
use Rattle.std.specs.Prelude.{◌||◌, All, if◌then◌else◌}
use Rattle.policy_lock.specs.History.{same_number}
use Rattle.policy_lock.specs.Seat.{LockOf, SeatOf, IsSeatOf}
use Rattle.policy_lock.specs.Number.{Numbered, numbers, has_number, lacks, missing_children, missing_below, missing}
use Rattle.policy_lock.specs.Opening.{new_seat, children_of_first, opening_seats}
use Rattle.policy_lock.proofs.Histories.{same-eq}

still : (b c d : Bool) → (c ≡ true → d ≡ true) → (b || c) ≡ true → (b || d) ≡ true
still true c d f e = refl
still false c d f e = f e

or_true : (b : Bool) → (b || true) ≡ true
or_true true = refl
or_true false = refl

none_missing : (all : List Numbered) (k : ℕ) → ((j : ℕ) → j < k → has_number (j ∷ []) all ≡ true)
    → missing_children all [] k ≡ 0
none_missing all zero f = refl
none_missing all (suc k) f = let here : lacks all (k ∷ []) ≡ 0 =
    ap (λ (b : Bool). if b then 0 else 1) (f k (omega arith)) in let t =
    none_missing all k (λ j lt. f j (omega arith)) in omega arith

module _ {E R S : Type 0} where
  has_number-snoc : (n : List ℕ) (seats : List (SeatOf E R S)) (x : SeatOf E R S) → has_number n (numbers seats) ≡ true
      → has_number n (numbers (seats ++ x ∷ [])) ≡ true
  has_number-snoc n [] x h = absurd (false≢true h)
  has_number-snoc n (y ∷ ys) x h = still (same_number y.pass.number n) (has_number n (numbers ys))
      (has_number n (numbers (ys ++ x ∷ []))) (has_number-snoc n ys x) h

  has_number-last : (n : List ℕ) (seats : List (SeatOf E R S)) (x : SeatOf E R S) → x.pass.number ≡ n
      → has_number n (numbers (seats ++ x ∷ [])) ≡ true
  has_number-last n [] x is = ap (λ b. b || false) (same-eq x.pass.number n is)
  has_number-last n (y ∷ ys) x is = ap (λ b. same_number y.pass.number n || b) (has_number-last n ys x is)
      ∙ or_true (same_number y.pass.number n)

  missing_below-snoc : (all : List Numbered) (seats : List (SeatOf E R S)) (x : SeatOf E R S)
      → missing_below all (numbers seats) ≡ 0 → x.pass.children ≡ 0 → missing_below all (numbers (seats ++ x ∷ [])) ≡ 0
  missing_below-snoc all [] x h none = let t : missing_children all x.pass.number x.pass.children ≡ 0 =
      ap (missing_children all x.pass.number) none in omega arith
  missing_below-snoc all (y ∷ ys) x h none =
      let parts : missing_children all y.pass.number y.pass.children + missing_below all (numbers ys) ≡ 0 = h in let t =
      missing_below-snoc all ys x (omega arith) none in omega arith

module _ (E R : Type 0) {S : Type 0} (lock : LockOf S) where
  abbrev Children : ℕ → List (SeatOf E R S)
  Children k = children_of_first lock k

  their_children : (k : ℕ) → All (IsSeatOf lock) (Children k)
  their_children zero = λ j d lt. absurd (omega arith)
  their_children (suc k) = All-push (IsSeatOf lock) (Children k) (new_seat lock (k ∷ []) 0) (their_children k)
      (refl, refl)

  child_is_there : (k j : ℕ) → j < k → has_number (j ∷ []) (numbers (Children k)) ≡ true
  child_is_there zero j lt = absurd (omega arith)
  child_is_there (suc k) j lt = dite (ℕ_discrete j k)
      (λ e. has_number-last (j ∷ []) (Children k) (new_seat lock (k ∷ []) 0) (ap (λ (q : ℕ). q ∷ []) (sym e)))
      (λ ne. has_number-snoc (j ∷ []) (Children k) (new_seat lock (k ∷ []) 0) (child_is_there k j (omega arith)))

  none_below : (all : List Numbered) (k : ℕ) → missing_below all (numbers (Children k)) ≡ 0
  none_below all zero = refl
  none_below all (suc k) = missing_below-snoc all (Children k) (new_seat lock (k ∷ []) 0) (none_below all k) refl

  pub theirs : (n : ℕ) → All (IsSeatOf lock) (opening_seats {E = E} {R = R} lock n)
  theirs n zero d lt = (refl, refl)
  theirs n (suc k) d lt = their_children (n - 1) k d (omega arith)

  pub all_there : (n : ℕ) → missing (numbers (opening_seats {E = E} {R = R} lock n)) ≡ 0
  all_there n = let all = numbers (opening_seats {E = E} {R = R} lock n) in let a =
      none_missing all (n - 1) (λ j lt. child_is_there (n - 1) j lt) in let b = none_below all (n - 1) in
      omega arith
