-- The seats that a new lock begins with.
use Rattle.std.specs.Prelude.{ℕ, zero, suc, ◌-◌, [], ◌∷◌, ◌++◌, List, Some}
use Rattle.policy_lock.specs.Seat.{LockOf, SeatOf}

module _ {E R S : Type 0} where
  -- a seat of the lock that has seen nothing
  abbrev pub new_seat : LockOf S → List ℕ → ℕ → SeatOf E R S
  new_seat lock n k =
      record { lock = lock.id; pass = record { start = Some lock.start; number = n; children = k; seen = [] } }

  -- so many seats that were split off the first one
  abbrev pub children_of_first : LockOf S → ℕ → List (SeatOf E R S)
  children_of_first lock zero = []
  children_of_first lock (suc k) = children_of_first lock k ++ new_seat lock (k ∷ []) 0 ∷ []

  -- the first seat, and the others, which were split off it: n in all
  abbrev pub opening_seats : LockOf S → ℕ → List (SeatOf E R S)
  opening_seats lock n = new_seat lock [] (n - 1) ∷ children_of_first lock (n - 1)
