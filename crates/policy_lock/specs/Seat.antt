-- What contracts see of a lock and of a seat.
use Rattle.std.specs.Prelude.{◌≡◌, ◌+◌, [], ◌∷◌, Some}
use mathlib.Core.List.{IsPrefix}
use Rattle.atomic_table.specs.Seated.{TableId}
use Rattle.policy_lock.specs.declared.view.Pass.{Pass}
use Rattle.policy_lock.specs.History.{calls_by}

-- which lock it is, and what its machine meant when it was opened
pub record LockOf (S : Type 0) : Type 0 where
  pub id : TableId
  pub start : S

-- which lock the seat is of, and what it knows
pub record SeatOf (E R S : Type 0) : Type 0 where
  pub lock : TableId
  pub pass : Pass E R S

module _ {E R S : Type 0} where
  -- the seat is of the lock, and began where the lock did
  abbrev pub IsSeatOf : LockOf S → SeatOf E R S → Type 0
  IsSeatOf lock seat = (seat.lock ≡ lock.id) × (seat.pass.start ≡ Some lock.start)

  -- the same seat, which may have seen another history
  abbrev pub IsSameSeat : SeatOf E R S → SeatOf E R S → Type 0
  IsSameSeat old new = (new.lock ≡ old.lock) × (new.pass.start ≡ old.pass.start) × (new.pass.number ≡ old.pass.number)
      × (new.pass.children ≡ old.pass.children)

  -- the seat has seen as much or more since, and has made no call in between
  abbrev pub IsLater : Pass E R S → Pass E R S → Type 0
  IsLater old new = IsPrefix old.seen new.seen × (calls_by old.number new.seen ≡ calls_by old.number old.seen)

  -- the pass of a new lock's first seat
  abbrev pub first_pass : S → Pass E R S
  first_pass s = record { start = Some s; number = []; children = 0; seen = [] }

  -- the pass of a seat that is split off: it has seen as much, and its number is the other's behind a count
  abbrev pub child : Pass E R S → Pass E R S
  child p = record { start = p.start; number = p.children ∷ p.number; children = 0; seen = p.seen }

  -- the pass of a seat after one was split off it
  abbrev pub parent : Pass E R S → Pass E R S
  parent p = record p { children = p.children + 1 }

  -- the seat with another pass
  abbrev pub with_pass : SeatOf E R S → Pass E R S → SeatOf E R S
  with_pass seat p = record { lock = seat.lock; pass = p }
