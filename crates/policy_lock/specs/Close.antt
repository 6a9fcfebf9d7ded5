-- What the end of a lock promises.
use Rattle.std.specs.Prelude.{◌≡◌, List, All, IsTrue}
use mathlib.Core.List.{IsPrefix}
use Rattle.policy_lock.specs.declared.machine.Machine.{Ghosts}
use Rattle.policy_lock.specs.declared.view.Entry.{Entry}
use Rattle.policy_lock.specs.History.{after, IsLegal, calls_by}
use Rattle.policy_lock.specs.Seat.{SeatOf}
use Rattle.policy_lock.specs.Number.{numbers, has_number}

module _ {E R S : Type 0} where
  -- what the seat has seen begins the history, and the entries under its number are its calls
  abbrev pub HasSeen : List (Entry E R) → SeatOf E R S → Type 0
  HasSeen log seat = IsPrefix seat.pass.seen log
      × (calls_by seat.pass.number log ≡ calls_by seat.pass.number seat.pass.seen)

module _ {M E R S : Type 0} (g : Ghosts M E R S) where
  -- the machine is what the one history of these seats made of it
  pub record IsClosed (start : S) (seats : List (SeatOf E R S)) (m : M) : Type 0 where
    -- the one history
    pub log : List (Entry E R)
    pub legal : IsLegal g start log
    pub means : g.meaning m ≡ after g start log
    pub seen : All (HasSeen log) seats
    -- each entry stands under the number of one of the seats
    pub under : All (λ x. IsTrue (has_number x.by (numbers seats))) log
