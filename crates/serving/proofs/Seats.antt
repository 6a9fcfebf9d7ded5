-- Seats as the works have them.
use Rattle.std.proofs.Common.{◌≡◌, subst, sym}
use Rattle.events.specs.declared.event.Event.{Event}
use Rattle.events.specs.declared.event.Reply.{Reply}
use Rattle.policy_lock.specs.Seat.{IsSeatOf, LockOf, SeatOf}
use Rattle.lock_desk.specs.Passes.{IsSince}
use Rattle.lock_desk.proofs.Posts.{since_itself}

module _ {S : Type 0} where
  -- the same seat is of the same lock
  pub seat-of : (lock same : LockOf S) (seat now : SeatOf Event Reply S) → same ≡ lock → now ≡ seat → IsSeatOf lock seat
      → IsSeatOf same now
  seat-of lock same seat now l s is =
      subst (λ (k : LockOf S). IsSeatOf k now) (sym l)
      (subst (λ (t : SeatOf Event Reply S). IsSeatOf lock t) (sym s) is)

  -- and is itself, later
  pub since-same : (seat old now : SeatOf Event Reply S) → old ≡ seat → now ≡ seat → IsSince old now
  since-same seat old now o n =
      subst (λ (t : SeatOf Event Reply S). IsSince t now) (sym o)
      (subst (λ (t : SeatOf Event Reply S). IsSince seat t) (sym n) (since_itself seat))

  pub since-seat : (seat old now : SeatOf Event Reply S) → old ≡ seat → IsSince old now → IsSince seat now
  since-seat seat old now o is = subst (λ (t : SeatOf Event Reply S). IsSince t now) o is
