-- What the works of a run came to, by their seats.
use Rattle.std.specs.Prelude.{◌≡◌, ℕ, Bool, true, false, All, List, [], ◌∷◌, ◌++◌, IfOk, Option, Some, Result}
use Rattle.outside.specs.Connections.{Connection}
use Rattle.cv_io.specs.declared.memory.Memory.{Memory}
use Rattle.events.specs.declared.event.Event.{Event}
use Rattle.events.specs.declared.event.Reply.{Reply}
use Rattle.policy_lock.specs.Seat.{IsSeatOf, LockOf, SeatOf}
use Rattle.policy_lock.specs.declared.machine.Machine.{Ghosts}
use Rattle.endpoint_works.specs.Audits.{IsDrained, audit}
use Rattle.endpoint_works.specs.Sendings.{HasSent}
use Rattle.endpoint_works.specs.Tasks.{HasReceived, HasWrittenAudit}
use Rattle.endpoint_works.specs.declared.arrivals.Dialled.{Dialled}
use Rattle.endpoint_works.specs.declared.audit.AuditEnd.{AuditEnd}
use Rattle.endpoint_works.specs.declared.receiving.Received.{Received}
use Rattle.endpoint_works.specs.declared.sending.Sent.{Sent}
use Rattle.endpoint_works.specs.declared.works.Task.{Task}
use Rattle.endpoint_works.specs.declared.works.Task.TheVariants as works
use Rattle.lock_desk.specs.declared.desk.LockDesk.{LockDesk}
use Rattle.lock_desk.specs.Passes.{HasEnded, IsSince, Waits, own_posts}
use Rattle.serving.specs.Works.{AreTeams}
use Rattle.serving.specs.declared.dialling.Line.{Line}

module _ {S : Type 0} (lock : LockOf S) where
  -- the seat is of the lock, and is the other, later
  pub record IsLaterSeat (old new : SeatOf Event Reply S) : Type 0 where
    pub of : IsSeatOf lock new
    pub since : IsSince old new

  -- the work that wrote to the connections of an endpoint had the seat `old`, which is `new` then
  pub record HasWritten (may : ℕ → Type 0) (old new : SeatOf Event Reply S) : Type 0 where
    pub later : IsLaterSeat old new
    pub cut : Bool
    pub sent : HasSent may cut (own_posts old.pass) (own_posts new.pass)

-- what a work of an endpoint does, from how it was; of a runtime that threads may share
module _ {R H M S D C I O : Type 0} (g : Ghosts M Event Reply S) (left : D → Option (List Connection)) (never_fails : D
    → Bool)
    (may : C → ℕ → Type 0) (IsShared : Type 0) where
  abbrev pub Does : (old new : Task R (LockDesk R H M S) (Dialled D) C (SeatOf Event Reply S) I O) → Type 0
  Does (works.Reader old) (works.Reader new) =
      (IsShared × IsSeatOf old.desk.lock.now new.pass × IsSince old.desk.since.value new.pass)
      × IsSince old.pass new.pass
      × ((end : Received) × (new.end ≡ Some end) × HasReceived (λ (seat : SeatOf Event Reply S). own_posts seat.pass)
      (λ (seat : SeatOf Event Reply S). HasEnded g seat.pass) IsSince
      old.side (never_fails old.arrivals.dial) (left old.arrivals.dial) (left new.arrivals.dial) old.pass new.pass end)
  Does (works.Reader old) (works.Writer new) = ⊥
  Does (works.Writer old) (works.Reader new) = ⊥
  Does (works.Writer old) (works.Writer new) =
      (IsShared × IsSeatOf old.desk.lock.now new.pass × IsSince old.desk.since.value new.pass)
      × IsSince old.pass new.pass
      × ((end : Sent) × (new.end ≡ Some end) × HasSent (may old.clock) end.cut
      (own_posts old.pass.pass) (own_posts new.pass.pass))

module _ {M S D : Type 0} (g : Ghosts M Event Reply S) (lock : LockOf S) (left : D
    → Option (List Connection)) (never_fails : D → Bool) where
  -- the work that took the connections of a line had the seat `old`, which is `new` then
  pub record HasRead (failed wanted : Bool) (line : Line D) (old new : SeatOf Event Reply S) : Type 0 where
    pub later : IsLaterSeat lock old new
    pub end : Received
    pub fails : end.failed ≡ true → failed ≡ true
    pub wants : end.wanted ≡ true → wanted ≡ true
    pub rest : Option (List Connection)
    pub received :
        HasReceived (λ (seat : SeatOf Event Reply S). own_posts seat.pass)
        (λ (seat : SeatOf Event Reply S). HasEnded g seat.pass) IsSince
        line.side (never_fails line.dial) (left line.dial) rest old new end

  -- all works have ended, whose seats were `old` and are `new`; the last is that of the audit. Their clocks may answer
  -- such seconds
  pub record HaveWorked (may : ℕ → Type 0) (failed wanted : Bool) (lines : List (Line D))
      (old new : List (SeatOf Event Reply S)) (held written : Option (List ℕ)) (faults risen : ℕ)
      (end : Result AuditEnd Memory) : Type 0 where
    pub front : List (SeatOf Event Reply S)
    pub last : SeatOf Event Reply S
    pub were : old ≡ front ++ last ∷ []
    pub front_new : List (SeatOf Event Reply S)
    pub last_new : SeatOf Event Reply S
    pub are : new ≡ front_new ++ last_new ∷ []
    pub teams : AreTeams (HasRead failed wanted) (HasWritten lock may) lines front front_new
    -- no dial failed, where each is one that never does
    pub dials : All (λ (line : Line D). never_fails line.dial ≡ true) lines → failed ≡ false
    pub later : IsLaterSeat lock last last_new
    pub drained : IfOk end (IsDrained (HasEnded g last_new.pass audit) (Waits g last_new.pass audit))
    pub audit : HasWrittenAudit (own_posts last.pass) held written faults risen (own_posts last_new.pass) end
