-- The works of a run.
use Rattle.std.specs.Prelude.{◌≡◌, Bool, false, List, [], ◌∷◌, Option, Some, None}
use Rattle.events.specs.declared.event.Event.{Event}
use Rattle.events.specs.declared.event.Reply.{Reply}
use Rattle.policy_lock.specs.Seat.{LockOf, SeatOf}
use Rattle.endpoint_works.specs.declared.arrivals.Dialled.{Dialled}
use Rattle.endpoint_works.specs.declared.receiving.Received.{Received}
use Rattle.endpoint_works.specs.declared.sending.Sent.{Sent}
use Rattle.endpoint_works.specs.declared.works.Task.{Task}
use Rattle.endpoint_works.specs.declared.works.Task.TheVariants as works
use Rattle.lock_desk.specs.declared.desk.LockDesk.{LockDesk}
use Rattle.serving.specs.declared.dialling.Line.{Line}

module _ {L S T : Type 0} (IsReader : L → S → T → Type 0) (IsWriter : S → T → Type 0) where
  -- the first two works are for the line and have the first two seats, and of the others this holds
  pub record IsTeam (line : L) (Rest : List S → List T → Type 0) (seats : List S) (works : List T) : Type 0 where
    pub first : S
    pub second : S
    pub other_seats : List S
    pub reader : T
    pub writer : T
    pub other_works : List T
    pub are_seats : seats ≡ first ∷ second ∷ other_seats
    pub are_works : works ≡ reader ∷ writer ∷ other_works
    pub reads : IsReader line first reader
    pub writes : IsWriter second writer
    pub rest : Rest other_seats other_works

  -- two works for each line; each has the next seat
  abbrev pub AreTeams : List L → List S → List T → Type 0
  AreTeams [] seats works = (seats ≡ []) × (works ≡ [])
  AreTeams (line ∷ lines) seats works = IsTeam line (AreTeams lines) seats works

-- the seat of a work
abbrev pub pass_of : {R D A C P I O : Type 0} → Task R D A C P I O → P
pass_of (works.Reader r) = r.pass
pass_of (works.Writer w) = w.pass

-- whether a dial failed, and whether memory was wanted, of works that have ended
abbrev pub has_failed : Option Received → Bool
has_failed None = false
has_failed (Some end) = end.failed

abbrev pub has_wanted : Option Received → Bool
has_wanted None = false
has_wanted (Some end) = end.wanted

abbrev pub wanted_to_send : Option Sent → Bool
wanted_to_send None = false
wanted_to_send (Some end) = end.wanted

abbrev pub failed_of : {R D A C P I O : Type 0} → Task R D A C P I O → Bool
failed_of (works.Reader r) = has_failed r.end
failed_of (works.Writer w) = false

abbrev pub wanted_of : {R D A C P I O : Type 0} → Task R D A C P I O → Bool
wanted_of (works.Reader r) = has_wanted r.end
wanted_of (works.Writer w) = wanted_to_send w.end

-- the works of an endpoint that has this line, as they begin: with a seat each, at the desk over a lock, and a copy of
-- the clock
module _ {R H M S D C I O : Type 0} (lock : LockOf S) where
  abbrev pub IsReaderFor : Line D → SeatOf Event Reply S
      → Task R (LockDesk R H M S) (Dialled D) C (SeatOf Event Reply S) I O → Type 0
  IsReaderFor line seat (works.Reader r) =
      (r.pass ≡ seat) × (r.desk.lock.now ≡ lock) × (r.desk.since.value ≡ seat) × (r.side ≡ line.side)
      × (r.arrivals.dial ≡ line.dial)
  IsReaderFor line seat (works.Writer w) = ⊥

  abbrev pub IsWriterFor : C → SeatOf Event Reply S
      → Task R (LockDesk R H M S) (Dialled D) C (SeatOf Event Reply S) I O → Type 0
  IsWriterFor clock seat (works.Reader r) = ⊥
  IsWriterFor clock seat (works.Writer w) =
      (w.pass ≡ seat) × (w.desk.lock.now ≡ lock) × (w.desk.since.value ≡ seat) × (w.clock ≡ clock)
