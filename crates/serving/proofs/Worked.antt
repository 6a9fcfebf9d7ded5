-- What the works of endpoints came to, by their seats.
use Rattle.std.proofs.Common.{◌≡◌, ℕ, Bool, true, false, List, Option, All, map, refl, sym, ap, ◌∙◌, subst, Some}
use Rattle.std.specs.List.{list_any}
use Rattle.outside.specs.Connections.{Connection}
use Rattle.outside.specs.Works.{AllChanged}
use Rattle.events.specs.declared.event.Event.{Event}
use Rattle.events.specs.declared.event.Reply.{Reply}
use Rattle.policy_lock.specs.Seat.{LockOf, SeatOf}
use Rattle.policy_lock.specs.declared.machine.Machine.{Ghosts}
use Rattle.endpoint_works.specs.Sendings.{HasSent}
use Rattle.endpoint_works.specs.Tasks.{HasReceived}
use Rattle.endpoint_works.specs.declared.arrivals.Dialled.{Dialled}
use Rattle.endpoint_works.specs.declared.side.Side.{Side}
use Rattle.endpoint_works.specs.declared.works.Task.{Task}
use Rattle.endpoint_works.specs.declared.works.Task.TheVariants as works
use Rattle.lock_desk.specs.Passes.{HasEnded, IsSince, own_posts}
use Rattle.lock_desk.specs.declared.desk.LockDesk.{LockDesk}
use Rattle.serving.specs.Working.{Does, HasRead, HasWritten}
use Rattle.serving.specs.Works.{AreTeams, IsReaderFor, IsWriterFor, failed_of, has_failed, has_wanted, pass_of}
use Rattle.serving.specs.Works.{wanted_of}
use Rattle.serving.specs.declared.dialling.Line.{Line}
use Rattle.serving.proofs.Seats.{seat-of, since-seat}
use Rattle.serving.proofs.Works.{any-known, any-none, changed-and, teams-all, teams-changed, teams-lines, teams-map}

-- what is known of a work from what all came to
abbrev Flags : {R D A C P I O : Type 0} → (failed wanted : Bool) → Task R D A C P I O → Type 0
Flags failed wanted u = (failed_of u ≡ true → failed ≡ true) × (wanted_of u ≡ true → wanted ≡ true)

abbrev JobOf : (R H M S D C I O : Type 0) → Type 0
JobOf R H M S D C I O = Task R (LockDesk R H M S) (Dialled D) C (SeatOf Event Reply S) I O

module _ {R H M S D C I O : Type 0} (g : Ghosts M Event Reply S) (lock : LockOf S) (left : D → Option (List Connection))
    (never_fails : D → Bool) (may : C → ℕ → Type 0) (clock : C) (IsShared : Type 0) (failed wanted : Bool) where
  reads-one : (line : Line D) (s : SeatOf Event Reply S) (t u : JobOf R H M S D C I O) → IsReaderFor lock line s t
      → (Does g left never_fails may IsShared t u × Flags failed wanted u)
      → HasRead g lock left never_fails failed wanted line s (pass_of u)
  reads-one line s (works.Reader r) (works.Reader u) h k = record {
    later = record {
      of = seat-of r.desk.lock.now lock u.pass u.pass (sym h.1) refl k.0.0.1;
      since = since-seat s r.pass u.pass h.0 k.0.1;
    };
    end = k.0.2.0;
    fails = λ e. k.1.0 (ap has_failed k.0.2.1 ∙ e);
    wants = λ e. k.1.1 (ap has_wanted k.0.2.1 ∙ e);
    rest = left u.arrivals.dial;
    received =
        subst (λ (d : D). HasReceived (λ (seat : SeatOf Event Reply S). own_posts seat.pass)
        (λ (seat : SeatOf Event Reply S). HasEnded g seat.pass) IsSince line.side (never_fails d) (left d)
        (left u.arrivals.dial) s u.pass k.0.2.0)
        h.4
        (subst (λ (x : SeatOf Event Reply S). HasReceived (λ (seat : SeatOf Event Reply S). own_posts seat.pass)
        (λ (seat : SeatOf Event Reply S). HasEnded g seat.pass) IsSince line.side (never_fails r.arrivals.dial)
        (left r.arrivals.dial)
        (left u.arrivals.dial) x u.pass k.0.2.0) h.0
        (subst (λ (x : Side). HasReceived (λ (seat : SeatOf Event Reply S). own_posts seat.pass)
        (λ (seat : SeatOf Event Reply S). HasEnded g seat.pass) IsSince x (never_fails r.arrivals.dial)
        (left r.arrivals.dial)
        (left u.arrivals.dial) r.pass u.pass k.0.2.0) h.3 k.0.2.2));
  }
  reads-one line s (works.Reader r) (works.Writer u) h k = absurd k.0
  reads-one line s (works.Writer r) u h k = absurd h

  writes-one : (s : SeatOf Event Reply S) (t u : JobOf R H M S D C I O) → IsWriterFor lock clock s t
      → (Does g left never_fails may IsShared t u × Flags failed wanted u) → HasWritten lock (may clock) s (pass_of u)
  writes-one s (works.Writer r) (works.Writer u) h k = record {
    later = record {
      of = seat-of r.desk.lock.now lock u.pass u.pass (sym h.1) refl k.0.0.1;
      since = since-seat s r.pass u.pass h.0 k.0.1;
    };
    cut = k.0.2.0.cut;
    sent =
        subst (λ (x : C). HasSent (may x) k.0.2.0.cut (own_posts s.pass) (own_posts u.pass.pass)) h.3
        (subst (λ (x : SeatOf Event Reply S).
        HasSent (may r.clock) k.0.2.0.cut (own_posts x.pass) (own_posts u.pass.pass)) h.0 k.0.2.2);
  }
  writes-one s (works.Writer r) (works.Reader u) h k = absurd k.0
  writes-one s (works.Reader r) u h k = absurd h

  -- a dial that never fails hasn't
  reads-well : (line : Line D) (s : SeatOf Event Reply S) (t u : JobOf R H M S D C I O)
      → (never_fails line.dial ≡ true) × IsReaderFor lock line s t
      → Does g left never_fails may IsShared t u → failed_of u ≡ false
  reads-well line s (works.Reader r) (works.Reader u) h k =
      ap has_failed k.2.1 ∙ k.2.2.dials (ap never_fails h.1.4 ∙ h.0)
  reads-well line s (works.Reader r) (works.Writer u) h k = absurd k
  reads-well line s (works.Writer r) u h k = absurd h.1

  writes-well : (s : SeatOf Event Reply S) (t u : JobOf R H M S D C I O) → IsWriterFor lock clock s t
      → Does g left never_fails may IsShared t u → failed_of u ≡ false
  writes-well s (works.Writer r) (works.Writer u) h k = refl
  writes-well s (works.Writer r) (works.Reader u) h k = absurd k
  writes-well s (works.Reader r) u h k = absurd h

  module _ (lines : List (Line D)) (seats : List (SeatOf Event Reply S)) (begun now : List (JobOf R H M S D C I O))
      (teams : AreTeams (IsReaderFor lock) (IsWriterFor lock clock) lines seats begun)
      (done : AllChanged (Does g left never_fails may IsShared) begun now) where
    pub worked-teams : list_any failed_of now ≡ failed → list_any wanted_of now ≡ wanted
        → AreTeams (HasRead g lock left never_fails failed wanted) (HasWritten lock (may clock)) lines seats
        (map pass_of now)
    worked-teams f w =
        teams-map (λ line s u. HasRead g lock left never_fails failed wanted line s (pass_of u))
        (λ s u. HasWritten lock (may clock) s (pass_of u)) pass_of
        (HasRead g lock left never_fails failed wanted) (HasWritten lock (may clock)) (λ line s u h. h) (λ s u h. h)
        lines seats now
        (teams-changed (IsReaderFor lock) (IsWriterFor lock clock)
        (λ line s u. HasRead g lock left never_fails failed wanted line s (pass_of u))
        (λ s u. HasWritten lock (may clock) s (pass_of u))
        (λ t u. Does g left never_fails may IsShared t u × Flags failed wanted u) lines seats begun now teams
        (changed-and (Does g left never_fails may IsShared) (Flags failed wanted) begun now done
        (λ k d lt. (any-known failed_of failed now f k d lt, any-known wanted_of wanted now w k d lt))) reads-one
        writes-one)

    pub worked-well : list_any failed_of now ≡ failed → All (λ (line : Line D). never_fails line.dial ≡ true) lines
        → failed ≡ false
    worked-well f well =
        sym f
        ∙ any-none failed_of now
        (teams-all (λ line s u. failed_of u ≡ false) (λ s u. failed_of u ≡ false)
        (λ (u : JobOf R H M S D C I O). failed_of u ≡ false) (λ line s u h. h) (λ s u h. h)
        lines seats now
        (teams-changed (λ line s t. (never_fails line.dial ≡ true) × IsReaderFor lock line s t)
        (λ s t. IsWriterFor lock clock s t)
        (λ line s u. failed_of u ≡ false) (λ s u. failed_of u ≡ false) (Does g left never_fails may IsShared) lines
        seats
        begun now
        (teams-lines (IsReaderFor lock) (IsWriterFor lock clock) (λ (line : Line D). never_fails line.dial ≡ true) lines
        seats
        begun teams well) done reads-well writes-well))
