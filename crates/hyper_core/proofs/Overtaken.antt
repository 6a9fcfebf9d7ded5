-- The state in which a switch's frame acts.
use Rattle.std.proofs.Common.{◌≡◌, ◌∙◌, ℕ, List, Option, Some, None, sym, ap, subst, slice_get}
use Rattle.std.specs.Prelude.{fold}
use Rattle.cv_io.specs.declared.leaf.Session.{Session}
use Rattle.cv_io.specs.declared.leaf.Who.{Who}
use Rattle.cv_io.specs.declared.leaf.Who.TheVariants.{Audit, Member, Switch}
use Rattle.stats_map.specs.Counting.{CountsOf}
use Rattle.hyper_core.proofs.Counted.{last_are_counted}
use Rattle.hyper_core.proofs.Reports.{counts_are_reported}
use Rattle.event_acts.specs.CookieCounts.{AreLast, counts_in, with_counts}
use Rattle.event_acts.specs.Heard.{heard_in}
use Rattle.machine_meaning.specs.Hearing.{counts_told, heard, reports_from, reports_in_frame}
use Rattle.machine_drafts.specs.Machines.{at_moment}
use Rattle.event_acts.specs.Overtaking.{AreTakenOver, IsHeardOf, IsTakenOver}
use Rattle.machine_meaning.specs.States.{State, SwitchOf}
use Rattle.events.specs.declared.event.Event.{Event}
use Rattle.events.specs.declared.event.Event.TheVariants.{Up, Msg, Gone, Tick, Take, Policy}
use Rattle.event_acts.specs.declared.heard.Heard.{Heard}
use Rattle.event_acts.specs.declared.hearing.CookieCount.{CookieCount}

module _ (s : State) (n : ℕ) (frame : List ℕ) (session : Session) (is : session.who ≡ Switch n) where
  -- what is reported is told
  told_from : (o : Option SwitchOf) → slice_get s.switches n ≡ o
      → record s { counts = fold counts_told s.counts (reports_in_frame s n o frame) } ≡ heard s (Msg session frame)
  told_from o there =
      ap (λ (o : Option SwitchOf). record s { counts = fold counts_told s.counts (reports_in_frame s n o frame) })
      (sym there)
      ∙ ap (λ (who : Who). record s { counts = fold counts_told s.counts (reports_from s who frame) }) (sym is)

  -- without such a switch nothing
  pub heard_past : slice_get s.switches n ≡ None → s ≡ heard s (Msg session frame)
  heard_past none = told_from None none

  -- what is taken over is what is reported
  pub heard_there : (x : SwitchOf) (h : Heard) (numbers : List CookieCount) (counts : CountsOf)
      → slice_get s.switches n ≡ Some x → h ≡ heard_in frame → numbers ≡ counts_in s.waiting x.known n h
      → counts ≡ with_counts n numbers s.counts → record s { counts = counts } ≡ heard s (Msg session frame)
  heard_there x h numbers counts there tells taken told =
      ap (λ (c : CountsOf). record s { counts = c })
      (told
      ∙ (ap (λ (ns : List CookieCount). with_counts n ns s.counts)
      (taken ∙ ap (λ (h : Heard). counts_in s.waiting x.known n h) tells)
      ∙ sym (counts_are_reported s n x frame s.counts)))
      ∙ told_from (Some x) there

-- the numbers of a removal are counted then
pub last_there : (s : State) (n : ℕ) (x : SwitchOf) (h : Heard) (numbers : List CookieCount) (counts : CountsOf)
    → slice_get s.switches n ≡ Some x → numbers ≡ counts_in s.waiting x.known n h
    → counts ≡ with_counts n numbers s.counts → AreTakenOver (Switch n) h (record s { counts = counts })
last_there s n x h numbers counts there taken told y at =
    let P : CountsOf → Type 0 = λ c. AreLast n x.known h c in
    let Q : SwitchOf → Type 0 = λ y. AreLast n y.known h counts in
    let same : x ≡ y = cc in
    let counted : with_counts n (counts_in s.waiting x.known n h) s.counts ≡ counts =
    sym (told ∙ ap (λ (ns : List CookieCount). with_counts n ns s.counts) taken) in
    subst Q same (subst P counted (last_are_counted s.waiting x.known n h s.counts))

-- and where there is no such switch
pub last_past : (s : State) (n : ℕ) (h : Heard) → slice_get s.switches n ≡ None → AreTakenOver (Switch n) h s
last_past s n h none y at = absurd (cc)

-- at another moment it is heard as well
taken_at : (who : Who) (h : Heard) (s : State) (now : ℕ) → AreTakenOver who h s → AreTakenOver who h (at_moment now s)
taken_at (Member n) h s now t = tt
taken_at (Switch n) h s now t = t
taken_at Audit h s now t = tt

told_at : (e : Event) (h : Heard) (s : State) (now : ℕ) → IsTakenOver e h s → IsTakenOver e h (at_moment now s)
told_at (Up who arp) h s now t = tt
told_at (Msg session frame) h s now t = taken_at session.who h s now t
told_at (Gone session) h s now t = tt
told_at (Tick second) h s now t = tt
told_at (Take session) h s now t = tt
told_at (Policy v text) h s now t = tt

pub heard_at : (e : Event) (h : Heard) (s : State) (now : ℕ) → IsHeardOf e h s → IsHeardOf e h (at_moment now s)
heard_at e h s now is =
    record { tells = is.tells; fits = is.fits; taken_over = told_at e h s now is.taken_over }
