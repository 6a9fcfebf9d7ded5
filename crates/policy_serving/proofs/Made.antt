-- The lines of the audit that a history takes are those that its events put, or a beginning of them.
use Rattle.std.proofs.Common.{◌≡◌, ◌≤◌, ◌∙◌, inl, inr, ℕ, Bool, true, false, List, [], ◌∷◌, ◌++◌, Option, take, length}
use Rattle.std.proofs.Common.{min, if◌then◌else◌}
use Rattle.std.proofs.Common.{append-nil, ap, arith, refl, subst, sym}
use Rattle.std.proofs.lemmas.List.{take-append-le, take_min}
use Rattle.std.proofs.lemmas.List.Concat.{flat_map-append}
use Rattle.outside.specs.Connections.{Connection}
use Rattle.cv_io.specs.declared.leaf.Who.{Who}
use Rattle.cv_io.specs.declared.leaf.Who.TheVariants as whos
use Rattle.outside.specs.declared.links.Endpoint.{Endpoint}
use Rattle.endpoint_works.specs.Audits.{audit, lines}
use Rattle.endpoint_works.specs.Sides.{is_audit as is_audit_there}
use Rattle.events.specs.declared.event.Event.{Event}
use Rattle.events.specs.declared.event.Event.TheVariants as events
use Rattle.events.specs.declared.event.Reply.{Reply}
use Rattle.events.specs.declared.event.Reply.TheVariants as replies
use Rattle.event_composes.specs.Meanings.{StateData, is_idle}
use Rattle.policy_serving.specs.Histories.{AuditIsKept, lines_made, lines_taken as taken_here}
use Rattle.machine_answers.specs.AuditLines.{is_audit, line_in}
use Rattle.policy_lock.specs.History.{IsLegal, after}
use Rattle.policy_lock.specs.declared.machine.Machine.{Ghosts}
use Rattle.policy_lock.specs.declared.view.Entry.{Entry}
use Rattle.serving.specs.Histories.{line_of, lines_taken}
use Rattle.serving.specs.Runs.{Serves, WritesAll, WritesSome}
use Rattle.serving.specs.declared.place.Place.{Place}
use Rattle.serving.specs.declared.run.Served.{Served}
use Rattle.serving.specs.declared.run.Served.TheVariants.{Done, Link, Spawn, Write, Memory}
use Rattle.sessions.specs.Streams.{Appends}
use Rattle.policy_serving.proofs.Drained.{drained}

-- both words for the lines that are taken say one thing
one_audit : (who : Who) → is_audit_there who ≡ is_audit who
one_audit (whos.Member n) = refl
one_audit (whos.Switch n) = refl
one_audit whos.Audit = refl

one_line : (e : Event) (r : Reply) → line_of e r ≡ line_in e r
one_line (events.Take session) (replies.Taken line) =
    ap (λ (b : Bool). if b then line ∷ [] else []) (one_audit session.who)
one_line (events.Take session) (replies.Opened round) = refl
one_line (events.Take session) replies.Done = refl
one_line (events.Take session) replies.Empty = refl
one_line (events.Take session) replies.Closed = refl
one_line (events.Take session) replies.Replaced = refl
one_line (events.Take session) (replies.Refused fault) = refl
one_line (events.Up who arp) r = refl
one_line (events.Msg session frame) r = refl
one_line (events.Gone session) r = refl
one_line (events.Tick second) r = refl
one_line (events.Policy v text) r = refl

one_history : (log : List (Entry Event Reply)) → lines_taken log ≡ taken_here log
one_history [] = refl
one_history (x ∷ xs) =
    ap (λ (l : List (List ℕ)). l ++ lines_taken xs) (one_line x.event x.reply)
    ∙ ap (λ (l : List (List ℕ)). line_in x.event x.reply ++ l) (one_history xs)

-- a beginning of a text is one of what goes on
take_on : (n : ℕ) (xs ys : List ℕ) → take n xs ≡ take (min n (length xs)) (xs ++ ys)
take_on n xs ys =
    let short : min n (length xs) ≤ length xs = omega arith in
    sym (take-append-le (min n (length xs)) xs ys short ∙ take_min n xs)

-- of a machine of which no line waited as it began
module _ {M : Type 0} (g : Ghosts M Event Reply StateData) (kept : AuditIsKept g) (start : StateData)
    (none : start.audit ≡ []) where
  made_is : (log : List (Entry Event Reply)) → IsLegal g start log
      → lines_made g start log ≡ lines_taken log ++ (after g start log).audit
  made_is log legal =
      ap (λ (l : List (List ℕ)). l ++ lines_made g start log) (sym none)
      ∙ (kept start log legal ∙ ap (λ (l : List (List ℕ)). l ++ (after g start log).audit) (sym (one_history log)))

  -- where none waits in the end they are all of them
  all_made : (log : List (Entry Event Reply)) → IsLegal g start log → (after g start log).audit ≡ []
      → lines_taken log ≡ lines_made g start log
  all_made log legal empty =
      sym (made_is log legal ∙ (ap (λ (l : List (List ℕ)). lines_taken log ++ l) empty ∙ append-nil (lines_taken log)))

  -- else a beginning
  some_made : (log : List (Entry Event Reply)) → IsLegal g start log → (n : ℕ)
      → take n (lines (lines_taken log)) ≡ take (min n (length (lines (lines_taken log))))
      (lines (lines_made g start log))
  some_made log legal n =
      let taken = lines_taken log in
      let waiting = (after g start log).audit in
      take_on n (lines taken) (lines waiting)
      ∙ ap (take (min n (length (lines taken))))
      (sym (ap lines (made_is log legal) ∙ flat_map-append (λ (line : List ℕ). line ++ 10 ∷ []) taken waiting))

  module _ (idle : g.idle ≡ is_idle) (told : Endpoint → Option (List Connection)) (reliable : Endpoint → Bool)
      (may : ℕ → Type 0) (places : List Place) (held written : Option (List ℕ)) (faults risen : ℕ) where
    whole : (undialled : ℕ) (failed wanted : Bool)
        → WritesAll g start told reliable may lines_taken places held written faults risen undialled failed wanted
        → WritesAll g start told reliable may (lines_made g start) places held written faults risen undialled failed
        wanted
    whole undialled failed wanted w =
        let all = w.log ++ w.rest in
        let end = after g start all in
        let empty =
        drained end (subst (λ (test : StateData → Event → Bool). test end (events.Take audit) ≡ true) idle
        w.drained) in
        record {
          log = w.log;
          rest = w.rest;
          run = w.run;
          undials = w.undials;
          drained = w.drained;
          wrote = subst (λ (l : List (List ℕ)). Appends held written (lines l)) (all_made all w.run.legal empty)
              w.wrote;
        }

    begun : WritesSome g start told reliable may lines_taken places held written faults risen
        → WritesSome g start told reliable may (lines_made g start) places held written faults risen
    begun w =
        let all = w.log ++ w.rest in
        record {
          undialled = w.undialled;
          failed = w.failed;
          wanted = w.wanted;
          log = w.log;
          rest = w.rest;
          run = w.run;
          undials = w.undials;
          count = min w.count (length (lines (lines_taken all)));
          wrote = subst (Appends held written) (some_made all w.run.legal w.count) w.wrote;
        }

    pub made : (served : Served) → Serves g start told reliable may lines_taken places held written faults risen served
        → Serves g start told reliable may (lines_made g start) places held written faults risen served
    made Done w = whole 0 false false w
    made Link w = (w.0, (w.1.0, (w.1.1.0, whole w.0 w.1.0 w.1.1.0 w.1.1.1)))
    made Spawn same = same
    made Write w = begun w
    made Memory (inl same) = inl same
    made Memory (inr w) = inr (begun w)
