-- Each line that is put to the audit is taken, or waits.
use Rattle.std.proofs.Common.{◌≡◌, ◌∙◌, ◌==◌, ℕ, Bool, true, false, List, [], ◌∷◌, ◌++◌, Option, Some, None, fold}
use Rattle.std.proofs.Common.{length}
use Rattle.std.proofs.Common.{refl, sym, ap, subst, append_assoc, append-nil, if◌then◌else◌}
use Rattle.std.specs.Option.{option_map_or}
use Rattle.std.proofs.lemmas.Bool.{eqb-true}
use Rattle.cv_io.specs.declared.leaf.Session.{Session}
use Rattle.cv_io.specs.declared.leaf.Who.{Who}
use Rattle.cv_io.specs.declared.leaf.Who.TheVariants.{Audit, Member, Switch}
use Rattle.events.specs.declared.event.Event.{Event}
use Rattle.events.specs.declared.event.Event.TheVariants as events
use Rattle.events.specs.declared.event.Reply.{Reply}
use Rattle.events.specs.declared.event.Reply.TheVariants.{Closed, Done, Empty, Opened, Refused, Replaced, Taken}
use Rattle.outbox.specs.Outboxes.{first, later, taking}
use Rattle.policies.specs.Policies.{PolicyOf}
use Rattle.machine_meaning.specs.Glances.{glance_of, unless_taken}
use Rattle.machine_meaning.specs.Hearing.{heard}
use Rattle.machine_meaning.specs.Phases.{drafted, slow}
use Rattle.machine_meaning.specs.Putting.{lines_of, put}
use Rattle.machine_meaning.specs.Runs.{after}
use Rattle.machine_meaning.specs.States.{State}
use Rattle.machine_meaning.specs.Steps.{step_by, step_of}
use Rattle.machine_meaning.specs.Takings.{audit_outbox, left_by, reply_of, takes, takes_by}
use Rattle.machine_meaning.specs.Written.{draft_at}
use Rattle.machine_answers.specs.AuditLines.{AuditIsWhole, all_put, all_taken, line_in, lines_put}
use Rattle.machine_answers.proofs.Phases.{drafted_holds}
use Rattle.machine_answers.proofs.Steps.{acted, moment_with}

-- an event that goes through the phases ------------------------------------------------------------------------------

drafted_audit : (p : PolicyOf) (s : State) (e : Event) → (drafted p (heard s e) e).state.audit ≡ s.audit
drafted_audit p s e =
    let o = acted (length s.members) (length s.switches) p (heard s e) e (refl, refl) in
    ap (λ (x : List (List ℕ) × ℕ). x.0)
    (drafted_holds (length s.members) (length s.switches) (s.audit, moment_with (heard s e) e) o.0 p (heard s e) e
    (slow p (heard s e) e) o.1).2

went : (p : PolicyOf) (s : State) (e : Event)
    → s.audit ++ lines_of p (drafted p (heard s e) e) ≡ (put p (drafted p (heard s e) e)).audit
went p s e = ap (λ a. a ++ lines_of p (drafted p (heard s e) e)) (sym (drafted_audit p s e))

-- a taking ----------------------------------------------------------------------------------------------------------

abbrev in_round : Who → ℕ → Session
in_round who round = record { who = who; round = round }

of_member : (n round : ℕ) (r : Reply) → line_in (events.Take (in_round (Member n) round)) r ≡ []
of_member n round (Opened k) = refl
of_member n round Done = refl
of_member n round (Taken message) = refl
of_member n round Empty = refl
of_member n round Closed = refl
of_member n round Replaced = refl
of_member n round (Refused fault) = refl

of_switch : (n round : ℕ) (r : Reply) → line_in (events.Take (in_round (Switch n) round)) r ≡ []
of_switch n round (Opened k) = refl
of_switch n round Done = refl
of_switch n round (Taken message) = refl
of_switch n round Empty = refl
of_switch n round Closed = refl
of_switch n round Replaced = refl
of_switch n round (Refused fault) = refl

not_taken : (r : Reply) (line : List ℕ) → unless_taken r ≡ Some (Taken line) → ⊥
not_taken (Opened k) line e = cc e
not_taken Done line e = cc e
not_taken (Taken message) line e = cc e
not_taken Empty line e = cc e
not_taken Closed line e = cc e
not_taken Replaced line e = cc e
not_taken (Refused fault) line e = cc e

-- an answer at once takes nothing
idle_take : (session : Session) (r reply : Reply) → unless_taken r ≡ Some reply
    → line_in (events.Take session) reply ≡ []
idle_take session r (Opened k) e = refl
idle_take session r Done e = refl
idle_take session r (Taken line) e = absurd (not_taken r line e)
idle_take session r Empty e = refl
idle_take session r Closed e = refl
idle_take session r Replaced e = refl
idle_take session r (Refused fault) e = refl

first_taken : (round : ℕ) (lines : List (List ℕ)) → unless_taken (reply_of (first lines)) ≡ None
    → lines ++ [] ≡ line_in (events.Take (in_round Audit round)) (reply_of (first lines)) ++ later lines
first_taken round [] e = absurd (cc e)
first_taken round (line ∷ lines) e = append-nil (line ∷ lines)

took : (s : State) (who : Who) (round : ℕ) → unless_taken (takes_by s who round) ≡ None
    → s.audit ++ [] ≡ line_in (events.Take (in_round who round)) (takes_by s who round) ++ (left_by who round s).audit
took s (Member n) round e =
    append-nil s.audit ∙ ap (λ l. l ++ s.audit) (sym (of_member n round (takes_by s (Member n) round)))
took s (Switch n) round e =
    append-nil s.audit ∙ ap (λ l. l ++ s.audit) (sym (of_switch n round (takes_by s (Switch n) round)))
took s Audit round e = by (round == 0) refl e
  where
    Took : ℕ → Bool → Type 0
    Took k b =
        s.audit ++ []
        ≡ line_in (events.Take (in_round Audit k)) (if b then reply_of (taking (audit_outbox s) 0) else Closed)
        ++ (left_by Audit k s).audit

    by : (b : Bool) → (round == 0) ≡ b
        → unless_taken (if b then reply_of (taking (audit_outbox s) 0) else Closed) ≡ None → Took round b
    by true is e = subst (λ k. Took k true) (sym (eqb-true round 0 is)) (first_taken 0 s.audit e)
    by false is e = absurd (cc e)

-- one event ---------------------------------------------------------------------------------------------------------

idle_line : (p : PolicyOf) (s : State) (e : Event) (reply : Reply) → glance_of p s e ≡ Some reply → line_in e reply ≡ []
idle_line p s (events.Up who arp) reply g = refl
idle_line p s (events.Msg session frame) reply g = refl
idle_line p s (events.Gone session) reply g = refl
idle_line p s (events.Tick second) reply g = refl
idle_line p s (events.Take session) reply g = idle_take session (takes s session) reply g
idle_line p s (events.Policy v text) reply g = refl

busy_line : (p : PolicyOf) (s : State) (e : Event) → glance_of p s e ≡ None
    → s.audit ++ option_map_or (lines_of p) (draft_at None p s e) []
    ≡ line_in e (step_by None p s e).0 ++ (step_by None p s e).1.audit
busy_line p s (events.Up who arp) g = went p s (events.Up who arp)
busy_line p s (events.Msg session frame) g = went p s (events.Msg session frame)
busy_line p s (events.Gone session) g = went p s (events.Gone session)
busy_line p s (events.Tick second) g = went p s (events.Tick second)
busy_line p s (events.Take session) g = took s session.who session.round g
busy_line p s (events.Policy v text) g = went p s (events.Policy v text)

pub stepped : (p : PolicyOf) (s : State) (e : Event)
    → s.audit ++ lines_put p s e ≡ line_in e (step_of p s e).0 ++ (step_of p s e).1.audit
stepped p s e = by (glance_of p s e) refl
  where
    by : (o : Option Reply) → glance_of p s e ≡ o
        → s.audit ++ option_map_or (lines_of p) (draft_at o p s e) []
        ≡ line_in e (step_by o p s e).0 ++ (step_by o p s e).1.audit
    by (Some reply) g = append-nil s.audit ∙ ap (λ l. l ++ s.audit) (sym (idle_line p s e reply g))
    by None g = busy_line p s e g

pub whole : AuditIsWhole
whole p s [] = append-nil s.audit
whole p s (e ∷ es) =
    let t = after p s e in
    let put = lines_put p s e in
    let line = line_in e (step_of p s e).0 in
    sym (append_assoc s.audit put (all_put p t es))
    ∙ (ap (λ l. l ++ all_put p t es) (stepped p s e)
    ∙ (append_assoc line t.audit (all_put p t es)
    ∙ (ap (λ l. line ++ l) (whole p t es)
    ∙ sym (append_assoc line (all_taken p t es) (fold (after p) t es).audit))))
