-- What a taking finds.
use Rattle.std.proofs.Common.{◌≡◌, ◌⊎◌, ◌∙◌, ◌==◌, ℕ, Bool, true, false, List, [], ◌∷◌, Option, Some, None, refl, sym}
use Rattle.std.proofs.Common.{ap, inl, inr}
use Rattle.std.specs.Prelude.{if◌then◌else◌, is_some, nat_lt}
use Rattle.std.specs.Option.{option_map_or}
use Rattle.std.proofs.lemmas.Bool.{false≢true}
use Rattle.cv_io.specs.declared.leaf.Session.{Session}
use Rattle.cv_io.specs.declared.leaf.Who.{Who}
use Rattle.cv_io.specs.declared.leaf.Who.TheVariants.{Audit, Member, Switch}
use Rattle.events.specs.declared.event.Event.TheVariants as events
use Rattle.events.specs.declared.event.Reply.{Reply}
use Rattle.events.specs.declared.event.Reply.TheVariants.{Closed, Done, Empty, Opened, Refused, Replaced, Taken}
use Rattle.outbox.specs.Outboxes.{OutboxOf, first, is_open, taking}
use Rattle.outbox.specs.declared.outbox.Taking.TheVariants as takings
use Rattle.policies.specs.Policies.{PolicyOf}
use Rattle.machine_meaning.specs.Glances.{is_present, unless_taken}
use Rattle.machine_meaning.specs.Sessions.{outbox_of}
use Rattle.machine_meaning.specs.States.{State}
use Rattle.machine_meaning.specs.Steps.{step_by}
use Rattle.machine_meaning.specs.Takings.{audit_outbox, reply_of, takes, takes_by, taking_from}
use Rattle.lock_desk.specs.Hosts.{IsOver, NothingWaits}
use Rattle.machine_answers.specs.Answers.{TakingsAreAnswered, is_idle, reply_in}
use Rattle.machine_answers.proofs.Steps.{over}

-- a message, nothing, or refused since the round isn't up
abbrev Found : Reply → Bool → Type 0
Found r present =
    ((message : List ℕ) × (r ≡ Taken message)) ⊎ ((r ≡ Empty) ⊎ ((r ≡ Closed) × (present ≡ false)))

found_first : (waiting : List (List ℕ)) (present : Bool) → Found (reply_of (first waiting)) present
found_first [] present = inr (inl refl)
found_first (message ∷ later) present = inl (message, refl)

found_in : (o : OutboxOf) (round : ℕ) → Found (reply_of (taking o round)) (is_open o round)
found_in o round = by (nat_lt o.round round)
  where
    is_up : (b : Bool) → Found (reply_of (if b then first o.waiting else takings.Closed)) b
    is_up true = found_first o.waiting true
    is_up false = inr (inr (refl, refl))

    by : (b : Bool)
        → Found (reply_of (if b then takings.Empty else (if is_open o round then first o.waiting else takings.Closed)))
        (is_open o round)
    by true = inr (inl refl)
    by false = is_up (is_open o round)

found_by : (s : State) (who : Who) (round : ℕ)
    → Found (takes_by s who round) (is_present s (record { who = who; round = round }))
found_by s (Member n) round = by (outbox_of s (Member n))
  where
    by : (o : Option OutboxOf)
        → Found (taking_from o round) (option_map_or (λ (x : OutboxOf). is_open x round) o false)
    by None = inr (inr (refl, refl))
    by (Some x) = found_in x round
found_by s (Switch n) round = by (outbox_of s (Switch n))
  where
    by : (o : Option OutboxOf)
        → Found (taking_from o round) (option_map_or (λ (x : OutboxOf). is_open x round) o false)
    by None = inr (inr (refl, refl))
    by (Some x) = found_in x round
found_by s Audit round = by (round == 0)
  where
    by : (b : Bool) → Found (if b then reply_of (taking (audit_outbox s) 0) else Closed) false
    by true = found_first s.audit false
    by false = inr (inr (refl, refl))

-- a taking is answered with what it finds
answered : (p : PolicyOf) (s : State) (session : Session) → reply_in p s (events.Take session) ≡ takes s session
answered p s session = by (takes s session) refl
  where
    by : (r : Reply) → takes s session ≡ r → (step_by (unless_taken r) p s (events.Take session)).0 ≡ r
    by (Taken message) e = e
    by (Opened round) e = refl
    by Done e = refl
    by Empty e = refl
    by Closed e = refl
    by Replaced e = refl
    by (Refused fault) e = refl

pub answers : TakingsAreAnswered
answers p s session = (some, none)
  where
    is : reply_in p s (events.Take session) ≡ takes s session
    is = answered p s session

    some : is_idle p s (events.Take session) ≡ false
        → (message : List ℕ) × (reply_in p s (events.Take session) ≡ Taken message)
    some i = by (found_by s session.who session.round)
      where
        by : Found (takes s session) (is_present s session)
            → (message : List ℕ) × (reply_in p s (events.Take session) ≡ Taken message)
        by (inl t) = (t.0, is ∙ t.1)
        by (inr (inl e)) = absurd (false≢true (sym i ∙ ap (λ r. is_some (unless_taken r)) e))
        by (inr (inr e)) = absurd (false≢true (sym i ∙ ap (λ r. is_some (unless_taken r)) e.0))

    none : is_idle p s (events.Take session) ≡ true
        → NothingWaits (reply_in p) s session
        ⊎ ((reply_in p s (events.Take session) ≡ Closed) × IsOver (reply_in p) s session)
    none i = by (found_by s session.who session.round)
      where
        by : Found (takes s session) (is_present s session)
            → NothingWaits (reply_in p) s session
            ⊎ ((reply_in p s (events.Take session) ≡ Closed) × IsOver (reply_in p) s session)
        by (inl t) = absurd (false≢true (sym (ap (λ r. is_some (unless_taken r)) t.1) ∙ i))
        by (inr (inl e)) = inl (is ∙ e)
        by (inr (inr e)) = inr (is ∙ e.0, over p s session e.1)
