-- What is promised of what the machine puts to switches, and of what waits.
use Rattle.std.specs.Prelude.{◌≡◌, ◌⊎◌, ℕ, ◌<◌, ◌^◌, List, [], ◌∷◌, true, Some, flat_map, slice_get}
use Rattle.std.specs.List.{AllByRecursion}
use Rattle.agreement.specs.Agree.{Agree}
use Rattle.events.specs.declared.event.Event.{Event}
use Rattle.of10_actions.specs.Spelling.{IsBytes}
use Rattle.outbox.specs.Outboxes.{OutboxOf}
use Rattle.policies.specs.Policies.{PolicyOf}
use Rattle.policies.specs.Sound.{IsSound}
use Rattle.switch_meaning.specs.declared.entry.FlowEntry.{FlowEntry}
use Rattle.switch_state.specs.Frames.{bodies_in}
use Rattle.switch_state.specs.Writing.{changes_of}
use Rattle.machine_meaning.specs.Events.{IsEvent}
use Rattle.machine_meaning.specs.Runs.{after, run_of}
use Rattle.machine_meaning.specs.Settings.{setting_of}
use Rattle.machine_meaning.specs.Sound.{HasNumbers, IsSoundState}
use Rattle.machine_meaning.specs.States.{MemberOf, State, SwitchOf, opening}
use Rattle.machine_meaning.specs.Written.{put_by}
use Rattle.written_tables.specs.AuditLines.{IsAuditLine}
use Rattle.written_tables.specs.Making.{Makes, made_by, put_more, put_since}

-- tables ------------------------------------------------------------------------------------------------------------

-- where what a switch was put makes what stands on it, it does so with what one more event puts
abbrev pub StepsMakeTables : Type 0
StepsMakeTables =
    (p : PolicyOf) → IsSound p → (s : State) → IsSoundState p s → (e : Event) → IsEvent e → HasNumbers (after p s e)
    → (n : ℕ) (messages : List (List ℕ)) → Makes s n messages → Makes (after p s e) n (put_more p n s e messages)

-- switches with tables that are made so do with each packet what the policy says over the members' tables
abbrev pub MadeTablesAgree : Type 0
MadeTablesAgree =
    (p : PolicyOf) → IsSound p → (s : State) → IsSoundState p s
    → (messages : ℕ → List (List ℕ)) → ((n : ℕ) → Makes s n (messages n))
    → (tables : ℕ → List FlowEntry) → Agree (setting_of p s) (λ n. made_by (messages n) (tables n))

-- after any events, what a switch that is up was put since it last came up makes of any table what stands on it
abbrev pub RunsMakeTables : Type 0
RunsMakeTables =
    (p : PolicyOf) → IsSound p → (events : List Event) → AllByRecursion IsEvent events → HasNumbers (run_of p events)
    → (n : ℕ) → Makes (run_of p events) n (put_since p n events)

-- and these tables agree with the policy over the members' tables, whatever the switches had before
abbrev pub WrittenTablesAgree : Type 0
WrittenTablesAgree =
    (p : PolicyOf) → IsSound p → (events : List Event) → AllByRecursion IsEvent events → HasNumbers (run_of p events)
    → (tables : ℕ → List FlowEntry)
    → Agree (setting_of p (run_of p events)) (λ n. made_by (put_since p n events) (tables n))

-- bytes -------------------------------------------------------------------------------------------------------------

-- what is read of a message changes no table
abbrev pub ChangesNothing : List ℕ → Type 0
ChangesNothing message = flat_map changes_of (bodies_in (message ∷ [])) ≡ []

abbrev pub IsBytesOrQuiet : List ℕ → Type 0
IsBytesOrQuiet message = IsBytes message ⊎ ChangesNothing message

-- each message that an event puts to a switch, and that changes a table, is bytes
abbrev pub FlowModsAreBytes : Type 0
FlowModsAreBytes =
    (p : PolicyOf) → IsSound p → (s : State) → IsSoundState p s → (e : Event) → IsEvent e → HasNumbers (after p s e)
    → (n : ℕ) (x : SwitchOf) → slice_get (after p s e).switches n ≡ Some x → x.outbox.up ≡ true
    → AllByRecursion IsBytesOrQuiet (put_by p s e n)

-- what waits --------------------------------------------------------------------------------------------------------

-- nothing waits for a switch
abbrev pub NothingWaits : State → ℕ → Type 0
NothingWaits s n = (x : SwitchOf) → slice_get s.switches n ≡ Some x → x.outbox.waiting ≡ []

-- where nothing waits for a switch, what waits after an event is what the event puts to it
abbrev pub WhatIsPutWaits : Type 0
WhatIsPutWaits =
    (p : PolicyOf) (s : State) (e : Event) (n : ℕ) → NothingWaits s n
    → (x : SwitchOf) → slice_get (after p s e).switches n ≡ Some x → x.outbox.up ≡ true
    → x.outbox.waiting ≡ put_by p s e n

-- the round of a session is a number of 64 bits
abbrev pub HasRound : OutboxOf → Type 0
HasRound o = o.round < 2 ^ 64

pub record HaveRounds (s : State) : Type 0 where
  pub members : AllByRecursion (λ (x : MemberOf). HasRound x.outbox) s.members
  pub switches : AllByRecursion (λ (x : SwitchOf). HasRound x.outbox) s.switches

-- and it stays one
pub record RoundsFit : Type 0 where
  pub opening : (p : PolicyOf) → HaveRounds (opening p)
  pub step : (p : PolicyOf) (s : State) (e : Event) → HaveRounds s → HaveRounds (after p s e)

-- each line of the audit is one of those that the audit has
abbrev pub HasAuditLines : PolicyOf → State → Type 0
HasAuditLines p s = AllByRecursion (IsAuditLine p) s.audit

abbrev pub AuditHasItsLines : Type 0
AuditHasItsLines = (p : PolicyOf) (s : State) (e : Event) → HasAuditLines p s → HasAuditLines p (after p s e)
