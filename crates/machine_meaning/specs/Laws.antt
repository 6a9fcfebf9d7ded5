-- What is promised of the machine.
use Rattle.std.specs.Prelude.{◌≡◌, ℕ, zero, suc, ◌+◌, ◌<◌, ◌^◌, Bool, true, false, ◌&&◌, Some, List, [], ◌∷◌}
use Rattle.std.specs.Prelude.{◌++◌, All, length, slice_get}
use Rattle.std.specs.List.{AllByRecursion, list_all, list_any, Contains}
use Rattle.agreement.specs.Agree.{Agree, AreInstalled}
use Rattle.agreement.specs.Entries.{entries_of}
use Rattle.agreement.specs.Premises.{IsSoundSetting}
use Rattle.cv_io.specs.declared.leaf.Leaf.{Leaf}
use Rattle.cv_io.specs.declared.leaf.Who.TheVariants.{Member}
use Rattle.grants.specs.Ports.{is_one_of}
use Rattle.grants.specs.declared.denial.Denial.{Denial}
use Rattle.member_replies.specs.Audit.{slow_line}
use Rattle.member_replies.specs.Refusals.{deny_line, refusal}
use Rattle.of10_actions.specs.Actions.{AreInRange, FitsTypes as ActionFits}
use Rattle.of10_actions.specs.Spelling.{spellings}
use Rattle.of10_frames.specs.Wire.{xid_field}
use Rattle.of10_match.specs.Normal.{IsNormal}
use Rattle.of10_match.specs.Ranges.{IsMatch}
use Rattle.outbox.specs.Outboxes.{is_full, with_more}
use Rattle.policies.specs.Policies.{PolicyOf}
use Rattle.policies.specs.Sound.{IsSound}
use Rattle.policies.specs.declared.policy.MemberItem.{MemberItem}
use Rattle.stats_map.specs.Counting.{count}
use Rattle.stats_map.specs.Histories.{drops, ever, run}
use Rattle.switch_meaning.specs.BatchLaw.{HasOneAKey}
use Rattle.switch_meaning.specs.Batches.{by_key}
use Rattle.switch_meaning.specs.Counts.{count_of}
use Rattle.switch_meaning.specs.Keys.{installed}
use Rattle.switch_meaning.specs.declared.entry.FlowEntry.{FlowEntry}
use Rattle.switch_meaning.specs.declared.entry.PhysEntry.{PhysEntry}
use Rattle.machine_meaning.specs.Counted.{leaves_of}
use Rattle.machine_meaning.specs.Events.{IsEvent}
use Rattle.machine_meaning.specs.Ever.{counted_by, counted_of}
use Rattle.machine_meaning.specs.Glances.{is_frame, is_present}
use Rattle.machine_meaning.specs.Hearing.{heard}
use Rattle.machine_meaning.specs.Lists.{changed_at}
use Rattle.machine_meaning.specs.MemberMessages.{denial_of}
use Rattle.machine_meaning.specs.Phases.{both, draft_of, is_empty, nobody, overfilled, slow}
use Rattle.machine_meaning.specs.Rounds.{Closing, without_member}
use Rattle.machine_meaning.specs.Runs.{run_of}
use Rattle.machine_meaning.specs.Settings.{setting_of}
use Rattle.machine_meaning.specs.Sound.{AreSoundTables, HasNumbers, IsSoundState}
use Rattle.machine_meaning.specs.States.{MemberOf, State, SwitchOf, opening}
use Rattle.machine_meaning.specs.Steps.{step_of}
use Rattle.machine_meaning.specs.Written.{IsWritten, standing_at, table_at}
use Rattle.events.specs.declared.event.Event.{Event}
use Rattle.events.specs.declared.event.Event.TheVariants.{Msg}
use Rattle.events.specs.declared.event.Reply.TheVariants.{Done}

-- soundness ---------------------------------------------------------------------------------------------------------

-- the opening state is sound
abbrev pub OpeningIsSound : Type 0
OpeningIsSound = (p : PolicyOf) → IsSound p → IsSoundState p (opening p)

-- and a sound state is sound after any step, as long as numbers are left
abbrev pub SoundnessIsKept : Type 0
SoundnessIsKept =
    (p : PolicyOf) → IsSound p → (s : State) → IsSoundState p s → (e : Event) → IsEvent e → HasNumbers (step_of p s e).1
    → IsSoundState p (step_of p s e).1

-- the setting of sound tables is as agreement asks
abbrev pub SettingsAreSound : Type 0
SettingsAreSound =
    (p : PolicyOf) → IsSound p → (s : State) → AreSoundTables p s → IsSoundSetting (setting_of p s)

-- agreement ---------------------------------------------------------------------------------------------------------

-- what stands is installed
abbrev pub StandingIsInstalled : Type 0
StandingIsInstalled =
    (p : PolicyOf) → IsSound p → (s : State) → IsSoundState p s → AreInstalled (setting_of p s) (table_at s)

-- tables that are installed of a sound state agree with it
abbrev pub StatesAgree : Type 0
StatesAgree =
    (p : PolicyOf) → IsSound p → (s : State) → IsSoundState p s → (tables : ℕ → List FlowEntry)
    → AreInstalled (setting_of p s) tables
    → Agree (setting_of p s) tables

-- after any events each packet leaves as the operators say over the members' tables
abbrev pub RunsAgree : Type 0
RunsAgree =
    (p : PolicyOf) → IsSound p → (events : List Event) → AllByRecursion IsEvent events
    → HasNumbers (run_of p events)
    → Agree (setting_of p (run_of p events)) (table_at (run_of p events))

-- writing -----------------------------------------------------------------------------------------------------------

-- an entry can be written to a switch, and the switch reads its match as it is
pub record IsWritable (e : PhysEntry) : Type 0 where
  pub match_in_range : IsMatch e.m
  pub normal : IsNormal e.m
  pub priority : e.priority < 2 ^ 16
  pub fits : 72 + length (spellings e.actions) < 2 ^ 16
  pub actions_in_range : AreInRange e.actions
  pub types : All ActionFits e.actions

-- what the setting of a state gives can be written: one entry for each key, and each of them
pub record AreWritable (p : PolicyOf) (s : State) : Type 0 where
  pub one_a_key : (n : ℕ) → HasOneAKey (installed (entries_of (setting_of p s) n))
  pub each : (n : ℕ) → AllByRecursion IsWritable (installed (entries_of (setting_of p s) n))

abbrev pub StatesAreWritable : Type 0
StatesAreWritable = (p : PolicyOf) → IsSound p → (s : State) → IsSoundState p s → AreWritable p s

-- a switch that is up after a step, and takes what the step puts to it, has the entries that stand
abbrev pub StepsAreWritten : Type 0
StepsAreWritten =
    (p : PolicyOf) → IsSound p → (s : State) → IsSoundState p s → (e : Event) → IsEvent e
    → HasNumbers (step_of p s e).1
    → (n : ℕ) (x : SwitchOf) → slice_get (step_of p s e).1.switches n ≡ Some x → x.outbox.up ≡ true
    → IsWritten p s e n

-- and what stands on it is what the setting gives after the step
abbrev pub StandingIsKept : Type 0
StandingIsKept =
    (p : PolicyOf) → IsSound p → (s : State) → IsSoundState p s → (e : Event) → IsEvent e
    → HasNumbers (step_of p s e).1
    → (n : ℕ) (x : SwitchOf) → slice_get (step_of p s e).1.switches n ≡ Some x → x.outbox.up ≡ true
    → standing_at (step_of p s e).1 n ≡ by_key (installed (entries_of (setting_of p (step_of p s e).1) n))

-- denials -----------------------------------------------------------------------------------------------------------

-- a member with one more message
abbrev pub with_message : List ℕ → MemberOf → MemberOf
with_message bytes x = record x { outbox = with_more (bytes ∷ []) x.outbox }

-- a frame of the present round of a member that a rule refuses
pub record IsDenied (p : PolicyOf) (s : State) (n round : ℕ) (frame : List ℕ) (m : MemberItem) (x : MemberOf)
    (denied : Denial) : Type 0 where
  pub item : slice_get p.members n ≡ Some m
  pub member : slice_get s.members n ≡ Some x
  pub heard : (is_frame frame && is_present s (record { who = Member n; round = round })) ≡ true
  pub refused : denial_of p m x frame ≡ Some denied

-- the audit's line
abbrev pub line_of : MemberItem → List ℕ → Denial → List ℕ
line_of m frame denied = deny_line m.controller m.vsw (xid_field frame) denied

-- a refused message changes nothing but that its sender gets an ERROR and the audit a line; where the sender's
-- outbox is full, its round ends in place of the ERROR
pub record ChangesNothing (p : PolicyOf) (s : State) (n round : ℕ) (frame : List ℕ) (m : MemberItem) (x : MemberOf)
    (denied : Denial) : Type 0 where
  pub answered : is_full x.outbox ≡ false → step_of p s (Msg (record { who = Member n; round = round }) frame) ≡ (
    Done,
    record s {
      members = changed_at n (with_message (refusal denied frame)) s.members;
      audit = s.audit ++ line_of m frame denied ∷ [];
    },
  )
  pub closed : is_full x.outbox ≡ true → step_of p s (Msg (record { who = Member n; round = round }) frame) ≡ (
    Done,
    record (without_member n s) {
      audit = s.audit ++ line_of m frame denied ∷ slow_line m.controller m.vsw ∷ [];
    },
  )

abbrev pub DenialsChangeNothing : Type 0
DenialsChangeNothing =
    (p : PolicyOf) → IsSound p → (s : State) → IsSoundState p s
    → (n round : ℕ) (frame : List ℕ) (m : MemberItem) (x : MemberOf) (denied : Denial)
    → IsDenied p s n round frame m x denied → ChangesNothing p s n round frame m x denied

-- counts ------------------------------------------------------------------------------------------------------------

-- an event does to counts what its frame tells, its rounds that end, and its entries that are written or forgotten do
abbrev pub CountsAreCounted : Type 0
CountsAreCounted = (p : PolicyOf) (s : State) (e : Event) → (step_of p s e).1.counts ≡ run (counted_by p s e) s.counts

-- the count of a leaf that no event dropped is the sum over all cookies that were ever written and name it, each once
abbrev pub CountsAreOfAll : Type 0
CountsAreOfAll =
    (p : PolicyOf) (events : List Event) (leaf : Leaf) → list_any (drops leaf) (counted_of p events) ≡ false
    → count (run_of p events).counts leaf ≡ count_of leaf (ever (counted_of p events))

-- the leaf of an entry that still matters wasn't dropped
abbrev pub WhatMattersIsKept : Type 0
WhatMattersIsKept =
    (p : PolicyOf) → IsSound p → (events : List Event) → AllByRecursion IsEvent events → HasNumbers (run_of p events)
    → (leaf : Leaf) → Contains (leaves_of (run_of p events)) leaf → list_any (drops leaf) (counted_of p events) ≡ false

-- slow sessions -----------------------------------------------------------------------------------------------------

-- each of some sessions is one of others
abbrev pub is_within : Closing → Closing → Bool
is_within a b = list_all (is_one_of b.switches) a.switches && list_all (is_one_of b.members) a.members

-- no full session outside these is put anything
abbrev pub Suffices : PolicyOf → State → Event → Closing → Type 0
Suffices p s e c = is_empty (overfilled s (draft_of p s e c)) ≡ true

-- sessions are closed in rounds: in each all that were full, and are put something where those before are closed
abbrev pub closed_in : ℕ → PolicyOf → State → Event → Closing → Closing
closed_in zero p s e c = c
closed_in (suc rounds) p s e c = closed_in rounds p s e (both c (overfilled s (draft_of p s e c)))

-- the sessions that are closed as slow are closed after some rounds, they suffice, and all of them are closed after
-- any rounds that do
pub record IsLeast (p : PolicyOf) (s : State) (e : Event) : Type 0 where
  pub rounds : ℕ
  pub reached : slow p s e ≡ closed_in rounds p s e nobody
  pub suffices : Suffices p s e (slow p s e)
  pub least :
      (k : ℕ) → Suffices p s e (closed_in k p s e nobody)
      → is_within (slow p s e) (closed_in k p s e nobody) ≡ true

abbrev pub SlowIsLeast : Type 0
SlowIsLeast =
    (p : PolicyOf) → IsSound p → (s : State) → IsSoundState p s → (e : Event) → IsEvent e → IsLeast p (heard s e) e
