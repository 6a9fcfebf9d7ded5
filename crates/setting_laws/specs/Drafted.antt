-- What an event leaves before it is composed has sound tables.
use Rattle.std.specs.Prelude.{◌≡◌, ℕ, ◌+◌, ◌<◌, ◌^◌, false, List, Some, None, length, slice_get}
use Rattle.std.specs.List.{AllByRecursion}
use Rattle.events.specs.declared.event.Event.{Event}
use Rattle.policies.specs.Policies.{PolicyOf}
use Rattle.policies.specs.Sound.{IsSound}
use Rattle.switch_state.specs.Known.{nothing_known}
use Rattle.machine_meaning.specs.Events.{IsEvent}
use Rattle.machine_meaning.specs.Glances.{glance_of}
use Rattle.machine_meaning.specs.Hearing.{heard}
use Rattle.machine_meaning.specs.Phases.{settled_of}
use Rattle.machine_meaning.specs.Rounds.{Closing}
use Rattle.machine_meaning.specs.Sound.{AreSoundTables, IsSoundState, IsSoundWaiting}
use Rattle.machine_meaning.specs.States.{MemberOf, State, SwitchOf}
use Rattle.setting_laws.specs.Ready.{IsReady}
use Rattle.setting_laws.specs.Staying.{TablesStay}

-- each member has a serial number left for an entry
abbrev pub HaveSerials : List MemberOf → Type 0
HaveSerials members = AllByRecursion (λ (x : MemberOf). x.kept.table.next + 1 < 2 ^ 64) members

-- sound tables have
abbrev pub SoundTablesHaveSerials : Type 0
SoundTablesHaveSerials = (p : PolicyOf) (s : State) → AreSoundTables p s → HaveSerials s.members

-- and tables that stay still have
abbrev pub SerialsStay : Type 0
SerialsStay = (s t : State) → TablesStay s t → HaveSerials s.members → HaveSerials t.members

-- what is sound of a state in which an event acts: all but counts, and what stands and is owed
pub record IsSoundStart (p : PolicyOf) (s : State) : Type 0 where
  pub tables : AreSoundTables p s
  pub all_switches : length s.switches ≡ length p.switches
  pub all_standing : length s.standing ≡ length p.switches
  pub down :
      (n : ℕ) (x : SwitchOf) → slice_get s.switches n ≡ Some x → x.outbox.up ≡ false → x.known ≡ nothing_known 0
  pub waiting : AllByRecursion (IsSoundWaiting s) s.waiting
  pub written : (0 < s.next_cookie) × (s.next_cookie < 2 ^ 64)

-- a sound state in which what the event tells of counts was heard is so, and the event is answered at once where it was
pub record IsHeardSoundly (p : PolicyOf) (s : State) (e : Event) : Type 0 where
  pub start : IsSoundStart p (heard s e)
  pub glance : glance_of p (heard s e) e ≡ glance_of p s e

abbrev pub HeardIsSound : Type 0
HeardIsSound = (p : PolicyOf) (s : State) → IsSoundState p s → (e : Event) → IsHeardSoundly p s e

-- as long as serial numbers are left, what settles after an event that isn't answered at once has sound tables,
-- whichever sessions are closed as slow
abbrev pub SettledIsSound : Type 0
SettledIsSound =
    (p : PolicyOf) (s : State) → IsSoundStart p s → (e : Event) → IsEvent e → glance_of p s e ≡ None → (c : Closing)
    → HaveSerials (settled_of p s e c).state.members
    → AreSoundTables p (settled_of p s e c).state

-- so it has after an event of a sound state
abbrev pub DraftsAreSound : Type 0
DraftsAreSound =
    (p : PolicyOf) (s : State) → IsSoundState p s → (e : Event) → IsEvent e → glance_of p s e ≡ None → (c : Closing)
    → HaveSerials (settled_of p (heard s e) e c).state.members
    → AreSoundTables p (settled_of p (heard s e) e c).state

-- and its setting is as the composed part asks
abbrev pub DraftsAreReady : Type 0
DraftsAreReady =
    (p : PolicyOf) → IsSound p
    → (s : State) → IsSoundState p s → (e : Event) → IsEvent e → glance_of p s e ≡ None → (c : Closing)
    → HaveSerials (settled_of p (heard s e) e c).state.members
    → IsReady p (settled_of p (heard s e) e c).state
