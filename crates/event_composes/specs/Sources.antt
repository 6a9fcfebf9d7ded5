-- Where what is wanted of switches comes from, and the change to it.
use Rattle.std.specs.Prelude.{◌≡◌, ℕ, ◌≤◌, Bool, true, false, Option, Some, None, List, length, slice_get}
use Rattle.agreement.specs.Entries.{entries_of}
use Rattle.agreement.specs.Fitting.{IsFittingSetting}
use Rattle.agreement.specs.declared.state.Setting.{Setting}
use Rattle.composed_tables.specs.Composing.{ComposedOf, IsGood, IsOf}
use Rattle.install_plan.specs.declared.written.Written.{Written}
use Rattle.switch_meaning.specs.Keys.{installed}
use Rattle.switch_meaning.specs.declared.entry.PhysEntry.{PhysEntry}
use Rattle.switch_tables.specs.declared.tables.SwitchBatch.{SwitchBatch}
use Rattle.told_batches.specs.Told.{IsToldOf}
use Rattle.told_batches.specs.declared.change.Change.{Change}
use Rattle.machine_meaning.specs.Batches.{batch_between, coming, next_after, standing_after}
use Rattle.event_composes.specs.Settled.{IsSettled}
use Rattle.machine_drafts.specs.SwitchDrafts.{IsUnmoved, SwitchDraftOf}
use Rattle.event_composes.specs.declared.sources.Source.{Source}
use Rattle.event_composes.specs.declared.sources.Source.TheVariants.{Anew, Kept}
use Rattle.event_composes.specs.declared.turning.Turned.{Turned}
use Rattle.event_composes.specs.declared.turning.Turned.TheVariants.{Nothing, Once, Often}

-- what was told of a switch is the change to what is wanted there, unless there were several changes
abbrev pub IsToldFor : Turned → ℕ → List Written → List PhysEntry → Type 0
IsToldFor Nothing n stood wanted = IsSettled stood wanted
IsToldFor (Once batches) n stood wanted =
    (b : SwitchBatch) → slice_get batches n ≡ Some b → IsToldOf stood wanted b.batch
IsToldFor Often n stood wanted = Unit {0}

-- what is kept is that of a setting, and so was told of a switch that is up, and has the entries that it had
pub record IsWantedBy (t : Setting) (n : ℕ) (c : ComposedOf) (turned : Turned) (x : SwitchDraftOf) : Type 0 where
  pub good : IsGood t
  pub of : IsOf t c
  pub told :
      x.now.outbox.up ≡ true → IsUnmoved x → IsToldFor turned n x.standing (installed (entries_of t n))

-- what a setting wants of a switch comes from here
abbrev pub Gives : Setting → ℕ → Source → SwitchDraftOf → Type 0
Gives t n (Anew s) x = s.now ≡ t
Gives t n (Kept c turned) x = IsWantedBy t n c.now turned.now x

-- so does what it wants of each switch
abbrev pub GivesAll : Setting → Source → List SwitchDraftOf → Type 0
GivesAll t source xs = (n : ℕ) (x : SwitchDraftOf) → slice_get xs n ≡ Some x → Gives t n source x

-- so many switches can be asked for
abbrev pub CanGive : Source → ℕ → Type 0
CanGive (Anew s) count = IsFittingSetting s.now
CanGive (Kept c turned) count = count ≤ length c.now.tables

-- the change from what stands to what is wanted
pub record IsChangeTo (c : Change) (next : ℕ) (stood : List Written) (wanted : List PhysEntry) : Type 0 where
  pub batch : c.batch ≡ batch_between next stood wanted
  pub standing : c.standing ≡ standing_after next stood wanted
  pub next_is : c.next ≡ next_after next (coming next stood wanted)

-- if there is none, what is wanted stands
abbrev pub IsChangeIf : Option Change → ℕ → List Written → List PhysEntry → Type 0
IsChangeIf None next stood wanted = IsSettled stood wanted
IsChangeIf (Some c) next stood wanted = IsChangeTo c next stood wanted

-- and there is one where a round of the switch begins
abbrev pub IsChangeFor : Bool → Option Change → ℕ → List Written → List PhysEntry → Type 0
IsChangeFor begins None next stood wanted = (begins ≡ false) × IsSettled stood wanted
IsChangeFor begins (Some c) next stood wanted = IsChangeTo c next stood wanted
