-- What the machine keeps of the composed part of what it holds.
use Rattle.std.specs.Prelude.{◌≡◌, ℕ, Bool, true, List, Option, Some, IfSome, is_some, length, map, slice_get}
use Rattle.agreement.specs.Entries.{entries_of}
use Rattle.agreement.specs.declared.state.Setting.{Setting}
use Rattle.composed_tables.specs.Composing.{ComposedOf, IsOf}
use Rattle.composed_tables.specs.Rules.{RulesOf}
use Rattle.events.specs.declared.event.Event.{Event}
use Rattle.install_plan.specs.Tables.{entry_of}
use Rattle.install_plan.specs.declared.written.Written.{Written}
use Rattle.policies.specs.Policies.{PolicyOf, plan}
use Rattle.setting_laws.specs.Drafted.{HaveSerials}
use Rattle.switch_meaning.specs.Batches.{by_key}
use Rattle.switch_meaning.specs.Keys.{installed}
use Rattle.machine_meaning.specs.Phases.{settled_of}
use Rattle.machine_meaning.specs.Rounds.{Closing}
use Rattle.machine_meaning.specs.Settings.{setting_of, ups_with}
use Rattle.machine_meaning.specs.Sound.{AreSoundTables, HasNumbers, IsSoundState}
use Rattle.machine_meaning.specs.States.{State}
use Rattle.machine_drafts.specs.Outcomes.{Bases}
use Rattle.machine_drafts.specs.Views.{member_of, standing_of, switch_of}

-- it is that of the setting of a state, and its rules are there, over the policy's topology
pub record IsComposedOf (p : PolicyOf) (s : State) (c : ComposedOf) : Type 0 where
  pub of : IsOf (setting_of p s) c
  pub compiled : is_some c.rules ≡ true
  pub plan_is : (r : RulesOf) → c.rules ≡ Some r → r.hops.plan ≡ plan p

-- a state is sound as long as numbers are left
abbrev pub IsSoundWhile : PolicyOf → State → Type 0
IsSoundWhile p s = HasNumbers s → IsSoundState p s

-- what is kept of a state is that of its setting, and it is kept only as long as numbers are left
pub record IsKept (p : PolicyOf) (s : State) (c : Option ComposedOf) : Type 0 where
  pub sound : IsSoundWhile p s
  pub numbers : is_some c ≡ true → HasNumbers s
  pub of : IfSome c (IsComposedOf p s)

-- on each switch that is up stand the entries that the setting gives, by rising key
abbrev pub AreGiven : Setting → List Bool → List (List Written) → Type 0
AreGiven t ups standing =
    (n : ℕ) (stood : List Written) → slice_get ups n ≡ Some true → slice_get standing n ≡ Some stood
    → map entry_of stood ≡ by_key (installed (entries_of t n))

-- An event begins in a state of which this is kept. Tables are sound there and, as long as serial numbers are left, in
-- what settles, whichever sessions are closed as slow.
pub record IsBegun (p : PolicyOf) (s : State) (e : Event) (c : ComposedOf) : Type 0 where
  pub all : length s.switches ≡ length p.switches
  pub before : AreSoundTables p s
  pub after :
      (closing : Closing) → HaveSerials (settled_of p s e closing).state.members
      → AreSoundTables p (settled_of p s e closing).state
  pub given : AreGiven (setting_of p s) (ups_with s.switches) s.standing
  pub of : IsComposedOf p s c

-- the state as it stands beside a draft
abbrev pub standing_state : Bases → State → State
standing_state b s = record s {
  exprs = b.exprs;
  members = map member_of b.members;
  switches = map switch_of b.switches;
  standing = map standing_of b.switches;
}

-- this is kept of what stands beside a draft; tables are sound there and, as long as serial numbers are left, in the
-- state as the event leaves it so far
pub record IsKeptBy (p : PolicyOf) (b : Bases) (s : State) (c : ComposedOf) : Type 0 where
  pub all : length b.switches ≡ length p.switches
  pub before : AreSoundTables p (standing_state b s)
  pub after : HaveSerials s.members → AreSoundTables p s
  pub given :
      AreGiven (setting_of p (standing_state b s)) (ups_with (map switch_of b.switches)) (map standing_of b.switches)
  pub of : IsComposedOf p (standing_state b s) c
