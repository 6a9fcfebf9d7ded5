-- What is kept changes with what an event plans for members' tables, one member after the other.
use Rattle.std.specs.Prelude.{◌≡◌, ℕ, List, Some, length, slice_get}
use Rattle.composed_tables.specs.Composing.{ComposedOf}
use Rattle.policy_expr.specs.Policy.{Policy}
use Rattle.policies.specs.Policies.{PolicyOf}
use Rattle.policy_meaning.specs.Networks.{ports_of}
use Rattle.policy_meaning.specs.Switches.{SwitchOf as VirtualOf}
use Rattle.setting_laws.specs.Mixed.{mixed}
use Rattle.switch_tables.specs.Tables.{SwitchTableOf}
use Rattle.switch_tables.specs.Turning.{AreBatches}
use Rattle.switch_tables.specs.declared.tables.SwitchBatch.{SwitchBatch}
use Rattle.machine_meaning.specs.Settings.{setting_with}
use Rattle.machine_meaning.specs.Sound.{AreSoundTables}
use Rattle.machine_meaning.specs.States.{MemberOf, State, SwitchOf}
use Rattle.event_composes.specs.Kept.{IsComposedOf, standing_state}
use Rattle.machine_drafts.specs.Outcomes.{bases, state_in}
use Rattle.machine_drafts.specs.declared.outcome.Outcome.{Outcome}
use Rattle.event_composes.specs.declared.turning.Turned.{Turned}
use Rattle.event_composes.specs.declared.turning.Turned.TheVariants.{Nothing, Once, Often}

-- the state as it stands beside a draft
abbrev pub stood_in : Outcome → State
stood_in o = standing_state (bases o) (state_in o)

-- with so many members as the event leaves them so far
abbrev pub mixed_at : ℕ → Outcome → State
mixed_at n o = mixed n (stood_in o) (state_in o)

-- what was told, with one change more
abbrev pub joined : Turned → List SwitchBatch → Turned
joined Nothing batches = Once batches
joined told batches = Often

-- what was told so far, of what was to stand on switches and what is to stand
abbrev pub AreTold : ℕ → List SwitchTableOf → List SwitchTableOf → Turned → Type 0
AreTold next before now Nothing = now ≡ before
AreTold next before now (Once batches) = AreBatches next before now batches
AreTold next before now Often = Unit {0}

-- tables are sound as they stand and as the event leaves them so far, expressions stay, and this is kept of what stands
pub record CanFollow (p : PolicyOf) (o : Outcome) (c : ComposedOf) : Type 0 where
  pub all : length o.switches ≡ length p.switches
  pub before : AreSoundTables p (stood_in o)
  pub after : AreSoundTables p (state_in o)
  pub exprs : o.exprs.now ≡ o.exprs.base
  pub of : IsComposedOf p (stood_in o) c

-- these are the ports of the virtual switch of a number, whatever its expression is and what its members keep
abbrev pub ArePortsAt : PolicyOf → ℕ → List ℕ → Type 0
ArePortsAt p v ports =
    (exprs : List Policy) (members : List MemberOf) (switches : List SwitchOf) (x : VirtualOf)
    → slice_get (setting_with p exprs members switches).network.switches v ≡ Some x → ports_of x ≡ ports
