-- What is kept of a setting can take the change of a member's rules.
use Rattle.std.specs.Prelude.{◌≡◌, ℕ, Some, List, Contains, slice_get}
use Rattle.std.specs.List.{AllByRecursion}
use Rattle.composed_tables.specs.Composing.{ComposedOf, IsOf}
use Rattle.composed_tables.specs.Rules.{CanTake, RulesOf}
use Rattle.incr_compile.specs.declared.compiled.LeafDelta.{LeafDelta}
use Rattle.member_state.specs.Leaves.{leaf_of}
use Rattle.policies.specs.Policies.{PolicyOf}
use Rattle.policies.specs.Sound.{IsSound}
use Rattle.policy_meaning.specs.LeafRules.{leaf_rules}
use Rattle.policy_meaning.specs.Networks.{ports_of}
use Rattle.policy_meaning.specs.Switches.{SwitchOf as VirtualOf}
use Rattle.policy_meaning.specs.declared.leaf.LeafTable.{LeafTable}
use Rattle.machine_meaning.specs.Settings.{setting_with}
use Rattle.machine_meaning.specs.Sound.{AreSoundTables}
use Rattle.machine_meaning.specs.States.{State, SwitchOf}
use Rattle.setting_laws.specs.Members.{ChangesAt, RulesChange}

-- the change is of the table's member, and what comes are rules of the table at a virtual switch of these ports
pub record ComesFrom (ports : List ℕ) (t : LeafTable) (delta : LeafDelta) : Type 0 where
  pub member : delta.member ≡ t.member
  pub come : AllByRecursion (Contains (leaf_rules ports t)) delta.come

-- where what comes are rules that the member has then, what is kept of the setting before can take the change
abbrev pub DeltasCanBeTaken : Type 0
DeltasCanBeTaken =
    (p : PolicyOf) → IsSound p → (s t : State) → AreSoundTables p s → AreSoundTables p t
    → (i : ℕ) (c : ChangesAt p i s t) (switches : List SwitchOf) (composed : ComposedOf)
    → IsOf (setting_with p s.exprs s.members switches) composed
    → (delta : LeafDelta)
    → ((x : VirtualOf)
    → slice_get (setting_with p s.exprs s.members switches).network.switches c.item.grant.ports.v ≡ Some x
    → ComesFrom (ports_of x) (leaf_of i c.item.grant c.after.kept) delta)
    → (r : RulesOf) → composed.rules ≡ Some r → CanTake r c.item.grant.ports.v delta

-- so it can take one by which the member's rules change as they do
abbrev pub ChangesCanBeTaken : Type 0
ChangesCanBeTaken =
    (p : PolicyOf) → IsSound p → (s t : State) → AreSoundTables p s → AreSoundTables p t
    → (i : ℕ) (c : ChangesAt p i s t) (switches : List SwitchOf) (composed : ComposedOf)
    → IsOf (setting_with p s.exprs s.members switches) composed
    → (delta : LeafDelta) → RulesChange p i s t c switches delta
    → (r : RulesOf) → composed.rules ≡ Some r → CanTake r c.item.grant.ports.v delta
