-- How a policy's setting changes with what one member keeps.
use Rattle.std.specs.Prelude.{◌≡◌, ◌≢◌, ℕ, Some, List, IsPermutation, slice_get}
use Rattle.composed_tables.specs.Composing.{Changes}
use Rattle.incr_compile.specs.Compiling.{rules_after}
use Rattle.incr_compile.specs.declared.compiled.LeafDelta.{LeafDelta}
use Rattle.member_state.specs.Leaves.{leaf_of}
use Rattle.policies.specs.Policies.{PolicyOf}
use Rattle.policies.specs.Sound.{IsSound}
use Rattle.policies.specs.declared.policy.MemberItem.{MemberItem}
use Rattle.policy_meaning.specs.LeafRules.{leaf_rules}
use Rattle.policy_meaning.specs.Networks.{ports_of}
use Rattle.policy_meaning.specs.Switches.{SwitchOf as VirtualOf}
use Rattle.machine_meaning.specs.Settings.{setting_with}
use Rattle.machine_meaning.specs.Sound.{AreSoundTables}
use Rattle.machine_meaning.specs.States.{MemberOf, State, SwitchOf}

-- from one state to another nothing of what the setting reads changes but what the member of a number keeps
pub record ChangesAt (p : PolicyOf) (i : ℕ) (s t : State) : Type 0 where
  pub item : MemberItem
  pub before : MemberOf
  pub after : MemberOf
  pub there : slice_get p.members i ≡ Some item
  pub was : slice_get s.members i ≡ Some before
  pub is : slice_get t.members i ≡ Some after
  pub exprs : t.exprs ≡ s.exprs
  pub rest : (j : ℕ) → j ≢ i → slice_get t.members j ≡ slice_get s.members j

-- the rules of that member change so at its virtual switch
pub record RulesChange (p : PolicyOf) (i : ℕ) (s t : State) (c : ChangesAt p i s t) (switches : List SwitchOf)
    (delta : LeafDelta) : Type 0 where
  pub member : delta.member ≡ i
  pub rules :
      (x : VirtualOf)
      → slice_get (setting_with p s.exprs s.members switches).network.switches c.item.grant.ports.v ≡ Some x
      → IsPermutation (rules_after delta (leaf_rules (ports_of x) (leaf_of i c.item.grant c.before.kept)))
      (leaf_rules (ports_of x) (leaf_of i c.item.grant c.after.kept))

-- then the setting changes with that member alone
abbrev pub MembersChange : Type 0
MembersChange =
    (p : PolicyOf) → IsSound p → (s t : State) → AreSoundTables p s → AreSoundTables p t
    → (i : ℕ) (c : ChangesAt p i s t) (switches : List SwitchOf) (delta : LeafDelta)
    → RulesChange p i s t c switches delta
    → Changes c.item.grant.ports.v delta (setting_with p s.exprs s.members switches)
    (setting_with p s.exprs t.members switches)
