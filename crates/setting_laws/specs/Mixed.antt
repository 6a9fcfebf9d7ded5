-- Between two states members change one after the other.
use Rattle.std.specs.Prelude.{◌≡◌, ℕ, ◌+◌, ◌++◌, Some, List, IsPermutation, drop, length, slice_get, take}
use Rattle.composed_tables.specs.Composing.{Changes, ComposedOf, IsGood, IsOf}
use Rattle.composed_tables.specs.Rules.{CanTake, RulesOf}
use Rattle.incr_compile.specs.Compiling.{rules_after}
use Rattle.incr_compile.specs.declared.compiled.LeafDelta.{LeafDelta}
use Rattle.member_state.specs.Leaves.{leaf_of}
use Rattle.policies.specs.Policies.{PolicyOf}
use Rattle.policies.specs.Sound.{IsSound}
use Rattle.policies.specs.declared.policy.MemberItem.{MemberItem}
use Rattle.policy_meaning.specs.LeafRules.{leaf_rules}
use Rattle.policy_meaning.specs.Networks.{ports_of}
use Rattle.policy_meaning.specs.Switches.{SwitchOf as VirtualOf}
use Rattle.machine_meaning.specs.Settings.{setting_of}
use Rattle.machine_meaning.specs.Sound.{AreSoundTables}
use Rattle.machine_meaning.specs.States.{MemberOf, State}
use Rattle.setting_laws.specs.Members.{ChangesAt}
use Rattle.setting_laws.specs.Staying.{LeavesStay, TablesStay}

-- the first so many members as they are after, and the others as they are before
abbrev pub mixed_members : ℕ → List MemberOf → List MemberOf → List MemberOf
mixed_members k before after = take k after ++ drop k before

abbrev pub mixed : ℕ → State → State → State
mixed k s t = record s { members = mixed_members k s.members t.members }

-- tables that are sound before and after are so on the way
abbrev pub MixturesAreSound : Type 0
MixturesAreSound =
    (p : PolicyOf) (s t : State) → AreSoundTables p s → AreSoundTables p t → (k : ℕ) → AreSoundTables p (mixed k s t)

-- each step changes one member, from how it is before to how it is after
pub record IsNextMixture (p : PolicyOf) (s t : State) (i : ℕ) (m : MemberItem) (x y : MemberOf) : Type 0 where
  pub changes : ChangesAt p i (mixed i s t) (mixed (i + 1) s t)
  pub item : changes.item ≡ m
  pub before : changes.before ≡ x
  pub after : changes.after ≡ y

abbrev pub MixturesChange : Type 0
MixturesChange =
    (p : PolicyOf) (s t : State) → length t.members ≡ length s.members
    → (i : ℕ) (m : MemberItem) (x y : MemberOf) → slice_get p.members i ≡ Some m → slice_get s.members i ≡ Some x
    → slice_get t.members i ≡ Some y
    → IsNextMixture p s t i m x y

-- or none, where the member's table stays as composition reads it
abbrev pub MixturesStay : Type 0
MixturesStay =
    (p : PolicyOf) (s t : State) → length t.members ≡ length s.members
    → (i : ℕ) (m : MemberItem) (x y : MemberOf) → slice_get p.members i ≡ Some m → slice_get s.members i ≡ Some x
    → slice_get t.members i ≡ Some y
    → leaf_of i m.grant y.kept ≡ leaf_of i m.grant x.kept
    → LeavesStay p (mixed i s t) (mixed (i + 1) s t)

-- they lead from the one to the other
pub record LeadMixtures (s t : State) : Type 0 where
  pub first : mixed 0 s t ≡ s
  pub last : TablesStay (mixed (length s.members) s t) t

abbrev pub MixturesLead : Type 0
MixturesLead = (s t : State) → t.exprs ≡ s.exprs → length t.members ≡ length s.members → LeadMixtures s t

-- the rules of a member change so at its virtual switch, from what it keeps before to what it keeps after
pub record RulesTurn (p : PolicyOf) (s : State) (i : ℕ) (m : MemberItem) (x y : MemberOf) (delta : LeafDelta) :
    Type 0 where
  pub member : delta.member ≡ i
  pub rules :
      (w : VirtualOf) → slice_get (setting_of p s).network.switches m.grant.ports.v ≡ Some w
      → IsPermutation (rules_after delta (leaf_rules (ports_of w) (leaf_of i m.grant x.kept)))
      (leaf_rules (ports_of w) (leaf_of i m.grant y.kept))

-- what is asked for the composed part to follow such a step
pub record CanTurn (p : PolicyOf) (s t : State) (i v : ℕ) (delta : LeafDelta) : Type 0 where
  pub good : IsGood (setting_of p (mixed i s t))
  pub good_after : IsGood (setting_of p (mixed (i + 1) s t))
  pub changes : Changes v delta (setting_of p (mixed i s t)) (setting_of p (mixed (i + 1) s t))
  pub can :
      (c : ComposedOf) → IsOf (setting_of p (mixed i s t)) c → (r : RulesOf) → c.rules ≡ Some r → CanTake r v delta

-- from each of them to the next it can follow the member's change
abbrev pub MixturesTurn : Type 0
MixturesTurn =
    (p : PolicyOf) → IsSound p → (s t : State) → AreSoundTables p s → AreSoundTables p t
    → (i : ℕ) (m : MemberItem) (x y : MemberOf) → slice_get p.members i ≡ Some m → slice_get s.members i ≡ Some x
    → slice_get t.members i ≡ Some y
    → (delta : LeafDelta) → RulesTurn p s i m x y delta → CanTurn p s t i m.grant.ports.v delta
