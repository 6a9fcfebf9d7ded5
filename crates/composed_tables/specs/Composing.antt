-- The composed part of a setting, and how it changes with the rules of a member.
use Rattle.std.specs.Prelude.{◌≡◌, ◌≢◌, ℕ, Option, Some, None, List, [], length, map, slice_get, IsPermutation}
use Rattle.std.specs.List.{AllByRecursion, enumerate_from, range_with_len}
use Rattle.agreement.specs.Entries.{entries_of}
use Rattle.agreement.specs.OneEntry.{IsNamedOnce}
use Rattle.agreement.specs.Premises.{IsSoundSetting}
use Rattle.agreement.specs.declared.state.Setting.{Setting}
use Rattle.hop_rules.specs.declared.delta.PortDelta.{PortDelta}
use Rattle.incr_compile.specs.Compiling.{MemberChanges}
use Rattle.incr_compile.specs.declared.compiled.LeafDelta.{LeafDelta}
use Rattle.install_plan.specs.Tables.{IsTable, entry_of}
use Rattle.install_plan.specs.declared.written.Batch.{Batch}
use Rattle.install_plan.specs.declared.written.Written.{Written}
use Rattle.list_change.specs.Changes.{Changed}
use Rattle.policy_meaning.specs.CentralFact.{EachMember}
use Rattle.policy_meaning.specs.Hops.{node}
use Rattle.policy_meaning.specs.Networks.{fabric_of, ports_of, switch_rules, table_rules, table_size}
use Rattle.policy_meaning.specs.Switches.{SwitchOf}
use Rattle.switch_meaning.specs.Keys.{installed}
use Rattle.switch_meaning.specs.declared.entry.PhysEntry.{PhysEntry}
use Rattle.switch_meaning.specs.declared.wiring.Wiring.{Wiring}
use Rattle.composed_tables.specs.Placing.{RulesBy, changed_by, entrances, entry_delta}
use Rattle.composed_tables.specs.Rules.{AreRulesOf, AreTied, RulesOf}
use Rattle.switch_tables.specs.Tables.{SwitchTableOf}
use Rattle.switch_tables.specs.Turning.{AreTurned, HaveHad, HaveNow}
use Rattle.switch_tables.specs.declared.tables.SwitchBatch.{SwitchBatch}
use Rattle.composed_tables.specs.declared.part.Part.TheVariants.{Come, Gone}

-- the rules of a setting that enter a virtual switch, from scratch
abbrev pub rules_in : Setting → RulesBy
rules_in s i (Some p) = node (fabric_of s.network) s.hops i.0 p
rules_in s i None = switch_rules s.network.tables (Some i.1)

-- exactly these rules went and came at each entrance of each virtual switch
abbrev pub AreExact : List SwitchOf → RulesBy → RulesBy → List PortDelta → Type 0
AreExact switches before after deltas =
    AllByRecursion
    (λ (i : ℕ × SwitchOf). AllByRecursion
    (λ (e : Option ℕ). Changed (before i e) (after i e) (changed_by Gone deltas i e) (changed_by Come deltas i e))
    (entrances i.1))
    (enumerate_from 0 switches)

-- what is kept of a setting: where ports lie, the virtual switches and their rules, and what is to stand on each switch
pub record ComposedOf : Type 0 where
  pub wiring : Wiring
  pub switches : List SwitchOf
  pub rules : Option RulesOf
  pub tables : List SwitchTableOf

-- a setting that is sound, and names each thing once
pub record IsGood (s : Setting) : Type 0 where
  pub sound : IsSoundSetting s
  pub once : IsNamedOnce s

-- it is that of a setting; where the rules were given up they are to be made anew
pub record IsOf (s : Setting) (c : ComposedOf) : Type 0 where
  pub wiring : c.wiring ≡ s.wiring
  pub switches : c.switches ≡ s.network.switches
  pub rules : (r : RulesOf) → c.rules ≡ Some r → AreRulesOf s r
  pub tables : HaveNow (entries_of s) c.tables
  pub count : length c.tables ≡ length s.switches

-- it can be taken back to that of a setting
pub record WasOf (s : Setting) (c : ComposedOf) : Type 0 where
  pub wiring : c.wiring ≡ s.wiring
  pub switches : c.switches ≡ s.network.switches
  pub tables : HaveHad (entries_of s) c.tables
  pub count : length c.tables ≡ length s.switches

-- from one setting to the other only the rules of a member of this virtual switch change, and so
pub record Changes (v : ℕ) (delta : LeafDelta) (before after : Setting) : Type 0 where
  pub rest : after ≡ record before { network = record before.network { tables = after.network.tables } }
  pub sizes : (i : ℕ) → table_size (slice_get after.network.tables i) ≡ table_size (slice_get before.network.tables i)
  pub changed : (x : SwitchOf) → slice_get before.network.switches v ≡ Some x
      → MemberChanges delta (λ i. table_rules (ports_of x) (slice_get before.network.tables i))
      (λ i. table_rules (ports_of x) (slice_get after.network.tables i))
  pub others : (u : ℕ) (x : SwitchOf) → u ≢ v → slice_get before.network.switches u ≡ Some x
      → EachMember (λ i. table_rules (ports_of x) (slice_get after.network.tables i)
      ≡ table_rules (ports_of x) (slice_get before.network.tables i)) x.expr

-- what stands on each switch is a table of what is put there
abbrev pub AreTables : List SwitchTableOf → Type 0
AreTables tables = AllByRecursion (λ (x : SwitchTableOf). IsTable x.installed.now) tables

-- what stands on a switch is what is installed of the setting's entries, in some order
abbrev pub IsStandingOf : Setting → ℕ → List Written → Type 0
IsStandingOf s n standing = IsPermutation (installed (entries_of s n)) (map entry_of standing)

-- all that stands on the switch of a number was told anew
pub record IsWholeAt (n : ℕ) (batch : Batch) (before now : List SwitchTableOf) : Type 0 where
  pub long : length now ≡ length before
  pub has : (entries : ℕ → List PhysEntry) → HaveNow entries before → HaveNow entries now
  pub had : (entries : ℕ → List PhysEntry) → HaveHad entries before → HaveHad entries now
  pub deletes : batch.deletes ≡ []
  pub standing : (x : SwitchTableOf) → slice_get now n ≡ Some x → x.installed.now.standing ≡ batch.adds
  pub table : (x : SwitchTableOf) → slice_get now n ≡ Some x → IsTable x.installed.now

-- The composed rules changed with a member of a virtual switch, what is to stand on each switch changed with them, and
-- these are the batches.
pub record AreMoved (v : ℕ) (delta : LeafDelta) (w : Wiring) (switches : List SwitchOf) (next : ℕ) (r r' : RulesOf)
    (old new : List SwitchTableOf) (batches : List SwitchBatch) : Type 0 where
  pub tied : AreTied r'
  pub plan : r'.hops.plan ≡ r.hops.plan
  pub rules : (before after : Setting) → AreRulesOf before r → Changes v delta before after → AreRulesOf after r'
  pub deltas : List PortDelta
  pub exact : (before after : Setting) → AreRulesOf before r → Changes v delta before after
      → AreExact before.network.switches (rules_in before) (rules_in after) deltas
  pub count : length batches ≡ length old
  pub turned : AreTurned (length old) (map (entry_delta w switches deltas) (range_with_len 0 (length old))) next old new
      batches

-- so they did from rules that were there to rules that are
pub record IsMovedFrom (v : ℕ) (delta : LeafDelta) (w : Wiring) (switches : List SwitchOf) (next : ℕ)
    (before after : Option RulesOf)
    (old new : List SwitchTableOf) (batches : List SwitchBatch) : Type 0 where
  pub from : RulesOf
  pub to : RulesOf
  pub was : before ≡ Some from
  pub is : after ≡ Some to
  pub moved : AreMoved v delta w switches next from to old new batches
