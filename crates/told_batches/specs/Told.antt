-- What is told of a switch: the entries that go and that come.
use Rattle.std.specs.Prelude.{◌≡◌, ℕ, Bool, not, List, IsPermutation, filter, map}
use Rattle.std.specs.List.{list_any}
use Rattle.agreement.specs.FreeOrder.{HaveMatches}
use Rattle.install_plan.specs.Tables.{IsBatch, TableOf, entries_in, entry_of, numbered}
use Rattle.install_plan.specs.declared.written.Batch.{Batch}
use Rattle.install_plan.specs.declared.written.Written.{Written}
use Rattle.policy_meaning.specs.LeafFact.{EachPair}
use Rattle.switch_meaning.specs.BatchLaw.{HasOneAKey}
use Rattle.switch_meaning.specs.Batches.{difference}
use Rattle.switch_meaning.specs.Keys.{same_key}
use Rattle.switch_meaning.specs.declared.entry.PhysEntry.{PhysEntry}
use Rattle.shared_rows.specs.Rows.{IsLower}
use Rattle.machine_meaning.specs.Batches.{by_key, coming, going, staying}

-- what is told, without cookies, is the difference of what stands, by rising key, and of what is wanted
pub record IsToldOf (stood : List Written) (wanted : List PhysEntry) (told : Batch) : Type 0 where
  pub difference_is : entries_in told ≡ difference (map entry_of stood) wanted
  pub rises : EachPair IsLower stood

-- a row has the key of one of these entries
abbrev pub has_key_in : List PhysEntry → Written → Bool
has_key_in es w = list_any (same_key w.entry) es

-- the entries are those of the rows that have their keys, in the order of the rows
abbrev pub AreListed : List PhysEntry → List Written → Type 0
AreListed es ws = es ≡ map entry_of (filter (has_key_in es) ws)

-- what goes is told in the order in which it stands, and is found by its keys; the rows with other keys stay; what
-- comes is what is added, under new cookies
pub record IsBetween (next : ℕ) (stood : List Written) (wanted : List PhysEntry) (told : Batch) : Type 0 where
  pub listed : AreListed (map entry_of told.deletes) stood
  pub goes : by_key (filter (has_key_in (map entry_of told.deletes)) stood) ≡ going stood wanted
  pub stays : filter (λ w. not (has_key_in (map entry_of told.deletes) w)) stood ≡ staying stood wanted
  pub comes : numbered next (map entry_of told.adds) ≡ coming next stood wanted

abbrev pub ToldChangesAreBetween : Type 0
ToldChangesAreBetween =
    (next : ℕ) (stood : List Written) (wanted : List PhysEntry) (told : Batch) → IsToldOf stood wanted told
    → IsBetween next stood wanted told

-- the batch of tables whose entries are listed in other orders
abbrev pub BatchesAreTold : Type 0
BatchesAreTold =
    (old new : TableOf) (k : ℕ) (told : Batch) → IsBatch old new k told
    → HasOneAKey (map entry_of old.standing) → HasOneAKey (map entry_of new.standing)
    → HaveMatches (map entry_of old.standing) → HaveMatches (map entry_of new.standing)
    → (stood : List Written) (wanted : List PhysEntry) → IsPermutation (map entry_of old.standing) (map entry_of stood)
    → IsPermutation (map entry_of new.standing) wanted
    → entries_in told ≡ difference (map entry_of stood) wanted
