-- What a switch may use is the entry of the best rule.
use Rattle.std.specs.Prelude.{◌≡◌, ℕ, ◌<◌, ◌≤◌, ◌^◌, Bool, true, Option, Some, List, ◌∷◌, map}
use Rattle.std.specs.List.{AllByRecursion}
use Rattle.of10_match.specs.Fields.{HeaderOf}
use Rattle.of10_match.specs.Matching.{holds, is_one_header}
use Rattle.switch_meaning.specs.Keys.{flow_of, installed, one_per_key}
use Rattle.switch_meaning.specs.MayUse.{MayUse}
use Rattle.switch_meaning.specs.declared.entry.FlowEntry.{FlowEntry}
use Rattle.switch_meaning.specs.declared.entry.PhysEntry.{PhysEntry}

-- the item stands once in the list, passes the test, and is above every other one that does
pub data IsBest {A : Type 0} (passes : A → Bool) (by : A → ℕ) : List A → A → Type 0 where
  first : {x : A} {xs : List A} → passes x ≡ true → AllByRecursion (λ (y : A). passes y ≡ true → by y < by x) xs
      → IsBest passes by (x ∷ xs) x
  later : {x y : A} {xs : List A} → (passes y ≡ true → by y < by x) → IsBest passes by xs x
      → IsBest passes by (y ∷ xs) x

-- of the entries that hold the header this one has the greatest priority, and no other has it
abbrev pub IsBestEntry : HeaderOf → List PhysEntry → PhysEntry → Type 0
IsBestEntry h entries e = IsBest (λ (d : PhysEntry). holds d.m h) (λ (d : PhysEntry). d.priority) entries e

-- no entry that holds the header has a greater priority
abbrev pub IsNotPassed : HeaderOf → List PhysEntry → PhysEntry → Type 0
IsNotPassed h entries e = AllByRecursion (λ (d : PhysEntry). holds d.m h ≡ true → d.priority ≤ e.priority) entries

-- priorities fit their field, and no entry that names all twelve fields is below another one that holds its header;
-- this is so where no entry names all twelve
pub record IsGated (h : HeaderOf) (entries : List PhysEntry) (e : PhysEntry) : Type 0 where
  pub priority : e.priority < 2 ^ 16
  pub exact : is_one_header e.m ≡ true → holds e.m h ≡ true → IsNotPassed h entries e

-- of a table that has one entry for each key, with the smallest ancestry, both readings of rank give the best entry
abbrev pub BestIsUsed : Type 0
BestIsUsed =
    (entries : List PhysEntry) (h : HeaderOf) (best : PhysEntry) → IsBestEntry h entries best
    → AllByRecursion (IsGated h entries) entries
    → (used : Option FlowEntry) → MayUse (map flow_of (one_per_key entries)) h used → used ≡ Some (flow_of best)

-- and so they do of the table of all entries that are put on a switch, whichever fields these name
abbrev pub BestIsInstalled : Type 0
BestIsInstalled =
    (entries : List PhysEntry) (h : HeaderOf) (best : PhysEntry) → IsBestEntry h entries best
    → AllByRecursion (λ (e : PhysEntry). e.priority < 2 ^ 16) entries
    → (used : Option FlowEntry) → MayUse (map flow_of (installed entries)) h used → used ≡ Some (flow_of best)
