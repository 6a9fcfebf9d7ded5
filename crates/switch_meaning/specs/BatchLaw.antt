-- A batch makes one table of another.
use Rattle.std.specs.Prelude.{◌&&◌, Option, List, [], map, IsPermutation, IsSorted}
use Rattle.std.specs.List.{IsDistinct}
use Rattle.std.specs.Cmp.Lexicographic.{pointwise}
use Rattle.of10_match.specs.Fields.{HeaderOf}
use Rattle.of10_match.specs.Matching.{everything}
use Rattle.switch_meaning.specs.Batches.{adding, by_key, deleting, difference, key_cmp}
use Rattle.switch_meaning.specs.Keys.{flow_of, installed, same_key}
use Rattle.switch_meaning.specs.MayUse.{MayUse}
use Rattle.cv_io.specs.Leaves.{same_leaf}
use Rattle.switch_meaning.specs.Tables.{table_after, table_after_all}
use Rattle.switch_meaning.specs.declared.entry.Change.{Change}
use Rattle.switch_meaning.specs.declared.entry.Change.TheVariants.{Delete}
use Rattle.switch_meaning.specs.declared.entry.FlowEntry.{FlowEntry}
use Rattle.switch_meaning.specs.declared.entry.PhysEntry.{PhysEntry}

-- no two entries have the same match and priority
abbrev pub HasOneAKey : List PhysEntry → Type 0
HasOneAKey entries = IsDistinct same_key entries

-- the table of a switch is these entries, in any order
abbrev pub IsTableOf : List PhysEntry → List FlowEntry → Type 0
IsTableOf entries table = IsPermutation (map flow_of entries) table

-- in whichever order a switch takes the messages of each phase, its table is afterwards that of the new entries
abbrev pub BatchGivesTable : Type 0
BatchGivesTable =
    (before after : List PhysEntry) → HasOneAKey before → HasOneAKey after → (table : List FlowEntry)
    → IsTableOf before table
    → (deletes : List Change) → IsPermutation (deleting (difference before after)) deletes
    → (adds : List Change) → IsPermutation (adding (difference before after)) adds
    → IsTableOf after (table_after_all (table_after_all table deletes) adds)

-- so it is when everything is deleted first and all entries are added, whatever the switch had
abbrev pub FreshGivesTable : Type 0
FreshGivesTable =
    (after : List PhysEntry) → HasOneAKey after → (table : List FlowEntry)
    → (adds : List Change) → IsPermutation (adding (difference [] after)) adds
    → IsTableOf after (table_after_all (table_after table (Delete everything)) adds)

-- what a switch may use does not depend on the order of its table
abbrev pub OrderIsFree : Type 0
OrderIsFree = (table other : List FlowEntry) → IsPermutation table other → (h : HeaderOf) (used : Option FlowEntry)
    → MayUse table h used → MayUse other h used

-- sorting keeps the entries, and puts them by rising key
abbrev pub SortedByKey : Type 0
SortedByKey = (entries : List PhysEntry) → IsPermutation entries (by_key entries) × IsSorted key_cmp (by_key entries)

-- no two entries have the same match, priority and ancestry
abbrev pub HasNoTwins : List PhysEntry → Type 0
HasNoTwins entries =
    IsDistinct (λ (d : PhysEntry) (e : PhysEntry). same_key d e && pointwise same_leaf d.ancestry e.ancestry) entries

-- of such entries a switch has one for each key
abbrev pub InstalledHasOneAKey : Type 0
InstalledHasOneAKey = (entries : List PhysEntry) → HasNoTwins entries → HasOneAKey (installed entries)
