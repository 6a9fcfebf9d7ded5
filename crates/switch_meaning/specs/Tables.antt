-- A switch's table after changes (section 3.4 and 4.6 of the OpenFlow Switch Specification 1.0.0).
use Rattle.std.specs.Prelude.{ℕ, Bool, ◌==◌, ◌&&◌, not, List, [], ◌∷◌, ◌++◌, filter, All}
use Rattle.of10_match.specs.Fields.{MatchOf}
use Rattle.of10_match.specs.Matching.{covers}
use Rattle.of10_actions.specs.Actions.{AreInRange}
use Rattle.of10_match.specs.Same.{same_match}
use Rattle.switch_meaning.specs.declared.entry.FlowEntry.{FlowEntry}
use Rattle.switch_meaning.specs.declared.entry.Change.{Change}
use Rattle.switch_meaning.specs.declared.entry.Change.TheVariants.{Add, DeleteStrict, Delete}

-- the entry has this match and priority
abbrev pub has_key : MatchOf → ℕ → FlowEntry → Bool
has_key m priority e = same_match m e.m && (priority == e.priority)

-- the change takes this entry out of the table
abbrev pub takes_out : Change → FlowEntry → Bool
takes_out (Add e) d = has_key e.m e.priority d
takes_out (DeleteStrict m priority) d = has_key m priority d
takes_out (Delete m) d = covers m d.m

-- the entries that the change puts into the table
abbrev pub put_in : Change → List FlowEntry
put_in (Add e) = e ∷ []
put_in (DeleteStrict m priority) = []
put_in (Delete m) = []

-- the table after a change
abbrev pub table_after : List FlowEntry → Change → List FlowEntry
table_after table change = filter (λ e. not (takes_out change e)) table ++ put_in change

-- the table after several changes, one after the other
abbrev pub table_after_all : List FlowEntry → List Change → List FlowEntry
table_after_all table [] = table
table_after_all table (change ∷ changes) = table_after_all (table_after table change) changes

-- the numbers of each action are in their ranges
abbrev pub IsTableInRange : List FlowEntry → Type 0
IsTableInRange table = All (λ (e : FlowEntry). AreInRange e.actions) table

-- and so in each table
abbrev pub AreTablesInRange : List (List FlowEntry) → Type 0
AreTablesInRange tables = All IsTableInRange tables
