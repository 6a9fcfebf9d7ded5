-- The entries that a switch may use for a packet.
use Rattle.std.specs.Prelude.{◌≡◌, ℕ, ◌≤◌, ◌⊎◌, true, false, Option, Some, None, List}
use Rattle.std.specs.List.{AllByRecursion, Contains}
use Rattle.of10_match.specs.Fields.{HeaderOf}
use Rattle.of10_match.specs.Matching.{holds, is_one_header}
use Rattle.of10_match.specs.Numbers.{rank_by}
use Rattle.switch_meaning.specs.declared.entry.FlowEntry.{FlowEntry}

-- by the standard, entries without wildcards come before all others
abbrev pub rank_of : FlowEntry → ℕ
rank_of e = rank_by (is_one_header e.m) e.priority

-- some switches go by priority alone
abbrev pub priority_of : FlowEntry → ℕ
priority_of e = e.priority

-- no entry that holds the header is above this one
abbrev pub IsTop : (FlowEntry → ℕ) → List FlowEntry → HeaderOf → FlowEntry → Type 0
IsTop by table h e = AllByRecursion (λ (d : FlowEntry). holds d.m h ≡ true → by d ≤ by e) table

-- the entry stands in the table, holds the header, and is the highest by one reading of rank or the other
pub record IsUsable (table : List FlowEntry) (h : HeaderOf) (e : FlowEntry) : Type 0 where
  pub stands : Contains table e
  pub holds_it : holds e.m h ≡ true
  pub highest : IsTop rank_of table h e ⊎ IsTop priority_of table h e

-- what a switch may use for the packets of a header; none where no entry holds it
abbrev pub MayUse : List FlowEntry → HeaderOf → Option FlowEntry → Type 0
MayUse table h None = AllByRecursion (λ (d : FlowEntry). holds d.m h ≡ false) table
MayUse table h (Some e) = IsUsable table h e
