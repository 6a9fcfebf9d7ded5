-- What a table's ranking keeps of its entries.
use Rattle.std.specs.Prelude.{◌≡◌, ℕ, ◌+◌, ◌==◌, ◌||◌, not, Bool, List, Option, Some, None, count_by, filter}
use Rattle.std.specs.Prelude.{if◌then◌else◌, unwrap_or}
use Rattle.match_index.specs.Items.{has_id}
use Rattle.match_index.specs.declared.item.Item.{Item}
use Rattle.member_table.specs.Changes.{is_among, is_number}
use Rattle.member_table.specs.declared.entry.Entry.{Entry}

-- the matches, and how many more fit without memory
pub record RanksOf : Type 0 where
  pub items : List Item
  pub room : ℕ

-- what the ranking keeps of an entry: its rank and its match, under its serial number
abbrev pub ranked_of : Entry → Item
ranked_of e = record { id = e.serial; rank = e.rank; normal = e.normal }

-- how often a rank is there, by the counts of the ranks that are there
abbrev pub count_at : (ℕ → Option ℕ) → ℕ → ℕ
count_at counts rank = unwrap_or (counts rank) 0

-- each rank is counted as often as there are matches of it
abbrev pub AreCounted : (ℕ → Option ℕ) → List Item → Type 0
AreCounted counts items = (rank : ℕ) → count_at counts rank ≡ count_by (λ (r : Item). rank == r.rank) items

-- the second list has what the first has and one more, in any order
abbrev pub AddsTo : {X : Type 0} → X → List X → List X → Type 0
AddsTo {X} x xs ys = (p : X → Bool) → count_by p ys ≡ count_by p xs + (if p x then 1 else 0)

-- the second list has the matches of the first, one more, and without that of the entry that it replaces
abbrev pub Exchanges : Option Entry → Item → List Item → List Item → Type 0
Exchanges None new xs ys = AddsTo new xs ys
Exchanges (Some old) new xs ys = AddsTo new (filter (λ r. not (has_id old.serial r)) xs) ys

-- the match is of an entry that doesn't go, or whose place is taken
abbrev pub remains : List ℕ → Option ℕ → Item → Bool
remains removed place r = not (is_among removed r.id) || is_number place r.id
