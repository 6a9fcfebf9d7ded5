-- Entries that stand in a list, and those that pass.
use Rattle.std.specs.Prelude.{Bool, ◌==◌, ◌&&◌, ◌≡◌, not, List, [], ◌∷◌, ◌++◌, filter, if◌then◌else◌}
use Rattle.std.specs.List.{list_any}
use Rattle.of10_match.specs.Same.{same_match}
use Rattle.switch_meaning.specs.Keys.{passing}
use Rattle.switch_meaning.specs.Same.{same_entry}
use Rattle.switch_meaning.specs.declared.entry.PhysEntry.{PhysEntry}
use Rattle.exact_gate.specs.declared.key.Key.{Key}

-- the entry stands in the list
abbrev pub stands_in : List PhysEntry → PhysEntry → Bool
stands_in entries e = list_any (same_entry e) entries

-- the entries of the first list that don't stand in the second
abbrev pub without : List PhysEntry → List PhysEntry → List PhysEntry
without entries others = filter (λ (e : PhysEntry). not (stands_in others e)) entries

-- the list with one entry more, unless it is there
abbrev pub inserted : List PhysEntry → PhysEntry → List PhysEntry
inserted entries e = if stands_in entries e then entries else entries ++ e ∷ []

-- the list without an entry
abbrev pub removed : List PhysEntry → PhysEntry → List PhysEntry
removed entries e = filter (λ (d : PhysEntry). not (same_entry e d)) entries

-- two lists have the same entries, in whatever order
abbrev pub HaveSame : List PhysEntry → List PhysEntry → Type 0
HaveSame xs ys = (e : PhysEntry) → stands_in xs e ≡ stands_in ys e

-- the match and priority of an entry
abbrev pub key_of : PhysEntry → Key
key_of e = record { m = e.m; priority = e.priority }

-- two keys are one
abbrev pub one_key : Key → Key → Bool
one_key k l = same_match k.m l.m && (k.priority == l.priority)

-- the entries of a key that pass
abbrev pub standing : List PhysEntry → Key → List PhysEntry
standing entries k = filter (λ (e : PhysEntry). one_key k (key_of e)) (passing entries)
