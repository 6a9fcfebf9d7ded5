-- How the candidates stand in a pool: in buckets by their match and priority, and in indexes.
use Rattle.std.specs.Prelude.{◌≡◌, ℕ, ◌<◌, Bool, false, ◌==◌, List, filter, flat_map, map, length, count_by}
use Rattle.std.specs.List.{All, IsDistinct}
use Rattle.std.specs.Map.{keys_of}
use Rattle.of10_match.specs.Matching.{is_one_header}
use Rattle.match_index.specs.declared.item.Item.{Item}
use Rattle.switch_meaning.specs.Same.{same_entry}
use Rattle.switch_meaning.specs.declared.entry.PhysEntry.{PhysEntry}
use Rattle.exact_gate.specs.Standing.{key_of, one_key}
use Rattle.exact_gate.specs.declared.key.Key.{Key}

-- the candidates of one match and priority, and the number under which the indexes know them
pub record BucketOf : Type 0 where
  pub id : ℕ
  pub entries : List PhysEntry

-- the candidates of all buckets
abbrev pub in_buckets : List (Key × BucketOf) → List PhysEntry
in_buckets buckets = flat_map (λ (b : Key × BucketOf). b.1.entries) buckets

-- what the indexes know of a bucket
abbrev pub item_of : Key × BucketOf → Item
item_of b = record { id = b.1.id; rank = b.0.priority; normal = b.0.m }

-- a bucket has candidates, those of its key alone, each once
pub record IsBucket (b : Key × BucketOf) : Type 0 where
  pub some : (length b.1.entries == 0) ≡ false
  pub of_key : All (λ (e : PhysEntry). key_of e ≡ b.0) b.1.entries
  pub once : IsDistinct same_entry b.1.entries

-- the buckets of a pool: one for each key
pub record AreBuckets (buckets : List (Key × BucketOf)) : Type 0 where
  pub each : All IsBucket buckets
  pub once : IsDistinct one_key (keys_of buckets)

-- the indexes know each bucket, under a number below the next one
pub record AreKnown (buckets : List (Key × BucketOf)) (items : List Item) (next : ℕ) : Type 0 where
  pub same : (test : Item → Bool) → count_by test items ≡ count_by test (map item_of buckets)
  pub below : All (λ (i : Item). i.id < next) items

-- the item's match names all twelve fields
abbrev pub is_exact : Item → Bool
is_exact i = is_one_header i.normal

-- the one index has those items of the other whose matches name all twelve fields
abbrev pub AreExact : List Item → List Item → Type 0
AreExact all exact = (test : Item → Bool) → count_by test exact ≡ count_by test (filter is_exact all)
