-- Which keys are passed over, by which.
use Rattle.std.specs.Prelude.{◌≡◌, ℕ, Bool, true, ◌&&◌, nat_lt, Option, Some, None, List, find, if◌then◌else◌}
use Rattle.std.specs.Prelude.{option_to_list}
use Rattle.std.specs.List.{list_any}
use Rattle.std.specs.Option.{option_and_then}
use Rattle.of10_match.specs.Fields.{MatchOf}
use Rattle.of10_match.specs.Matching.{covers, is_one_header}
use Rattle.match_index.specs.Items.{has_id, same_item}
use Rattle.match_index.specs.declared.item.Item.{Item}
use Rattle.exact_gate.specs.Standing.{one_key}
use Rattle.exact_gate.specs.declared.key.Key.{Key}

-- entries of the first match and priority pass over those of the second
abbrev pub tops : MatchOf → ℕ → MatchOf → ℕ → Bool
tops m p n q = is_one_header n && (nat_lt q p && covers m n)

-- the item's entries pass over those of the key
abbrev pub is_over : Key → Item → Bool
is_over k i = tops i.normal i.rank k.m k.priority

-- the item's entries are passed over by those of the key
abbrev pub is_under : Key → Item → Bool
is_under k i = tops k.m k.priority i.normal i.rank

-- the key of an item
abbrev pub key_of_item : Item → Key
key_of_item i = record { m = i.normal; priority = i.rank }

-- the key of an item of a lower rank
abbrev pub lower_key : ℕ → Item → Option Key
lower_key priority i = if nat_lt i.rank priority then Some (key_of_item i) else None

-- the key of the item of an id, if it has a lower rank
abbrev pub key_found : List Item → ℕ → ℕ → Option Key
key_found items priority id = option_and_then (lower_key priority) (find (has_id id) items)

-- that key, if there is one
abbrev pub keys_found : List Item → ℕ → ℕ → List Key
keys_found items priority id = option_to_list (key_found items priority id)

-- the keys have that of each item whose entries are passed over by those of the key
abbrev pub Reaches : Key → List Item → List Key → Type 0
Reaches k items keys = (i : Item) → list_any (same_item i) items ≡ true → is_under k i ≡ true
    → list_any (one_key (key_of_item i)) keys ≡ true
