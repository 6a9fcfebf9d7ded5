-- How the keys of slots are found by the headers that their matches hold.
use Rattle.std.specs.Prelude.{◌≡◌, ℕ, ◌<◌, ◌^◌, nat_lt, true, Option, Some, None, IsSome, List, find, if◌then◌else◌}
use Rattle.std.specs.Prelude.{option_to_list}
use Rattle.std.specs.BTreeMap.{is_at}
use Rattle.std.specs.Map.{lookup}
use Rattle.std.specs.List.{AllByRecursion, Contains}
use Rattle.std.specs.Option.{option_and_then}
use Rattle.of10_match.specs.Fields.{HeaderOf, MatchOf}
use Rattle.of10_match.specs.Matching.{holds}
use Rattle.of10_match.specs.Ranges.{IsMatch}
use Rattle.of10_match.specs.Wildcards.{match_bytes}
use Rattle.match_index.specs.Items.{has_id}
use Rattle.match_index.specs.declared.item.Item.{Item}
use Rattle.install_plan.specs.InsideSlots.{Slots, order, slot_at}
use Rattle.install_plan.specs.declared.key.Key.{Key}

-- keys under numbers of their own
abbrev pub Numbers : Type 0
Numbers = List (Key × ℕ)

-- the number of a key
abbrev pub number_at : Key → Numbers → Option ℕ
number_at k numbers = lookup (is_at (order k)) numbers

-- each slot's key has a number
abbrev pub AreKnown : Numbers → Slots → Type 0
AreKnown numbers slots = (q : Key) → IsSome (slot_at q slots) → IsSome (number_at q numbers)

-- the key of a match with a priority
abbrev pub key_in : Item → Key
key_in i = record { priority = i.rank; bytes = match_bytes i.normal }

-- the key's match stands under the number
pub record IsIndexed (items : List Item) (k : Key) (n : ℕ) : Type 0 where
  pub item : Item
  pub stands : Contains items item
  pub number : item.id ≡ n
  pub key : key_in item ≡ k
  pub in_range : IsMatch item.normal
  pub small : item.rank < 2 ^ 16

-- the matches of all keys stand under their numbers, of which none was given twice
pub record AreIndexed (numbers : Numbers) (items : List Item) (next : ℕ) : Type 0 where
  pub each : (k : Key) (n : ℕ) → number_at k numbers ≡ Some n → IsIndexed items k n
  pub below : AllByRecursion (λ (i : Item). i.id < next) items

-- the key of a match, where its rank is a priority
abbrev pub key_if_small : Item → Option Key
key_if_small i = if nat_lt i.rank (2 ^ 16) then Some (key_in i) else None

-- the key of the match of a number, if there is one
abbrev pub key_under : List Item → ℕ → Option Key
key_under items n = option_and_then key_if_small (find (has_id n) items)

-- that key, if there is one
abbrev pub keys_under : List Item → ℕ → List Key
keys_under items n = option_to_list (key_under items n)

-- the keys have each that has a number and whose match holds the header
abbrev pub AreHeld : Numbers → HeaderOf → List Key → Type 0
AreHeld numbers h keys = (q : Key) (m : MatchOf) → IsSome (number_at q numbers) → q.bytes ≡ match_bytes m → IsMatch m
    → holds m h ≡ true → Contains keys q
