-- The keys that a change touches.
use Rattle.std.specs.Prelude.{◌≡◌, Bool, true, List, map}
use Rattle.std.specs.List.{All, IsDistinct, list_any}
use Rattle.switch_meaning.specs.Keys.{passes_over}
use Rattle.switch_meaning.specs.declared.entry.PhysEntry.{PhysEntry}
use Rattle.exact_gate.specs.Standing.{key_of, one_key, standing, stands_in, without}
use Rattle.exact_gate.specs.declared.key.Key.{Key}
use Rattle.exact_gate.specs.declared.delta.Touched.{Touched}

-- the key is among those that are noted
abbrev pub noted : List Key → Key → Bool
noted keys k = list_any (one_key k) keys

-- the key of an entry is noted, and those of the entries that it passes over
pub record IsNoted (entries : List PhysEntry) (keys : List Key) (d : PhysEntry) : Type 0 where
  pub own : noted keys (key_of d) ≡ true
  pub under : (e : PhysEntry) → stands_in entries e ≡ true → passes_over d e ≡ true → noted keys (key_of e) ≡ true

-- a key, with its entries that pass
abbrev pub touched_of : List PhysEntry → Key → Touched
touched_of entries k = record { key = k; before = standing entries k }

-- its entries that passed before, and don't among these
abbrev pub left_of : List PhysEntry → Touched → List PhysEntry
left_of entries t = without t.before (standing entries t.key)

-- its entries that pass among these, and didn't before
abbrev pub come_of : List PhysEntry → Touched → List PhysEntry
come_of entries t = without (standing entries t.key) t.before

-- the keys that a change touches, each once, with its entries that passed before
pub record IsTouched (entries gone come : List PhysEntry) (touched : List Touched) : Type 0 where
  pub keys : List Key
  pub is : touched ≡ map (touched_of entries) keys
  pub once : IsDistinct one_key keys
  pub going : All (IsNoted entries keys) gone
  pub coming : All (IsNoted entries keys) come
