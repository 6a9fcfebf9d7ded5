-- What stands in a TOML document: lists, and tables with their keys in the order of their bytes.
use Rattle.std.specs.Prelude.{ℕ, List, [], ◌∷◌, Option, option_map}
use Rattle.toml.specs.Data.{Data, as_array, Items, no_items, item, Members, no_members, member}

-- the values of an array
abbrev pub items_in : Items → List Data
items_in no_items = []
items_in (item d ds) = d ∷ items_in ds

-- the keys of a table
abbrev pub keys_in : Members → List (List ℕ)
keys_in no_members = []
keys_in (member k d ms) = k ∷ keys_in ms

-- the values that a value lists
abbrev pub as_list : Data → Option (List Data)
as_list d = option_map items_in (as_array d)
