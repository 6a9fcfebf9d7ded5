-- Arrays and tables of documents as lists.
use Rattle.std.proofs.Common.{◌≡◌, List, [], ◌∷◌, String, Global, map, string_bytes, ap, refl}
use Rattle.std.specs.Map.{keys_of}
use Rattle.toml.specs.Data.{Data}
use Rattle.toml.specs.View.{items_of, members_view}
use Rattle.toml.specs.declared.value.Value.{Value}
use Rattle.policy_file.specs.Documents.{items_in, keys_in}

pub items_in_of : (ds : List Data) → items_in (items_of ds) ≡ ds
items_in_of [] = refl
items_in_of (d ∷ ds) = ap (λ es. d ∷ es) (items_in_of ds)

-- the keys of a table are those of its map
pub keys_in_of : (es : List (String Global × Value)) → map string_bytes (keys_of es) ≡ keys_in (members_view es)
keys_in_of [] = refl
keys_in_of (e ∷ es) = ap (λ ks. string_bytes e.0 ∷ ks) (keys_in_of es)
