-- Loops that append what a function gives of each item.
use Rattle.std.proofs.Common.{◌≡◌, ℕ, ◌+◌, ◌<◌, List, [], ◌∷◌, ◌++◌, Option, Some, None, length, get_or, take, refl, ap}
use Rattle.std.proofs.Common.{◌∙◌, append_assoc}
use Rattle.std.specs.Prelude.{filter_map, option_to_list}
use Rattle.std.proofs.lemmas.List.Elements.{filter_map-append}
use Rattle.std.proofs.lemmas.Grind.{take_at_read}
use Rattle.std.specs.List.{cons_option}

listed : {Y : Type 0} (o : Option Y) → cons_option o [] ≡ option_to_list o
listed None = refl
listed (Some y) = refl

filter_map_step : {X Y : Type 0} (f : X → Option Y) (xs : List X) (i : ℕ) (d : X) → i < length xs →
    filter_map f (take (i + 1) xs) ≡ filter_map f (take i xs) ++ option_to_list (f (get_or xs i d))
filter_map_step f xs i d lt =
    ap (λ zs. filter_map f zs) (take_at_read xs i d lt).1
    ∙ (filter_map-append f (take i xs) (get_or xs i d ∷ [])
    ∙ ap (λ zs. filter_map f (take i xs) ++ zs) (listed (f (get_or xs i d))))

-- one more item is appended, if there is one
pub pushed_read : {X Y : Type 0} (f : X → Option Y) (xs : List X) (i : ℕ) (d : X) (old out new : List Y) (o : Option Y)
    → i < length xs →
    out ≡ old ++ filter_map f (take i xs) → o ≡ f (get_or xs i d) → new ≡ out ++ option_to_list o
    → new ≡ old ++ filter_map f (take (i + 1) xs)
pushed_read f xs i d old out new o lt far so added =
    rw (filter_map_step f xs i d lt, ← append_assoc, ← far, ← so) added

pub pushed_some : {X Y : Type 0} (f : X → Option Y) (xs : List X) (i : ℕ) (d : X) (old out new : List Y) (o : Option Y)
    → i < length xs → d ≡ get_or xs i d →
    out ≡ old ++ filter_map f (take i xs) → o ≡ f d → new ≡ out ++ option_to_list o
    → new ≡ old ++ filter_map f (take (i + 1) xs)
pushed_some f xs i d old out new o lt is far so added = pushed_read f xs i d old out new o lt far (so ∙ ap f is) added
