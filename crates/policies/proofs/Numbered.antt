-- Numbered lists, and what is left of them.
use Rattle.std.proofs.Common.{◌≡◌, ◌∙◌, sym, ℕ, ◌+◌, ◌<◌, ◌≤◌, ◌++◌, List, [], ◌∷◌, Option, length, get_or, take, drop}
use Rattle.std.proofs.Common.{map, arith}
use Rattle.std.specs.Prelude.{filter_map, option_to_list}
use Rattle.virtual_topology.proofs.Steps.{pushed_some}
use Rattle.std.specs.List.{enumerate_from}
use Rattle.std.proofs.lemmas.List.{drop_more, drop_all, get_or-map, length-map}
use Rattle.std.proofs.lemmas.List.FromFn.{length-enumerate_from, get_or-enumerate_from}

pub rest_numbered : {X : Type 0} (xs : List X) (i : ℕ) (d : X) → i < length xs
    → drop i (enumerate_from 0 xs) ≡ (i, get_or xs i d) ∷ drop (i + 1) (enumerate_from 0 xs)
rest_numbered xs i d h = grind (arith, drop_more, length-enumerate_from 0 xs, get_or-enumerate_from 0 xs i (0, d) h)

pub none_left : {X : Type 0} (xs : List X) (i : ℕ) → length xs ≤ i → drop i (enumerate_from 0 xs) ≡ []
none_left xs i h = drop_all i (enumerate_from 0 xs) (omega (arith, length-enumerate_from 0 xs))

-- of a list of what items show
pub rest_viewed : {X Y : Type 0} (f : X → Y) (xs : List X) (i : ℕ) (x : X) → x ≡ get_or xs i x → i < length xs
    → drop i (enumerate_from 0 (map f xs)) ≡ (i, f x) ∷ drop (i + 1) (enumerate_from 0 (map f xs))
rest_viewed f xs i x e h = grind (arith, rest_numbered (map f xs) i (f x), get_or-map f xs i x (f x), length-map xs f)

pub none_viewed : {X Y : Type 0} (f : X → Y) (xs : List X) (i : ℕ) → length xs ≤ i
    → drop i (enumerate_from 0 (map f xs)) ≡ []
none_viewed f xs i h = none_left (map f xs) i (omega (arith, length-map xs f))

-- a loop that appends what a function gives of each numbered item, if it gives something
pub numbered_some : {X Y : Type 0} (f : ℕ × X → Option Y) (xs : List X) (i : ℕ) (x : X) (out new : List Y)
    (o : Option Y) → i < length xs → x ≡ get_or xs i x
    → out ≡ filter_map f (take i (enumerate_from 0 xs)) → o ≡ f (i, x) → new ≡ out ++ option_to_list o
    → new ≡ filter_map f (take (i + 1) (enumerate_from 0 xs))
numbered_some f xs i x out new o lt item so is added =
    let within : i < length (enumerate_from 0 xs) = omega (arith, length-enumerate_from 0 xs) in
    let number : 0 + i ≡ i = omega arith in
    let here : (i, x) ≡ get_or (enumerate_from 0 xs) i (i, x) =
    sym (get_or-enumerate_from 0 xs i (i, x) lt ∙ (λ j. (number j, sym item j))) in
    pushed_some f (enumerate_from 0 xs) i (i, x) out new o within here so is added
