-- The items of a list with their numbers, of which some make something.
use Rattle.std.proofs.Common.{◌≡◌, ℕ, ◌+◌, ◌<◌, List, [], ◌∷◌, ◌++◌, Option, Some, None, length, get_or, take, refl, ap}
use Rattle.std.proofs.Common.{sym, ◌∙◌, arith}
use Rattle.std.specs.Prelude.{filter_map, option_to_list}
use Rattle.std.specs.List.{cons_option, enumerate_from}
use Rattle.std.proofs.lemmas.List.{take_more}
use Rattle.std.proofs.lemmas.List.Elements.{filter_map-append}
use Rattle.std.proofs.lemmas.List.FromFn.{get_or-enumerate_from, length-enumerate_from}

pub one-kept : {A : Type 0} (o : Option A) → cons_option o [] ≡ option_to_list o
one-kept None = refl
one-kept (Some x) = refl

pub numbered_kept : {X A : Type 0} (f : ℕ × X → Option A) (xs : List X) (i : ℕ) (x : X) → i < length xs
    → x ≡ get_or xs i x
    → filter_map f (take (i + 1) (enumerate_from 0 xs))
    ≡ filter_map f (take i (enumerate_from 0 xs)) ++ option_to_list (f (i, x))
numbered_kept f xs i x lt item =
    let within : i < length (enumerate_from 0 xs) = omega (arith, length-enumerate_from 0 xs) in
    let here : get_or (enumerate_from 0 xs) i (i, x) ≡ (0 + i, get_or xs i x) =
    get_or-enumerate_from 0 xs i (i, x) lt in
    let number : 0 + i ≡ i = omega arith in
    ap (filter_map f) (take_more (enumerate_from 0 xs) i (i, x) within
    ∙ ap (λ p. take i (enumerate_from 0 xs) ++ p ∷ []) (here ∙ (λ j. (number j, sym item j))))
    ∙ (filter_map-append f (take i (enumerate_from 0 xs)) ((i, x) ∷ [])
    ∙ ap (λ ys. filter_map f (take i (enumerate_from 0 xs)) ++ ys) (one-kept (f (i, x))))
