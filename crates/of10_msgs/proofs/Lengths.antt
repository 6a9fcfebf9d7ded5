-- The bytes of the first ports of a list.
use Rattle.std.proofs.Common.{◌≡◌, ℕ, ◌+◌, ◌<◌, List, [], ◌∷◌, ◌++◌, All, length, get_or, take, ap, sym, subst, ◌∙◌}
use Rattle.std.proofs.Common.{append_assoc}
use Rattle.std.specs.List.{flat_map}
use Rattle.std.proofs.lemmas.List.{append-nil, length-append, take_more}
use Rattle.std.proofs.lemmas.List.Elements.{All-push}
use Rattle.std.proofs.lemmas.List.Concat.{flat_map-append}

-- the bytes of one item more
pub length_more : {X : Type 0} (f : X → List ℕ) (xs : List X) (i : ℕ) (d : X) → i < length xs
    → length (flat_map f (take (i + 1) xs)) ≡ length (flat_map f (take i xs)) + length (f (get_or xs i d))
length_more f xs i d lt =
    ap (λ ys. length (flat_map f ys)) (take_more xs i d lt)
    ∙ (ap length (flat_map-append f (take i xs) (get_or xs i d ∷ [])
    ∙ ap (λ (b : List ℕ). flat_map f (take i xs) ++ b) (append-nil (f (get_or xs i d))))
    ∙ length-append (flat_map f (take i xs)) (f (get_or xs i d)))

-- one item more is written
pub written_more : {X : Type 0} (f : X → List ℕ) (old new into : List ℕ) (xs : List X) (i : ℕ) (d : X) → i < length xs
    → into ≡ old ++ flat_map f (take i xs) → new ≡ into ++ f (get_or xs i d) → new ≡ old ++ flat_map f (take (i + 1) xs)
written_more f old new into xs i d lt so_far added =
    let more = ap (flat_map f) (take_more xs i d lt)
    ∙ (flat_map-append f (take i xs) (get_or xs i d ∷ [])
    ∙ ap (λ (b : List ℕ). flat_map f (take i xs) ++ b) (append-nil (f (get_or xs i d)))) in
    added ∙ (ap (λ (b : List ℕ). b ++ f (get_or xs i d)) so_far
    ∙ (append_assoc old (flat_map f (take i xs)) (f (get_or xs i d)) ∙ ap (λ (b : List ℕ). old ++ b) (sym more)))

-- what holds of one item more
pub all_more : {X : Type 0} (P : X → Type 0) (xs : List X) (i : ℕ) (d : X) → i < length xs → All P (take i xs)
    → P (get_or xs i d) → All P (take (i + 1) xs)
all_more P xs i d lt so_far here = subst (All P) (sym (take_more xs i d lt))
    (All-push P (take i xs) (get_or xs i d) so_far here)
