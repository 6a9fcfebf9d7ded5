-- The spelling of the first actions of a list.
use Rattle.std.proofs.Common.{◌≡◌, ℕ, ◌+◌, ◌<◌, List, [], ◌∷◌, ◌++◌, All, length, get_or, take, sym, ap, subst, ◌∙◌}
use Rattle.std.proofs.Common.{append_assoc, arith}
use Rattle.std.proofs.lemmas.Grind.{take_at_read, flat_map-append}
use Rattle.std.proofs.lemmas.List.{append-nil, length-append}
use Rattle.std.proofs.lemmas.List.Elements.{All-push}
use Rattle.of10_actions.specs.declared.action.Action.{Action}
use Rattle.of10_actions.specs.Kinds.{length_of, type_of}
use Rattle.of10_actions.specs.Spelling.{spelling, spellings}
use Rattle.of10_actions.proofs.Encoding.{spells_length}
use Rattle.of10_actions.proofs.Lists.{spelling_spells}

-- the spelling of one more action
spellings_more : (xs : List Action) (i : ℕ) (d : Action) → i < length xs
    → spellings (take (i + 1) xs) ≡ spellings (take i xs) ++ spelling (get_or xs i d)
spellings_more xs i d lt =
    ap spellings (take_at_read xs i d lt).1 ∙ flat_map-append spelling (take i xs) (get_or xs i d ∷ [])
    ∙ ap (λ (ys : List ℕ). spellings (take i xs) ++ ys) (append-nil (spelling (get_or xs i d)))

-- one more action is written
pub written_more : (old new into : List ℕ) (xs : List Action) (i : ℕ) (d : Action) → i < length xs
    → into ≡ old ++ spellings (take i xs) → new ≡ into ++ spelling (get_or xs i d)
    → new ≡ old ++ spellings (take (i + 1) xs)
written_more old new into xs i d lt so_far added =
    added ∙ ap (λ (ys : List ℕ). ys ++ spelling (get_or xs i d)) so_far
    ∙ append_assoc old (spellings (take i xs)) (spelling (get_or xs i d))
    ∙ ap (λ (ys : List ℕ). old ++ ys) (sym (spellings_more xs i d lt))

-- what holds of one more action
pub all_more : (P : Action → Type 0) (xs : List Action) (i : ℕ) (d : Action) → i < length xs → All P (take i xs)
    → P (get_or xs i d) → All P (take (i + 1) xs)
all_more P xs i d lt so_far here = subst (All P) (sym (take_at_read xs i d lt).1)
    (All-push P (take i xs) (get_or xs i d) so_far here)

-- the length of one more action
pub length_more : (xs : List Action) (i : ℕ) (d : Action) → i < length xs
    → length (spellings (take i xs)) + length_of (type_of (get_or xs i d)) ≡ length (spellings (take (i + 1) xs))
length_more xs i d lt =
    omega (
      arith,
      ap length (spellings_more xs i d lt),
      length-append (spellings (take i xs)) (spelling (get_or xs i d)),
      spells_length (get_or xs i d) (spelling (get_or xs i d)) (spelling_spells (get_or xs i d)),
    )
