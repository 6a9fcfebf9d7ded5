-- Readers of each item of a list.
use Rattle.std.proofs.Common.{◌≡◌, ℕ, ◌+◌, ◌<◌, length, get_or, drop, map, List, [], ◌∷◌, ◌++◌, Option, Some, None}
use Rattle.std.proofs.Common.{append_assoc, refl, sym, ap, ◌∙◌}
use Rattle.std.proofs.lemmas.List.{drop_more}
use Rattle.std.specs.Prelude.{option_map, option_and_then}
use Rattle.policy_file.specs.Values.{each_of}

-- an item of which something is made
pub each_step : {A B : Type 0} (read : A → Option B) (done : List B) (x : A) (y : B) (rest : List A)
    (all : Option (List B)) → read x ≡ Some y
    → option_map (λ ys. done ++ ys) (each_of read (x ∷ rest)) ≡ all
    → option_map (λ ys. (done ++ y ∷ []) ++ ys) (each_of read rest) ≡ all
each_step {A} {B} read done x y rest all made before =
    by (each_of read rest)
    ∙ (sym
    (ap (λ o. option_map (λ ys. done ++ ys)
    (option_and_then (λ z. option_map (λ ys. z ∷ ys) (each_of read rest)) o)) made) ∙ before)
  where
    by : (o : Option (List B)) → option_map (λ ys. (done ++ y ∷ []) ++ ys) o
        ≡ option_map (λ ys. done ++ ys) (option_map (λ ys. y ∷ ys) o)
    by None = refl
    by (Some ys) = ap Some (append_assoc done (y ∷ []) ys)

-- a step of a loop over things that stand for items
pub each_more : {W A B : Type 0} (show : W → A) (read : A
    → Option B) (done new : List B) (ws : List W) (i : ℕ) (d : W) (y : B) (all : Option (List B)) → i < length ws
    → read (show (get_or ws i d)) ≡ Some y
    → new ≡ done ++ y ∷ [] → option_map (λ ys. done ++ ys) (each_of read (map show (drop i ws))) ≡ all
    → option_map (λ ys. new ++ ys) (each_of read (map show (drop (i + 1) ws))) ≡ all
each_more show read done new ws i d y all lt made pushed before =
    ap (λ zs. option_map (λ ys. zs ++ ys) (each_of read (map show (drop (i + 1) ws)))) pushed
    ∙ each_step read done (show (get_or ws i d)) y (map show (drop (i + 1) ws)) all made
    (sym (ap (λ us. option_map (λ ys. done ++ ys) (each_of read (map show us))) (drop_more ws i d lt)) ∙ before)
