-- A list whose items are lent, and come back.
use Rattle.std.proofs.Common.{◌≡◌, ◌∙◌, List, [], ◌∷◌, ◌++◌, length, take, drop, refl, sym, ap}
use Rattle.std.specs.List.{refill}

take_front : {A : Type 0} (ws ys : List A) → take (length ws) (ws ++ ys) ≡ ws
take_front [] ys = refl
take_front (w ∷ ws) ys = ap (λ zs. w ∷ zs) (take_front ws ys)

-- as many as were lent
pub refilled : {A : Type 0} (xs ws : List A) → length ws ≡ length xs → refill (length xs) xs ws ≡ ws
refilled xs ws h = ap (λ n. take n (ws ++ drop (length ws) xs)) (sym h) ∙ take_front ws (drop (length ws) xs)
