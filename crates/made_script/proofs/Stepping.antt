-- The lines that are left of a script.
use Rattle.std.proofs.Common.{◌≡◌, ◌≤◌, ◌<◌, ℕ, suc, ◌+◌, ◌-◌, ◌∷◌, ◌++◌, drop, refl, arith}
use Rattle.made_script.specs.Drawing.{after}
use Rattle.made_script.specs.Script.{line_of, lines_behind, opening}

lines_on : (done x n m : ℕ) → n ≡ suc m
    → lines_behind done x n ≡ line_of (done + 1) (after x) ∷ lines_behind (done + 1) (after x) m
lines_on done x n m e = rw e refl

-- once all three of the first lines were made, the next line is that of a message
pub next_message : (opened done count x y : ℕ) → 3 ≤ opened → opened ≤ 3 → done < count → y ≡ after x
    → drop opened opening ++ lines_behind done x (count - done)
    ≡ line_of (done + 1) y ∷ (drop opened opening ++ lines_behind (done + 1) y (count - (done + 1)))
next_message opened done count x y least most more next =
    let all : opened ≡ 3 = omega (arith, least, most) in
    let rest = count - (done + 1) in
    rw all (rw next (lines_on done x (count - done) rest (omega (arith, more))))
