-- Entries in the order of their cookies.
use Rattle.std.proofs.Common.{◌≡◌, ◌∙◌, ℕ, List, [], ◌∷◌, ◌++◌, ap, refl}
use Rattle.install_plan.specs.Tables.{after, numbered}
use Rattle.install_plan.specs.declared.written.Written.{Written}
use Rattle.switch_meaning.specs.declared.entry.PhysEntry.{PhysEntry}
use Rattle.machine_meaning.specs.Batches.{next_after}

-- the last of several entries has the cookie after those of the others
pub numbered-last : (n : ℕ) (es : List PhysEntry) (e : PhysEntry)
    → numbered n (es ++ e ∷ []) ≡ numbered n es ++ record { entry = e; cookie = next_after n (numbered n es) } ∷ []
numbered-last n [] e = refl
numbered-last n (x ∷ xs) e = ap (λ ws. record { entry = x; cookie = n } ∷ ws) (numbered-last (after n) xs e)

next-last : (n : ℕ) (ws : List Written) (w : Written) → next_after n (ws ++ w ∷ []) ≡ after (next_after n ws)
next-last n [] w = refl
next-last n (x ∷ xs) w = next-last (after n) xs w

-- the cookie after one entry more
pub next-numbered : (n : ℕ) (es : List PhysEntry) (e : PhysEntry)
    → next_after n (numbered n (es ++ e ∷ [])) ≡ after (next_after n (numbered n es))
next-numbered n es e = ap (next_after n) (numbered-last n es e) ∙ next-last n (numbered n es) _
