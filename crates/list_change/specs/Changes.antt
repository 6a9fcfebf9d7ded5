-- From one list to another: what went, what came, what stayed.
use Rattle.std.specs.Prelude.{List, ◌++◌, Contains, IsPermutation}

-- before are the gone and what stayed, after the come and what stayed, in any order
pub record Changed {X : Type 0} (before after gone come : List X) : Type 0 where
  pub kept : List X
  pub was : IsPermutation before (gone ++ kept)
  pub is : IsPermutation after (come ++ kept)

-- nothing stands in both lists
abbrev pub Apart : {X : Type 0} → List X → List X → Type 0
Apart {X} xs ys = (x : X) → Contains xs x → Contains ys x → ⊥
