-- The tests of equality decide it.
use Rattle.std.proofs.Common.{◌≡◌, ℕ, List, [], ◌∷◌, refl, sym}
use Rattle.std.specs.Cmp.{nat_cmp_is}
use Rattle.std.specs.Ordering.{nat_cmp}
use Rattle.std.specs.declared.cmp.Ordering.TheVariants.{Equal}
use Rattle.cv_io.specs.declared.leaf.Leaf.{Leaf}
use Rattle.cv_io.specs.Leaves.{ancestry_cmp, leaf_cmp}

nat_cmp-self : (n : ℕ) → nat_cmp n n ≡ Equal
nat_cmp-self n = sym (nat_cmp_is n n Equal refl)

leaf_cmp-self : (a : Leaf) → leaf_cmp a a ≡ Equal
leaf_cmp-self a = rw (nat_cmp-self a.member, nat_cmp-self a.kind) refl

-- an ancestry equals itself
pub ancestry_cmp-self : (a : List Leaf) → ancestry_cmp a a ≡ Equal
ancestry_cmp-self [] = refl
ancestry_cmp-self (x ∷ xs) = rw (leaf_cmp-self x, ancestry_cmp-self xs) refl
