-- Leaves of composed rules, compared.
use Rattle.std.specs.Prelude.{Bool, ◌==◌, ◌&&◌, List}
use Rattle.std.specs.Ordering.{nat_cmp, ordering_then}
use Rattle.std.specs.Cmp.Lexicographic.{slice_cmp}
use Rattle.std.specs.declared.cmp.Ordering.{Ordering}
use Rattle.cv_io.specs.declared.leaf.Leaf.{Leaf}

-- two leaves are of one member and kind
abbrev pub same_leaf : Leaf → Leaf → Bool
same_leaf a b = (a.member == b.member) && (a.kind == b.kind)

-- by the member and then by the kind
abbrev pub leaf_cmp : Leaf → Leaf → Ordering
leaf_cmp a b = ordering_then (nat_cmp a.member b.member) (nat_cmp a.kind b.kind)

-- leaf by leaf, and where one begins with the other the shorter first
abbrev pub ancestry_cmp : List Leaf → List Leaf → Ordering
ancestry_cmp a b = slice_cmp leaf_cmp a b
