-- A listing of disjoint rules in their order is one.
use Rattle.std.proofs.Common.{◌≡◌, ℕ, List, [], ◌∷◌, refl, arith}
use Rattle.std.proofs.lemmas.Bool.Decides.{nat_tests}
use Rattle.std.specs.List.{AllByRecursion}
use Rattle.std.specs.Ordering.{nat_cmp, ordering_then}
use Rattle.std.specs.Option.{option_cmp}
use Rattle.std.specs.declared.cmp.Ordering.{Ordering}
use Rattle.std.specs.declared.cmp.Ordering.TheVariants.{Equal, Greater, Less}
use Rattle.std.proofs.lemmas.List.Sorted.{IsPermutation-sym, IsPermutation-trans}
use Rattle.cv_io.specs.Leaves.{ancestry_cmp, leaf_cmp}
use Rattle.cv_io.specs.declared.leaf.Leaf.{Leaf}
use Rattle.of10_match.specs.Order.{by_bytes}
use Rattle.of10_match.specs.Ranges.{IsMatch}
use Rattle.of10_match.proofs.ByteOrder.{by_bytes-equal}
use Rattle.policy_meaning.specs.Disjoint.{AreAllDisjoint, AreDisjoint}
use Rattle.policy_meaning.specs.LeafFact.{EachPair}
use Rattle.policy_meaning.specs.Order.{ListingIsUnique, by_ancestry}
use Rattle.policy_meaning.specs.declared.rule.Rule.{Rule}
use Rattle.policy_meaning.proofs.Apart.{differ}
use Rattle.policy_meaning.proofs.Lists.{all-map, all-zip}
use Rattle.policy_meaning.proofs.Ordered.{by_ancestry_total}
use Rattle.policy_meaning.proofs.Rising.{Differs, all-permuted, differs-permuted, from-sorted, unique}

pub both-equal : (a b : Ordering) → ordering_then a b ≡ Equal → (a ≡ Equal) × (b ≡ Equal)
both-equal Less b e = cc
both-equal Equal b e = (refl, e)
both-equal Greater b e = cc

pub number-is : (a b : ℕ) → nat_cmp a b ≡ Equal → a ≡ b
number-is a b e = grind (arith, nat_tests)

leaf-is : (a b : Leaf) → leaf_cmp a b ≡ Equal → a ≡ b
leaf-is a b e =
    let s = both-equal (nat_cmp a.member b.member) (nat_cmp a.kind b.kind) e in
    let m = number-is a.member b.member s.0 in
    let k = number-is a.kind b.kind s.1 in
    λ i. record { member = m i; kind = k i }

ancestry-is : (a b : List Leaf) → ancestry_cmp a b ≡ Equal → a ≡ b
ancestry-is [] [] e = refl
ancestry-is [] (y ∷ ys) e = cc
ancestry-is (x ∷ xs) [] e = cc
ancestry-is (x ∷ xs) (y ∷ ys) e =
    let s = both-equal (leaf_cmp x y) (ancestry_cmp xs ys) e in
    let h = leaf-is x y s.0 in
    let t = ancestry-is xs ys s.1 in
    λ i. h i ∷ t i

rules-differ : (a b : Rule) → AreDisjoint a b → IsMatch a.m → IsMatch b.m → by_ancestry a b ≡ Equal → ⊥
rules-differ a b d p q e =
    let s = both-equal (ancestry_cmp a.ancestry b.ancestry)
    (ordering_then (option_cmp nat_cmp a.m.in_port b.m.in_port) (by_bytes a.m b.m)) e in
    let t = both-equal (option_cmp nat_cmp a.m.in_port b.m.in_port) (by_bytes a.m b.m) s.1 in
    differ a b d (ancestry-is a.ancestry b.ancestry s.0) (by_bytes-equal a.m b.m p q t.1)

all-differ : (rules : List Rule) → AreAllDisjoint rules → AllByRecursion (λ (r : Rule). IsMatch r.m) rules
    → EachPair (Differs by_ancestry by_ancestry_total) rules
all-differ [] d m = tt
all-differ (r ∷ rs) d m = (
  all-map (λ (b : Rule). AreDisjoint r b × IsMatch b.m) (λ (b : Rule). by_ancestry r b ≡ Equal
      → ⊥) rs (λ b q. rules-differ r b q.0 m.0 q.1) (all-zip (AreDisjoint r) (λ (b : Rule). IsMatch b.m) rs d.0 m.1),
  all-differ rs d.1 m.1,
)

pub listing-is-unique : ListingIsUnique
listing-is-unique rules others l m permuted disjoint matches p q =
    let d = all-differ rules disjoint matches in
    let to = IsPermutation-trans rules others m permuted q.same in
    let across = IsPermutation-trans l rules m (IsPermutation-sym rules l p.same) to in
    unique by_ancestry by_ancestry_total l m
    (from-sorted by_ancestry by_ancestry_total l p.rising
    (differs-permuted by_ancestry by_ancestry_total rules l p.same d))
    (from-sorted by_ancestry by_ancestry_total m q.rising (differs-permuted by_ancestry by_ancestry_total rules m to d))
    (all-permuted l m across) (all-permuted m l (IsPermutation-sym l m across))
