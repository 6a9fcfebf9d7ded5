-- Numbers of levels, hop by hop.
use Rattle.std.proofs.Common.{◌≡◌, ◌∙◌, sym, ap, ℕ, zero, suc, ◌+◌, ◌≤◌, ◌<◌, max, List, [], ◌∷◌, ◌++◌, length, get_or}
use Rattle.std.proofs.Common.{take, drop, map, Option, Some, None, add-one, arith, refl}
use Rattle.std.specs.Prelude.{slice_get}
use Rattle.std.specs.List.{enumerate_from}
use Rattle.std.specs.Option.{option_map, option_map_or}
use Rattle.std.proofs.lemmas.List.{drop_more, drop_all}
use Rattle.std.proofs.Math.Path.{fun_ext}
use Rattle.virtual_topology.specs.declared.plan.TopologyPlan.{TopologyPlan}
use Rattle.virtual_topology.proofs.Steps.{numbered_all, numbered_mapped}
use Rattle.virtual_topology.specs.declared.plan.VirtualItem.{VirtualItem}
use Rattle.policies.specs.Widths.{number_at, greatest, over_hop, width, AreWidths, too_wide_among}

at_numbered : {X : Type 0} (f : ℕ × X → ℕ) (m : ℕ) (xs : List X) (v : ℕ)
    → slice_get (map f (enumerate_from m xs)) v ≡ option_map (λ x. f (m + v, x)) (slice_get xs v)
at_numbered f m [] v = refl
at_numbered f m (x ∷ xs) zero = let p : m ≡ m + 0 = omega arith in ap (λ (k : ℕ). Some (f (k, x))) p
at_numbered f m (x ∷ xs) (suc v) =
    let p : (m + 1) + v ≡ m + suc v = omega arith in
    at_numbered f (m + 1) xs v ∙ ap (λ (k : ℕ). option_map (λ y. f (k, y)) (slice_get xs v)) p

mapped_or : {X : Type 0} (g : X → ℕ) (o : Option X) → option_map_or (λ n. n) (option_map g o) 1 ≡ option_map_or g o 1
mapped_or g None = refl
mapped_or g (Some x) = refl

numbers_at : {X : Type 0} (f : ℕ × X → ℕ) (xs : List X) (v : ℕ)
    → number_at (map f (enumerate_from 0 xs)) v ≡ option_map_or (λ x. f (v, x)) (slice_get xs v) 1
numbers_at f xs v =
    let p : 0 + v ≡ v = omega arith in
    ap (λ o. option_map_or (λ (n : ℕ). n) o 1) (at_numbered f 0 xs v)
    ∙ (mapped_or (λ x. f (0 + v, x)) (slice_get xs v)
    ∙ ap (λ (k : ℕ). option_map_or (λ x. f (k, x)) (slice_get xs v) 1) p)

pub no_hop : (plan : TopologyPlan) (sizes : List ℕ) → AreWidths plan sizes 0 []
no_hop plan sizes = λ v. refl

pub one_hop : (plan : TopologyPlan) (sizes : List ℕ) (n : ℕ) (needed : List ℕ) → AreWidths plan sizes n needed
    → AreWidths plan sizes (n + 1) (map (over_hop plan sizes (number_at needed)) (enumerate_from 0 plan.virtuals))
one_hop plan sizes n needed h = λ v.
    rw add-one (
    numbers_at (over_hop plan sizes (number_at needed)) plan.virtuals v
    ∙ ap (λ (f : ℕ → ℕ). option_map_or (λ (x : VirtualItem). over_hop plan sizes f (v, x)) (slice_get plan.virtuals v)
    1) (fun_ext h))

pub greatest_left : {X : Type 0} (f : X → ℕ) (xs : List X) (i most : ℕ) (x : X) → x ≡ get_or xs i x → i < length xs
    → max most (greatest (map f (drop i xs))) ≡ max (max most (f x)) (greatest (map f (drop (i + 1) xs)))
greatest_left f xs i most x e h = grind (arith, drop_more xs i x h)

pub greatest_none_left : {X : Type 0} (f : X → ℕ) (xs : List X) (i most : ℕ) → length xs ≤ i → 1 ≤ most
    → max most (greatest (map f (drop i xs))) ≡ most
greatest_none_left f xs i most h p = grind (arith, drop_all i xs h)

pub greatest_some : (ns : List ℕ) → 1 ≤ greatest ns
greatest_some [] = omega arith
greatest_some (n ∷ ns) = omega (arith, greatest_some ns)

-- a search for what is too wide goes by what is needed
pub widths_are : (plan : TopologyPlan) (sizes : List ℕ) (hops : ℕ) (needed : List ℕ) → AreWidths plan sizes hops needed
    → too_wide_among plan.virtuals (number_at needed) ≡ too_wide_among plan.virtuals (width plan sizes hops)
widths_are plan sizes hops needed h = ap (too_wide_among plan.virtuals) (fun_ext h)

-- loops over virtual switches
pub one_virtual_more : {X : Type 0} (f : ℕ × X → ℕ) (xs : List X) (i : ℕ) (x : X) → i < length xs → x ≡ get_or xs i x
    → map f (take (i + 1) (enumerate_from 0 xs)) ≡ map f (take i (enumerate_from 0 xs)) ++ f (i, x) ∷ []
one_virtual_more f xs i x lt item = numbered_mapped f xs i x lt item

pub all_virtuals : {X : Type 0} (f : ℕ × X → ℕ) (xs : List X) (n : ℕ) → length xs ≤ n
    → map f (take n (enumerate_from 0 xs)) ≡ map f (enumerate_from 0 xs)
all_virtuals f xs n h = ap (map f) (numbered_all xs n h)
