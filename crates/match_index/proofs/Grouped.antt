-- Items in groups.
use Rattle.std.proofs.Common.{◌≡◌, ℕ, zero, suc, ◌+◌, ◌<◌, Bool, true, false, ◌||◌, List, [], ◌∷◌, length, Some, None}
use Rattle.std.proofs.Common.{refl, sym, ap, ◌∙◌, arith, count_by, get_or, set, position, Decides}
use Rattle.std.specs.Prelude.{swap_remove}
use Rattle.std.specs.Cmp.{booleans_Decides}
use Rattle.std.specs.List.{list_any}
use Rattle.std.proofs.lemmas.Bool.Decides.{Decides-eqb, Decides-and, Decides-like}
use Rattle.std.proofs.lemmas.List.Folds.{list_any-append}
use Rattle.std.proofs.lemmas.List.Quantifiers.{position-Some}
use Rattle.std.proofs.lemmas.List.Sorted.{IsPermutation-swap_remove, sum_by-IsPermutation}
use Rattle.std.proofs.lemmas.List.Sums.{sum_by-cons}
use Rattle.std.specs.List.{sum_by}
use Rattle.match_index.specs.InsideGroups.{GroupOf, SameItems, in_groups}
use Rattle.match_index.specs.InsideShapes.{same_shape}
use Rattle.match_index.specs.Items.{AddsTo, same_item}
use Rattle.match_index.specs.declared.item.Item.{Item}
use Rattle.match_index.specs.declared.shape.Shape.{Shape}
use Rattle.match_index.proofs.Counts.{count-append, position-none}

-- the test of equality of shapes decides it
pub shape_decides : (s t : Shape) → Decides (same_shape s t) (s ≡ t)
shape_decides s t =
    let named = booleans_Decides in
    Decides-like (same_shape s t)
    (λ (t' : ((s.in_port ≡ t.in_port)
    × ((s.dl_src ≡ t.dl_src)
    × ((s.dl_dst ≡ t.dl_dst)
    × ((s.dl_vlan ≡ t.dl_vlan)
    × ((s.dl_vlan_pcp ≡ t.dl_vlan_pcp)
    × ((s.dl_type ≡ t.dl_type)
    × ((s.nw_tos ≡ t.nw_tos)
    × ((s.nw_proto ≡ t.nw_proto)
    × ((s.nw_src ≡ t.nw_src) × ((s.nw_dst ≡ t.nw_dst) × ((s.tp_src ≡ t.tp_src) × (s.tp_dst ≡ t.tp_dst))))))))))))).
    λ i. record {
      in_port = (t'.0) i;
      dl_src = (t'.1.0) i;
      dl_dst = (t'.1.1.0) i;
      dl_vlan = (t'.1.1.1.0) i;
      dl_vlan_pcp = (t'.1.1.1.1.0) i;
      dl_type = (t'.1.1.1.1.1.0) i;
      nw_tos = (t'.1.1.1.1.1.1.0) i;
      nw_proto = (t'.1.1.1.1.1.1.1.0) i;
      nw_src = (t'.1.1.1.1.1.1.1.1.0) i;
      nw_dst = (t'.1.1.1.1.1.1.1.1.1.0) i;
      tp_src = (t'.1.1.1.1.1.1.1.1.1.1.0) i;
      tp_dst = (t'.1.1.1.1.1.1.1.1.1.1.1) i;
    })
    (λ e. (
      ap (λ (z : Shape). z.in_port) e,
      (
        ap (λ (z : Shape). z.dl_src) e,
        (
          ap (λ (z : Shape). z.dl_dst) e,
          (
            ap (λ (z : Shape). z.dl_vlan) e,
            (
              ap (λ (z : Shape). z.dl_vlan_pcp) e,
              (
                ap (λ (z : Shape). z.dl_type) e,
                (
                  ap (λ (z : Shape). z.nw_tos) e,
                  (
                    ap (λ (z : Shape). z.nw_proto) e,
                    (
                      ap (λ (z : Shape). z.nw_src) e,
                      (
                        ap (λ (z : Shape). z.nw_dst) e,
                        (ap (λ (z : Shape). z.tp_src) e, ap (λ (z : Shape). z.tp_dst) e),
                      ),
                    ),
                  ),
                ),
              ),
            ),
          ),
        ),
      ),
    ))
    (Decides-and _ _ (named s.in_port t.in_port)
    (Decides-and _ _ (named s.dl_src t.dl_src)
    (Decides-and _ _ (named s.dl_dst t.dl_dst)
    (Decides-and _ _ (named s.dl_vlan t.dl_vlan)
    (Decides-and _ _ (named s.dl_vlan_pcp t.dl_vlan_pcp)
    (Decides-and _ _ (named s.dl_type t.dl_type)
    (Decides-and _ _ (named s.nw_tos t.nw_tos)
    (Decides-and _ _ (named s.nw_proto t.nw_proto)
    (Decides-and _ _ (Decides-eqb s.nw_src t.nw_src)
    (Decides-and _ _ (Decides-eqb s.nw_dst t.nw_dst)
    (Decides-and _ _ (named s.tp_src t.tp_src) (named s.tp_dst t.tp_dst))))))))))))

-- the group that is found is of the shape
pub shape_there : (shape : Shape) (gs : List GroupOf) (i : ℕ) (g : GroupOf)
    → position (λ h. same_shape h.shape shape) gs ≡ Some i → g ≡ get_or gs i g → g.shape ≡ shape
shape_there shape gs i g p e =
    let s = position-Some (λ h. same_shape h.shape shape) gs i g p in
    ap (λ (h : GroupOf). h.shape) e ∙ (shape_decides _ shape).0 s.1

-- the group that is found has the item
pub item_there : (item : Item) (gs : List GroupOf) (i : ℕ) (g : GroupOf)
    → position (λ h. list_any (same_item item) h.items) gs ≡ Some i → g ≡ get_or gs i g
    → list_any (same_item item) g.items ≡ true
item_there item gs i g p e =
    let s = position-Some (λ h. list_any (same_item item) h.items) gs i g p in
    ap (λ (h : GroupOf). list_any (same_item item) h.items) e ∙ s.1

pub any_groups : (q : Item → Bool) (gs : List GroupOf)
    → list_any q (in_groups gs) ≡ list_any (λ g. list_any q g.items) gs
any_groups q [] = refl
any_groups q (g ∷ gs) = list_any-append q g.items (in_groups gs) ∙ ap (λ b. list_any q g.items || b) (any_groups q gs)

-- where no group is found there is no such item
pub not_in_groups : (item : Item) (gs : List GroupOf) → position (λ h. list_any (same_item item) h.items) gs ≡ None
    → list_any (same_item item) (in_groups gs) ≡ false
not_in_groups item gs p = any_groups (same_item item) gs ∙ position-none (λ h. list_any (same_item item) h.items) gs p

-- with another group at a place
count_set : (p : Item → Bool) (gs : List GroupOf) (i : ℕ) (old new : GroupOf) → i < length gs → old ≡ get_or gs i old
    → count_by p (in_groups (set gs i new)) + count_by p old.items ≡ count_by p (in_groups gs) + count_by p new.items
count_set p [] i old new h e = absurd (omega arith)
count_set p (g ∷ gs) zero old new h e =
    let was = count-append p g.items (in_groups gs) in
    let is = count-append p new.items (in_groups gs) in
    let t : count_by p old.items ≡ count_by p g.items = ap (λ (x : GroupOf). count_by p x.items) e in
    omega (arith, was, is, t)
count_set p (g ∷ gs) (suc i) old new h e =
    let was = count-append p g.items (in_groups gs) in
    let is = count-append p g.items (in_groups (set gs i new)) in
    let r = count_set p gs i old new (omega arith) e in
    omega (arith, was, is, r)

pub groups_added : (item : Item) (gs : List GroupOf) (i : ℕ) (old new : GroupOf) → i < length gs → old ≡ get_or gs i old
    → AddsTo item old.items new.items → AddsTo item (in_groups gs) (in_groups (set gs i new))
groups_added item gs i old new h e a p = let s = count_set p gs i old new h e in let b = a p in omega (arith, s, b)

pub groups_taken : (item : Item) (gs : List GroupOf) (i : ℕ) (old new : GroupOf) → i < length gs → old ≡ get_or gs i old
    → AddsTo item new.items old.items → AddsTo item (in_groups (set gs i new)) (in_groups gs)
groups_taken item gs i old new h e a p = let s = count_set p gs i old new h e in let b = a p in omega (arith, s, b)

count_groups : (p : Item → Bool) (gs : List GroupOf)
    → count_by p (in_groups gs) ≡ sum_by (λ (g : GroupOf). count_by p g.items) gs
count_groups p [] = refl
count_groups p (g ∷ gs) = count-append p g.items (in_groups gs)
    ∙ (ap (λ n. count_by p g.items + n) (count_groups p gs)
    ∙ sym (sum_by-cons (λ (h : GroupOf). count_by p h.items) g gs))

-- without an empty group
pub group_dropped : (gs : List GroupOf) (i : ℕ) (g : GroupOf) → i < length gs → g ≡ get_or gs i g → g.items ≡ []
    → SameItems (in_groups (swap_remove gs i g)) (in_groups gs)
group_dropped gs i g h e n p =
    let s = sum_by-IsPermutation (λ (x : GroupOf). count_by p x.items) gs (g ∷ swap_remove gs i g)
    (IsPermutation-swap_remove gs i g h e) in
    let c = count_groups p gs in
    let d = count_groups p (swap_remove gs i g) in
    let f = sum_by-cons (λ (x : GroupOf). count_by p x.items) g (swap_remove gs i g) in
    let z : count_by p g.items ≡ 0 = ap (λ xs. count_by p xs) n in
    omega (arith, s, c, d, f, z)
