-- The leaves of a state, counted by members and serial numbers.
use Rattle.std.proofs.Common.{◌≡◌, ◌∙◌, ℕ, zero, suc, ◌+◌, ◌<◌, ◌≤◌, ◌==◌, ◌&&◌, Bool, true, false, List, ◌⊎◌, inl}
use Rattle.std.proofs.Common.{inr, [], ◌∷◌, map, nat_lt, arith, refl, sym, ap, eq-eqb, eqb-true}
use Rattle.std.specs.Prelude.{flat_map}
use Rattle.std.specs.List.{IsDistinct, enumerate_from}
use Rattle.std.proofs.lemmas.Bool.{eqb-false, ne_eqb}
use Rattle.cv_io.specs.Leaves.{same_leaf}
use Rattle.cv_io.specs.declared.leaf.Leaf.{Leaf}
use Rattle.member_table.specs.Entries.{has_serial}
use Rattle.member_table.specs.declared.entry.Entry.{Entry}
use Rattle.switch_meaning.proofs.Alike.{leaf_decides}
use Rattle.machine_meaning.specs.Counted.{is_one_of, leaf_at, leaf_of, leaves_among, leaves_in}
use Rattle.machine_meaning.specs.States.{MemberOf}
use Rattle.machine_meaning.specs.declared.state.Owed.{Owed}
use Rattle.machine_meaning.proofs.KeptLeaves.{entries_in, is_owed, leaves}
use Rattle.machine_meaning.proofs.Moves.{numbered}
use Rattle.machine_meaning.proofs.Tallies.{distinct_tallied, none_tallied, tallied_any, tallied_distinct, tally}
use Rattle.machine_meaning.proofs.Tallies.{tally_alike, tally_both, tally_map}

-- two numbers further are the same where the numbers are
plus_two : (a b : ℕ) → (2 + a == 2 + b) ≡ (a == b)
plus_two a b = by (a == b) refl
  where
    by : (t : Bool) → (a == b) ≡ t → (2 + a == 2 + b) ≡ t
    by true e = eq-eqb (2 + a) (2 + b) (ap (λ (n : ℕ). 2 + n) (eqb-true a b e))
    by false e = ne_eqb (2 + a) (2 + b) (λ f. eqb-false a b e (omega (arith, f)))

leaf_is : (n k m s : ℕ) → same_leaf (leaf_at n k) (leaf_at m s) ≡ ((n == m) && (k == s))
leaf_is n k m s = ap (λ (b : Bool). (n == m) && b) (plus_two k s)

-- the leaves of one member
own_leaves : (n k j : ℕ) (x : MemberOf) → (n == j) ≡ true
    → tally (same_leaf (leaf_at n k)) (leaves_in (j, x)) ≡ numbered k x.kept.table.entries
own_leaves n k j x e =
    tally_map (same_leaf (leaf_at n k)) (leaf_of j) x.kept.table.entries
    ∙ tally_alike (λ (d : Entry). same_leaf (leaf_at n k) (leaf_of j d)) (has_serial k)
    (λ d. leaf_is n k j d.serial ∙ ap (λ (b : Bool). b && (k == d.serial)) e) x.kept.table.entries

other_leaves : (n k j : ℕ) (x : MemberOf) → (n == j) ≡ false
    → tally (same_leaf (leaf_at n k)) (leaves_in (j, x)) ≡ 0
other_leaves n k j x e =
    tally_map (same_leaf (leaf_at n k)) (leaf_of j) x.kept.table.entries
    ∙ none_tallied (λ (d : Entry). same_leaf (leaf_at n k) (leaf_of j d))
    (λ d. leaf_is n k j d.serial ∙ ap (λ (b : Bool). b && (k == d.serial)) e) x.kept.table.entries

leaves_past : (ms : List MemberOf) (j n k : ℕ) → n < j
    → tally (same_leaf (leaf_at n k)) (flat_map leaves_in (enumerate_from j ms)) ≡ 0
leaves_past [] j n k lt = refl
leaves_past (x ∷ xs) j n k lt =
    let both = tally_both (same_leaf (leaf_at n k)) (leaves_in (j, x))
    (flat_map leaves_in (enumerate_from (j + 1) xs)) in
    let first = other_leaves n k j x (ne_eqb n j (λ e. omega (arith, e, lt))) in
    let rest = leaves_past xs (j + 1) n k (omega (arith, lt)) in
    omega (arith, both, first, rest)

leaves_at : (ms : List MemberOf) (j i n k : ℕ) → j + i ≡ n
    → tally (same_leaf (leaf_at n k)) (flat_map leaves_in (enumerate_from j ms)) ≡ numbered k (entries_in ms i)
leaves_at [] j i n k e = refl
leaves_at (x ∷ xs) j zero n k e =
    let both = tally_both (same_leaf (leaf_at n k)) (leaves_in (j, x))
    (flat_map leaves_in (enumerate_from (j + 1) xs)) in
    let same : n ≡ j = omega (arith, e) in
    let first = own_leaves n k j x (eq-eqb n j same) in
    let rest = leaves_past xs (j + 1) n k (omega (arith, same)) in
    omega (arith, both, first, rest)
leaves_at (x ∷ xs) j (suc i) n k e =
    let both = tally_both (same_leaf (leaf_at n k)) (leaves_in (j, x))
    (flat_map leaves_in (enumerate_from (j + 1) xs)) in
    let first = other_leaves n k j x (ne_eqb n j (λ f. omega (arith, e, f))) in
    let rest = leaves_at xs (j + 1) i n k (omega (arith, e)) in
    omega (arith, both, first, rest)

pub leaf_tally : (ms : List MemberOf) (owed : List Owed) (n k : ℕ)
    → tally (same_leaf (leaf_at n k)) (leaves_among ms owed) ≡ leaves ms owed n k
leaf_tally ms owed n k =
    let both = tally_both (same_leaf (leaf_at n k)) (flat_map leaves_in (enumerate_from 0 ms))
    (map (λ (o : Owed). leaf_of o.member o.entry) owed) in
    let tables = leaves_at ms 0 n n k (omega arith) in
    let of = tally_map (same_leaf (leaf_at n k)) (λ (o : Owed). leaf_of o.member o.entry) owed in
    let alike = tally_alike (λ (o : Owed). same_leaf (leaf_at n k) (leaf_of o.member o.entry)) (is_owed n k)
    (λ o. leaf_is n k o.member o.entry.serial) owed in
    omega (arith, both, tables, of, alike)

-- a leaf matters
pub leaf_counted : (ms : List MemberOf) (owed : List Owed) (n k : ℕ)
    → is_one_of (leaves_among ms owed) (leaf_at n k) ≡ nat_lt 0 (leaves ms owed n k)
leaf_counted ms owed n k =
    tallied_any (same_leaf (leaf_at n k)) (leaves_among ms owed) ∙ ap (nat_lt 0) (leaf_tally ms owed n k)

-- each leaf once -----------------------------------------------------------------------------------------------------

joins : (q x y : Leaf) → same_leaf q x ≡ true → same_leaf q y ≡ true → same_leaf x y ≡ true
joins q x y e f = (leaf_decides x y).1 (sym ((leaf_decides q x).0 e) ∙ (leaf_decides q y).0 f)

itself : (x : Leaf) → same_leaf x x ≡ true
itself x = (leaf_decides x x).1 refl

pub once_tallied : (ms : List MemberOf) (owed : List Owed) → IsDistinct same_leaf (leaves_among ms owed) → (n k : ℕ)
    → leaves ms owed n k ≤ 1
once_tallied ms owed h n k =
    let few = distinct_tallied same_leaf joins (leaves_among ms owed) h (leaf_at n k) in
    let is = leaf_tally ms owed n k in
    omega (arith, few, is)

-- a leaf of an entry; one of no entry stands nowhere
pub record IsEntry (q : Leaf) : Type 0 where
  pub member : ℕ
  pub serial : ℕ
  pub is : q ≡ leaf_at member serial

pub kind_of : (q : Leaf) → IsEntry q ⊎ ((n k : ℕ) → same_leaf q (leaf_at n k) ≡ false)
kind_of q = by q.kind refl
  where
    low : (n k kind : ℕ) → q.kind ≡ kind → kind < 2 → same_leaf q (leaf_at n k) ≡ false
    low n k kind e lt = right (q.member == n) (q.kind == 2 + k) (ne_eqb q.kind (2 + k) (λ f. omega (arith, e, f, lt)))
      where
        right : (a b : Bool) → b ≡ false → (a && b) ≡ false
        right true b f = f
        right false b f = refl

    by : (kind : ℕ) → q.kind ≡ kind
        → IsEntry q ⊎ ((n k : ℕ) → same_leaf q (leaf_at n k) ≡ false)
    by zero e = inr (λ n k. low n k 0 e (omega arith))
    by (suc zero) e = inr (λ n k. low n k 1 e (omega arith))
    by (suc (suc k)) e = inl (record {
      member = q.member;
      serial = k;
      is = λ i. record { member = q.member; kind = (e ∙ two k) i };
    })
      where
        two : (k : ℕ) → suc (suc k) ≡ 2 + k
        two k = omega arith

none_in : (q : Leaf) → ((n k : ℕ) → same_leaf q (leaf_at n k) ≡ false) → (j : ℕ) (xs : List MemberOf)
    → tally (same_leaf q) (flat_map leaves_in (enumerate_from j xs)) ≡ 0
none_in q none j [] = refl
none_in q none j (x ∷ xs) =
    let both = tally_both (same_leaf q) (leaves_in (j, x)) (flat_map leaves_in (enumerate_from (j + 1) xs)) in
    let first = tally_map (same_leaf q) (leaf_of j) x.kept.table.entries in
    let zeros = none_tallied (λ (d : Entry). same_leaf q (leaf_of j d)) (λ d. none j d.serial) x.kept.table.entries in
    let rest = none_in q none (j + 1) xs in
    omega (arith, both, first, zeros, rest)

pub no_entry : (ms : List MemberOf) (owed : List Owed) (q : Leaf) → ((n k : ℕ) → same_leaf q (leaf_at n k) ≡ false)
    → tally (same_leaf q) (leaves_among ms owed) ≡ 0
no_entry ms owed q none =
    let both = tally_both (same_leaf q) (flat_map leaves_in (enumerate_from 0 ms))
    (map (λ (o : Owed). leaf_of o.member o.entry) owed) in
    let tables = none_in q none 0 ms in
    let of = tally_map (same_leaf q) (λ (o : Owed). leaf_of o.member o.entry) owed in
    let zeros = none_tallied (λ (o : Owed). same_leaf q (leaf_of o.member o.entry))
    (λ o. none o.member o.entry.serial) owed in
    omega (arith, both, tables, of, zeros)

pub tallied_once : (ms : List MemberOf) (owed : List Owed) → ((n k : ℕ) → leaves ms owed n k ≤ 1)
    → IsDistinct same_leaf (leaves_among ms owed)
tallied_once ms owed h = tallied_distinct same_leaf itself (leaves_among ms owed) few
  where
    few : (q : Leaf) → tally (same_leaf q) (leaves_among ms owed) ≤ 1
    few q = elim (kind_of q) [
      | inl r ↦ let is = leaf_tally ms owed r.member r.serial in let le = h r.member r.serial in
          let same = ap (λ (x : Leaf). tally (same_leaf x) (leaves_among ms owed)) r.is in
          omega (arith, is, le, same)
      | inr none ↦ let z = no_entry ms owed q none in omega (arith, z)
    ]
