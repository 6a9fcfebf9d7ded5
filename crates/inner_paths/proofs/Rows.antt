-- Tables that grow by a row.
use Rattle.std.proofs.Common.{◌≡◌, ℕ, zero, suc, drop, take, filter, Bool, true, false, cond, if◌then◌else◌, ◌+◌, ◌<◌}
use Rattle.std.proofs.Common.{◌≤◌, Option, Some, None, List, [], ◌∷◌, ◌++◌, length, get_or, refl, sym, ap, ◌∙◌, subst}
use Rattle.std.proofs.Common.{length-append, inl, inr, ◌⊎◌, arith}
use Rattle.std.proofs.Math.Nat.{eq-or-lt_of_le}
use Rattle.std.proofs.Math.ListN.{get_or-eq_default}
use Rattle.std.specs.Prelude.{slice_get}
use Rattle.std.specs.List.{range_with_len}
use Rattle.std.proofs.lemmas.List.{drop_more, take_more}
use Rattle.std.proofs.lemmas.List.FromFn.{get_or-range_with_len, length-range_with_len}
use Rattle.std.proofs.lemmas.List.Elements.{filter-append}
use Rattle.std.specs.Option.{option_and_then}
use Rattle.virtual_topology.specs.declared.plan.TopologyPlan.{TopologyPlan}
use Rattle.virtual_topology.specs.declared.plan.SwitchItem.{SwitchItem}
use Rattle.inner_paths.specs.Hops.{hop_between, next_hop_of}
use Rattle.inner_paths.specs.Tables.{IsRow, IsTable, entry_of}

kept : {X : Type 0} (xs ys : List X) (i : ℕ) (d : X) → i < length xs → get_or (xs ++ ys) i d ≡ get_or xs i d
kept [] ys i d lt = absurd (omega (arith, lt))
kept (x ∷ xs) ys zero d lt = refl
kept (x ∷ xs) ys (suc i) d lt = kept xs ys i d (omega (arith, lt))

last : {X : Type 0} (xs : List X) (x d : X) → get_or (xs ++ x ∷ []) (length xs) d ≡ x
last [] x d = refl
last (y ∷ xs) x d = last xs x d

pub table_more : (count k : ℕ) (f : ℕ → ℕ → Option ℕ) (table : List (List (Option ℕ))) (row : List (Option ℕ))
    → IsTable count k f table → IsRow count (f k) row → IsTable count (k + 1) f (table ++ row ∷ [])
table_more count k f table row t r = record {
  whole = length-append table (row ∷ []) ∙ ap (λ n. n + 1) t.whole;
  each = λ to lt. by to (omega arith);
}
  where
    choose : (to : ℕ) → (to ≡ k) ⊎ (to < k) → IsRow count (f to) (get_or (table ++ row ∷ []) to [])
    choose to (inl same) =
        subst (λ n. IsRow count (f n) (get_or (table ++ row ∷ []) n [])) (sym same)
        (subst (λ n. IsRow count (f k) (get_or (table ++ row ∷ []) n [])) t.whole
        (subst (IsRow count (f k)) (sym (last table row [])) r))
    choose to (inr below) = subst (IsRow count (f to))
        (sym (kept table (row ∷ []) to [] (subst (λ n. to < n) (sym t.whole) below))) (t.each to below)

    by : (to : ℕ) → to ≤ k → IsRow count (f to) (get_or (table ++ row ∷ []) to [])
    by to le = choose to (eq-or-lt_of_le le)

got : {X : Type 0} (xs : List X) (i : ℕ) (x : X) → slice_get xs i ≡ Some x → i < length xs
got [] zero x e = absurd (cc)
got [] (suc i) x e = absurd (cc)
got (y ∷ xs) zero x e = omega arith
got (y ∷ xs) (suc i) x e = let rest : i < length xs = got xs i x e in omega arith

missed : {X : Type 0} (xs : List X) (i : ℕ) → slice_get xs i ≡ None → length xs ≤ i
missed [] i e = omega arith
missed (y ∷ xs) zero e = absurd (cc)
missed (y ∷ xs) (suc i) e = let rest : length xs ≤ i = missed xs i e in omega arith

-- a table of next hops, for switches that are there or not
pub hop_entry : (plan : TopologyPlan) (hops : List (List (Option ℕ)))
    → IsTable (length plan.switches) (length plan.switches) (λ to from. hop_between plan from to) hops
    → (from to : ℕ) → entry_of hops to from ≡ next_hop_of plan from to
hop_entry plan hops t from to = by (slice_get plan.switches to) refl (slice_get plan.switches from) refl
  where
    past : (from : ℕ) (o : Option SwitchItem) → get_or hops to [] ≡ []
        → entry_of hops to from ≡ option_and_then (λ (a : SwitchItem). None) o
    past from None e = ap (λ row. get_or row from None) e
    past from (Some a) e = ap (λ row. get_or row from None) e

    by : (o : Option SwitchItem) → slice_get plan.switches to ≡ o → (p : Option SwitchItem)
        → slice_get plan.switches from ≡ p
        → entry_of hops to from
        ≡ option_and_then (λ (a : SwitchItem). option_and_then (λ (b : SwitchItem). hop_between plan from to) o) p
    by None e p f =
        past from p (get_or-eq_default hops [] (subst (λ n. n ≤ to) (sym t.whole) (missed plan.switches to e)))
    by (Some b) e None f =
        let row = t.each to (got plan.switches to b e) in
        get_or-eq_default (get_or hops to []) None (subst (λ n. n ≤ from) (sym row.whole) (missed plan.switches from f))
    by (Some b) e (Some a) f = (t.each to (got plan.switches to b e)).each from (got plan.switches from a f)

-- numbers from 0
pub range_long : (n : ℕ) → length (range_with_len 0 n) ≡ n
range_long n = length-range_with_len 0 n

pub range_at : (n v : ℕ) → v < n → drop v (range_with_len 0 n) ≡ v ∷ drop (v + 1) (range_with_len 0 n)
range_at n v lt =
    let within : v < length (range_with_len 0 n) = subst (λ k. v < k) (sym (range_long n)) lt in
    let number : 0 + v ≡ v = omega arith in
    drop_more (range_with_len 0 n) v v within
    ∙ ap (λ x. x ∷ drop (v + 1) (range_with_len 0 n)) (get_or-range_with_len 0 n v v lt ∙ number)

-- how many pass a test, with one item more
pub passing_more : {X : Type 0} (p : X → Bool) (xs : List X) (i : ℕ) (d : X) → i < length xs
    → length (filter p (take (i + 1) xs)) ≡ length (filter p (take i xs)) + (if p (get_or xs i d) then 1 else 0)
passing_more p xs i d lt =
    ap (λ ys. length (filter p ys)) (take_more xs i d lt)
    ∙ (ap length (filter-append p (take i xs) (get_or xs i d ∷ []))
    ∙ (length-append (filter p (take i xs)) (filter p (get_or xs i d ∷ []))
    ∙ ap (λ n. length (filter p (take i xs)) + n) (by (p (get_or xs i d)))))
  where
    by : (b : Bool) → length (cond b (get_or xs i d ∷ []) []) ≡ (if b then 1 else 0)
    by true = refl
    by false = refl

pub at_most_one : (b : Bool) → (if b then 1 else 0) ≤ 1
at_most_one true = omega arith
at_most_one false = omega arith
