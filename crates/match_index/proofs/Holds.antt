-- Items under their ids, and where they stand.
use Rattle.std.proofs.Common.{◌≡◌, ℕ, zero, suc, ◌<◌, Bool, true, false, ◌||◌, cond, List, [], ◌∷◌, ◌++◌, map, find}
use Rattle.std.proofs.Common.{length, Option, Some, None, refl, sym, ap, ap₂, subst₂, ◌∙◌, arith, true≢false, count_by}
use Rattle.std.proofs.Common.{get_or, position, is_some, nat_eq, ◌==◌}
use Rattle.std.specs.Prelude.{IsPermutation}
use Rattle.std.specs.List.{list_any, All, AllByRecursion, IsDistinct, position_or_len}
use Rattle.of10_match.proofs.Prefixes.{eqb-flip}
use Rattle.std.specs.Map.{keys_of, lookup, values_of}
use Rattle.std.proofs.lemmas.List.Elements.{All-head, All-tail, All-push}
use Rattle.std.proofs.lemmas.List.Folds.{list_any-append}
use Rattle.std.proofs.lemmas.List.Quantifiers.{position-Some}
use Rattle.std.proofs.lemmas.List.Sorted.{All-permutation, IsPermutation-map, IsPermutation-swap_remove}
use Rattle.std.proofs.lemmas.List.Sorted.{list_any-IsPermutation}
use Rattle.indexmap.specs.IndexMap.{swap_remove_entry}
use Rattle.indexmap.proofs.MapLemmas.{swap_remove_entry-found}
use Rattle.match_index.specs.InsideGroups.{AreKept, GroupOf, SameItems, in_groups}
use Rattle.match_index.specs.Items.{AddsTo, has_id, same_item}
use Rattle.match_index.specs.declared.item.Item.{Item}
use Rattle.match_index.proofs.Counts.{AddsTo-push, count-append, count-cons, count-permuted, item_decides, position-any}
use Rattle.match_index.proofs.Counts.{same_any}
use Rattle.match_index.proofs.Lists.{got_same, map-both}
use Rattle.match_index.proofs.Tops.{or_left}

-- each item stands under its id
abbrev pub AreIds : List (ℕ × Item) → Type 0
AreIds held = All (λ (p : ℕ × Item). p.0 ≡ p.1.id) held

-- an id finds its item
pub held_find : (id : ℕ) (held : List (ℕ × Item)) → AreIds held
    → lookup (nat_eq id) held ≡ find (has_id id) (values_of held)
held_find id [] a = refl
held_find id (p ∷ ps) a =
    ap (λ n. cond (id == n) (Some p.1) (lookup (nat_eq id) ps)) (All-head (λ (q : ℕ × Item). q.0 ≡ q.1.id) p ps a)
    ∙ ap (cond (id == p.1.id) (Some p.1)) (held_find id ps (All-tail (λ (q : ℕ × Item). q.0 ≡ q.1.id) p ps a))

-- the ids are the keys
pub held_ids : (held : List (ℕ × Item)) → AreIds held → keys_of held ≡ map (λ (e : Item). e.id) (values_of held)
held_ids [] a = refl
held_ids (p ∷ ps) a = ap₂ (λ n ns. n ∷ ns) (All-head (λ (q : ℕ × Item). q.0 ≡ q.1.id) p ps a)
    (held_ids ps (All-tail (λ (q : ℕ × Item). q.0 ≡ q.1.id) p ps a))

-- what a test finds passes somewhere
pub any_find : (p : Item → Bool) (xs : List Item) → list_any p xs ≡ is_some (find p xs)
any_find p [] = refl
any_find p (x ∷ xs) = by (p x) (any_find p xs)
  where
    by : (b : Bool) → list_any p xs ≡ is_some (find p xs) → (b || list_any p xs) ≡ is_some (cond b (Some x) (find p xs))
    by true e = refl
    by false e = e

none_is : {X : Type 0} (o : Option X) → is_some o ≡ false → o ≡ None
none_is None e = refl
none_is (Some x) e = absurd (true≢false e)

pub absent : (id : ℕ) (held : List (ℕ × Item)) → AreIds held → list_any (has_id id) (values_of held) ≡ false
    → lookup (nat_eq id) held ≡ None
absent id held a n = held_find id held a ∙ none_is _ (sym (any_find (has_id id) (values_of held)) ∙ n)

-- what is looked up stands at the place that is found
looked_at : (t : ℕ → Bool) (es : List (ℕ × Item)) (i : ℕ) (d : ℕ × Item) → i < length (keys_of es)
    → t (get_or (keys_of es) i d.0) ≡ true → ((k : ℕ) → k < i → t (get_or (keys_of es) k d.0) ≡ false)
    → lookup t es ≡ Some (get_or es i d).1
looked_at t [] i d h s f = absurd (omega arith)
looked_at t (e ∷ es) zero d h s f = ap (λ b. cond b (Some e.1) (lookup t es)) s
looked_at t (e ∷ es) (suc i) d h s f = ap (λ b. cond b (Some e.1) (lookup t es)) (f 0 (omega arith))
    ∙ looked_at t es i d (omega arith) s (λ k l. f (suc k) (omega arith))

keys_length : (es : List (ℕ × Item)) → length (keys_of es) ≡ length es
keys_length [] = refl
keys_length (e ∷ es) = ap suc (keys_length es)

any_keys : (t : ℕ → Bool) (es : List (ℕ × Item)) (v : Item) → lookup t es ≡ Some v → list_any t (keys_of es) ≡ true
any_keys t [] v e = absurd (cc)
any_keys t (p ∷ ps) v e = by (t p.0) e (any_keys t ps v)
  where
    by : (b : Bool) → cond b (Some p.1) (lookup t ps) ≡ Some v → (lookup t ps ≡ Some v → list_any t (keys_of ps) ≡ true)
        → (b || list_any t (keys_of ps)) ≡ true
    by true e r = refl
    by false e r = r e

some_is : {X : Type 0} {x y : X} → Some x ≡ Some y → x ≡ y
some_is e = cc

-- an item is taken out from under its id
pub record IsTaken (held rest : List (ℕ × Item)) (item : Item) : Type 0 where
  pub key : ℕ
  pub moved : IsPermutation held ((key, item) ∷ rest)

pub held_taken : (id : ℕ) (held : List (ℕ × Item)) (item : Item) → lookup (nat_eq id) held ≡ Some item
    → IsTaken held (swap_remove_entry (nat_eq id) held) item
held_taken id [] item e = absurd (cc)
held_taken id (p ∷ ps) item e =
    let held = p ∷ ps in
    let i = position_or_len (nat_eq id) (keys_of held) in
    let at : position (nat_eq id) (keys_of held) ≡ Some i =
    position-any (nat_eq id) (keys_of held) (any_keys (nat_eq id) held item e) in
    let s = position-Some (nat_eq id) (keys_of held) i p.0 at in
    let x = get_or held i p in
    let within : i < length held = let l = keys_length held in let h = s.0 in omega (arith, l, h) in
    let is : x.1 ≡ item = some_is (sym (looked_at (nat_eq id) held i p s.0 s.1 s.2) ∙ e) in
    let moved = IsPermutation-swap_remove held i x within (got_same held i p x within) in
    let P : List (ℕ × Item) → Item → Type 0 = λ rest y. IsPermutation held ((x.0, y) ∷ rest) in
    record { key = x.0; moved = subst₂ P (sym (swap_remove_entry-found (nat_eq id) held i x at)) is moved }

-- after one is taken out
pub ids_taken : (held rest : List (ℕ × Item)) (item : Item) → IsTaken held rest item → AreIds held → AreIds rest
ids_taken held rest item t a = All-tail (λ (p : ℕ × Item). p.0 ≡ p.1.id) (t.key, item) rest
    (All-permutation (λ (p : ℕ × Item). p.0 ≡ p.1.id) held ((t.key, item) ∷ rest) t.moved a)

pub values_taken : (held rest : List (ℕ × Item)) (item : Item) → IsTaken held rest item
    → IsPermutation (values_of held) (item ∷ values_of rest)
values_taken held rest item t = IsPermutation-map (λ (p : ℕ × Item). p.1) held ((t.key, item) ∷ rest) t.moved

pub count_taken : (held rest : List (ℕ × Item)) (item : Item) → IsTaken held rest item
    → AddsTo item (values_of rest) (values_of held)
count_taken held rest item t p =
    let s = count-permuted p (values_of held) (item ∷ values_of rest) (values_taken held rest item t) in
    let c = count-cons p item (values_of rest) in
    omega (arith, s, c)

-- what is taken out stands among the items
pub taken_there : (held rest : List (ℕ × Item)) (late : List Item) (groups : List GroupOf) (item : Item)
    → IsTaken held rest item → SameItems (values_of held) (late ++ in_groups groups)
    → list_any (same_item item) late ≡ false → list_any (same_item item) (in_groups groups) ≡ true
taken_there held rest late groups item t s n =
    let there : list_any (same_item item) (values_of held) ≡ true =
    list_any-IsPermutation (same_item item) (values_of held) (item ∷ values_of rest) (values_taken held rest item t)
    ∙ or_left (same_item item item) _ ((item_decides item item).1 refl) in
    let both = sym (same_any (values_of held) (late ++ in_groups groups) s (same_item item)) ∙ there in
    sym (ap (λ b. b || list_any (same_item item) (in_groups groups)) n)
    ∙ (sym (list_any-append (same_item item) late (in_groups groups)) ∙ both)

-- what is left stands where it stood
pub left_late : (held rest : List (ℕ × Item)) (late late' : List Item) (groups : List GroupOf) (item : Item)
    → IsTaken held rest item → SameItems (values_of held) (late ++ in_groups groups)
    → AddsTo item late' late → SameItems (values_of rest) (late' ++ in_groups groups)
left_late held rest late late' groups item t s a p =
    let h = count_taken held rest item t p in
    let e = s p in
    let l = a p in
    let was = count-append p late (in_groups groups) in
    let is = count-append p late' (in_groups groups) in
    omega (arith, h, e, l, was, is)

pub left_grouped : (held rest : List (ℕ × Item)) (late : List Item) (groups groups' : List GroupOf) (item : Item)
    → IsTaken held rest item → SameItems (values_of held) (late ++ in_groups groups)
    → AddsTo item (in_groups groups') (in_groups groups) → SameItems (values_of rest) (late ++ in_groups groups')
left_grouped held rest late groups groups' item t s a p =
    let h = count_taken held rest item t p in
    let e = s p in
    let l = a p in
    let was = count-append p late (in_groups groups) in
    let is = count-append p late (in_groups groups') in
    omega (arith, h, e, l, was, is)

-- one more item, that comes late
pub put_late : (held : List (ℕ × Item)) (late : List Item) (groups : List GroupOf) (id : ℕ) (item : Item) → id ≡ item.id
    → IsDistinct ◌==◌ (keys_of (held ++ (id, item) ∷ [])) → AreKept held late groups
    → AreKept (held ++ (id, item) ∷ []) (late ++ item ∷ []) groups
put_late held late groups id item e d k = record {
  ids = All-push (λ (p : ℕ × Item). p.0 ≡ p.1.id) held (id, item) k.ids e;
  once = d;
  same = λ p.
      let s = k.same p in
      let v : count_by p (values_of (held ++ (id, item) ∷ [])) ≡ count_by p (values_of held ++ item ∷ []) =
      ap (λ xs. count_by p xs) (map-both (λ (q : ℕ × Item). q.1) held ((id, item) ∷ [])) in
      let w = AddsTo-push (values_of held) item p in
      let l = AddsTo-push late item p in
      let was = count-append p late (in_groups groups) in
      let is = count-append p (late ++ item ∷ []) (in_groups groups) in
      omega (arith, s, v, w, l, was, is);
}

at_middle : {X : Type 0} (P : ℕ → Type 0) (f : X → ℕ) (xs : List X) (x : X) (ys : List X)
    → AllByRecursion P (map f (xs ++ x ∷ ys)) → P (f x)
at_middle P f [] x ys a = a.0
at_middle P f (z ∷ zs) x ys a = at_middle P f zs x ys a.1

-- the id of an item stands nowhere before it
pub distinct_before : (xs : List Item) (x : Item) (ys : List Item)
    → IsDistinct ◌==◌ (map (λ (e : Item). e.id) (xs ++ x ∷ ys)) → list_any (has_id x.id) xs ≡ false
unfolding IsDistinct
distinct_before [] x ys d = refl
distinct_before (z ∷ zs) x ys d =
    ap₂ (λ a b. a || b) (eqb-flip x.id z.id ∙ at_middle (λ n. (z.id == n) ≡ false) (λ (e : Item). e.id) zs x ys d.0)
    (distinct_before zs x ys d.1)
