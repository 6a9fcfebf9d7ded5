-- Keys are found by the headers that their matches hold.
use Rattle.std.proofs.Common.{◌≡◌, ℕ, ◌+◌, ◌<◌, ◌^◌, ◌⊎◌, inl, inr, Bool, true, false, cond, List, [], ◌∷◌, ◌++◌, map}
use Rattle.std.proofs.Common.{find, Some, None, refl, sym, ap, subst, ◌∙◌, arith, eq-eqb, eqb-true, lt-ltb, true≢false}
use Rattle.std.specs.Prelude.{◌==◌, Option, IsPermutation, IsSome, flat_map, option_to_list}
use Rattle.std.specs.BTreeMap.{is_at}
use Rattle.std.specs.List.{IsDistinct, list_any}
use Rattle.std.specs.Option.{option_and_then}
use Rattle.of10_match.specs.Fields.{HeaderOf}
use Rattle.of10_match.specs.Matching.{holds}
use Rattle.of10_match.specs.Ranges.{IsMatch}
use Rattle.of10_match.proofs.ReadingBack.{match_bytes-injective}
use Rattle.match_index.specs.Items.{has_id, ids_of}
use Rattle.match_index.specs.Questions.{is_holding}
use Rattle.match_index.specs.declared.item.Item.{Item}
use Rattle.std.proofs.lemmas.List.Sorted.{IsPermutation-sym}
use Rattle.switch_meaning.proofs.Items.{fails, some_injective}
use Rattle.switch_meaning.proofs.Members.{IsIn, all-in, any-passes, from-place, here, in-all, in-either, in-filter}
use Rattle.switch_meaning.proofs.Members.{in-left, in-map, in-one, in-permuted, in-right, place, there}
use Rattle.install_plan.specs.InsideFinder.{AreHeld, AreIndexed, AreKnown, IsIndexed, Numbers, key_if_small, key_in}
use Rattle.install_plan.specs.InsideFinder.{key_under, keys_under, number_at}
use Rattle.install_plan.specs.InsideSlots.{Slots, order, slot_at}
use Rattle.install_plan.specs.declared.key.Key.{Key}
use Rattle.install_plan.proofs.Cookies.{none-some}
use Rattle.install_plan.proofs.Keyed.{at_exact, at_self, in-flat, no-items}

-- the number that is found, where there is one
numbered : (o : Option ℕ) → IsSome o → (n : ℕ) × (o ≡ Some n)
numbered None s = cc
numbered (Some n) s = (n, refl)

pub indexed-none : AreIndexed [] [] 0
indexed-none = record { each = λ k n e. none-some e; below = tt }

-- what stands in a list of one or none
of-option : {A : Type 0} {x : A} (o : Option A) → IsIn x (option_to_list o) → o ≡ Some x
of-option None i = no-items i
of-option (Some y) i = ap Some (sym (in-one i))

-- no match stands under the next number
pub new-number : (numbers : Numbers) (items : List Item) (next : ℕ) → AreIndexed numbers items next
    → list_any (has_id next) items ≡ false
new-number numbers items next a =
    fails (list_any (has_id next) items) (λ t.
    let p = any-passes (has_id next) items t in
    let same : next ≡ p.item.id = eqb-true next p.item.id p.passes in
    let less : p.item.id < next = in-all (λ (i : Item). i.id < next) p.stands a.below in
    omega arith)

-- one key more
module _ (numbers numbers' : Numbers) (items : List Item) (next : ℕ) (k : Key) (i : Item)
    (a : AreIndexed numbers items next)
    (at : (q : Key) → number_at q numbers' ≡ cond (is_at (order k) q) (Some next) (number_at q numbers))
    (key : key_in i ≡ k) (id : i.id ≡ next) (r : IsMatch i.normal) (s : i.rank < 2 ^ 16) where
  abbrev more : List Item
  more = items ++ i ∷ []

  own : (q : Key) (n : ℕ) → k ≡ q → next ≡ n → IsIndexed more q n
  own q n same new = record {
    item = i;
    stands = place i more (in-right items (i ∷ []) here);
    number = id
        ∙ new;
    key = key ∙ same;
    in_range = r;
    small = s;
  }

  older : (q : Key) (n : ℕ) → IsIndexed items q n → IsIndexed more q n
  older q n x =
      record {
        item = x.item;
        stands = place x.item more (in-left (i ∷ []) (from-place x.item items x.stands));
        number = x.number;
        key = x.key;
        in_range = x.in_range;
        small = x.small;
      }

  each : (q : Key) (n : ℕ) → number_at q numbers' ≡ Some n → IsIndexed more q n
  each q n e = by (is_at (order k) q) refl
    where
      by : (b : Bool) → is_at (order k) q ≡ b → IsIndexed more q n
      by true t = own q n (at_exact k q t)
          (some_injective (sym (at q ∙ ap (λ c. cond c (Some next) (number_at q numbers)) t) ∙ e))
      by false t = older q n (a.each q n (sym (at q ∙ ap (λ c. cond c (Some next) (number_at q numbers)) t) ∙ e))

  pub indexed-more : AreIndexed numbers' more (next + 1)
  indexed-more = record {
    each = each;
    below = all-in (λ (j : Item). j.id < next + 1) more (λ j st. below-each j (in-either items (i ∷ []) st));
  }
    where
      below-each : (j : Item) → IsIn j items ⊎ IsIn j (i ∷ []) → j.id < next + 1
      below-each j (inl st) = let less : j.id < next = in-all (λ (z : Item). z.id < next) st a.below in omega arith
      below-each j (inr st) = let same : j.id ≡ next = ap (λ (z : Item). z.id) (in-one st) ∙ id in omega arith

-- a number finds its match, where none stands twice
find-its : (xs : List Item) (i : Item) → IsDistinct ◌==◌ (map (λ (e : Item). e.id) xs) → IsIn i xs
    → find (has_id i.id) xs ≡ Some i
unfolding IsDistinct
find-its [] i d s = no-items s
find-its (x ∷ xs) i d here = ap (λ b. cond b (Some i) (find (has_id i.id) xs)) (eq-eqb i.id i.id refl)
find-its (x ∷ xs) i d (there s) =
    ap (λ b. cond b (Some x) (find (has_id i.id) xs)) (fails (i.id == x.id) (λ t.
    let apart : (x.id == i.id) ≡ false = in-all (λ (n : ℕ). (x.id == n) ≡ false) (in-map (λ (e : Item). e.id) s) d.0 in
    let same = eqb-true i.id x.id t in
    let self = eq-eqb x.id i.id (sym same) in cc)) ∙ find-its xs i d.1 s

-- one key less
module _ (numbers numbers' : Numbers) (items : List Item) (next : ℕ) (k : Key) (a : AreIndexed numbers items next)
    (at : (q : Key) → number_at q numbers' ≡ cond (is_at (order k) q) None (number_at q numbers)) where
  -- the number of another key was that before
  other : (q : Key) (n : ℕ) → number_at q numbers' ≡ Some n
      → (is_at (order k) q ≡ false) × (number_at q numbers ≡ Some n)
  other q n e = by (is_at (order k) q) refl
    where
      by : (b : Bool) → is_at (order k) q ≡ b → (is_at (order k) q ≡ false) × (number_at q numbers ≡ Some n)
      by true t = none-some (sym (at q ∙ ap (λ c. cond c None (number_at q numbers)) t) ∙ e)
      by false t = (t, sym (at q ∙ ap (λ c. cond c None (number_at q numbers)) t) ∙ e)

  -- where it had no number
  pub indexed-same : AreIndexed numbers' items next
  indexed-same = record { each = λ q n e. a.each q n (other q n e).1; below = a.below }

  module _ (items' : List Item) (n : ℕ) (had : number_at k numbers ≡ Some n)
      (once : IsDistinct ◌==◌ (map (λ (e : Item). e.id) items))
      (gone : IsPermutation items (option_to_list (find (has_id n) items) ++ items')) where
    x : IsIndexed items k n
    x = a.each k n had

    found : find (has_id n) items ≡ Some x.item
    found = ap (λ z. find (has_id z) items) (sym x.number)
        ∙ find-its items x.item once (from-place x.item items x.stands)

    left : (q : Key) (m : ℕ) → is_at (order k) q ≡ false → IsIndexed items q m → IsIndexed items' q m
    left q m f y =
        by (in-either (option_to_list (find (has_id n) items)) items'
        (in-permuted items (option_to_list (find (has_id n) items) ++ items') y.item gone
        (from-place y.item items y.stands)))
      where
        by : IsIn y.item (option_to_list (find (has_id n) items)) ⊎ IsIn y.item items' → IsIndexed items' q m
        by (inl s) =
            let same : x.item ≡ y.item = some_injective (sym found ∙ of-option (find (has_id n) items) s) in
            let one : k ≡ q = sym x.key ∙ (ap key_in same ∙ y.key) in
            let is : is_at (order k) q ≡ true = ap (is_at (order k)) (sym one) ∙ at_self k in
            absurd (true≢false (sym is ∙ f))
        by (inr s) = record {
          item = y.item;
          stands = place y.item items' s;
          number = y.number;
          key = y.key;
          in_range = y.in_range;
          small = y.small;
        }

    kept-below : (j : Item) → IsIn j items' → j.id < next
    kept-below j s =
        let before = in-permuted (option_to_list (find (has_id n) items) ++ items') items j
        (IsPermutation-sym items (option_to_list (find (has_id n) items) ++ items') gone)
        (in-right (option_to_list (find (has_id n) items)) items' s) in
        in-all (λ (z : Item). z.id < next) before a.below

    pub indexed-less : AreIndexed numbers' items' next
    indexed-less = record {
      each = λ q m e. let o = other q m e in left q m o.0 (a.each q m o.1);
      below = all-in (λ (z : Item). z.id < next) items' kept-below;
    }

-- what other keys have stays
pub others-stay : (numbers value numbers' : Numbers) (k : Key) → numbers ≡ value
    → ((q : Key) → number_at q numbers' ≡ cond (is_at (order k) q) None (number_at q numbers))
    → (q : Key) → is_at (order k) q ≡ false → IsSome (number_at q value) → IsSome (number_at q numbers')
others-stay numbers value numbers' k view at q f s =
    subst IsSome (sym (at q ∙ ap (λ c. cond c None (number_at q numbers)) f))
    (subst (λ (ns : Numbers). IsSome (number_at q ns)) (sym view) s)

-- the key that goes has no number
pub goes : (numbers numbers' : Numbers) (k : Key)
    → ((q : Key) → number_at q numbers' ≡ cond (is_at (order k) q) None (number_at q numbers))
    → number_at k numbers' ≡ None
goes numbers numbers' k at = at k ∙ ap (λ c. cond c None (number_at k numbers)) (at_self k)

-- the keys of all matches that hold a header
pub are-held : (numbers : Numbers) (items : List Item) (next : ℕ) (h : HeaderOf) (ids : List ℕ)
    → AreIndexed numbers items next → IsDistinct ◌==◌ (map (λ (e : Item). e.id) items)
    → IsPermutation (ids_of (is_holding h) items) ids → AreHeld numbers h (flat_map (keys_under items) ids)
are-held numbers items next h ids a once p q m known bytes r t =
    let n = numbered (number_at q numbers) known in
    let x = a.each q n.0 n.1 in
    let st = from-place x.item items x.stands in
    let same : x.item.normal ≡ m = match_bytes-injective x.item.normal m x.in_range r
    (ap (λ (z : Key). z.bytes) x.key ∙ bytes) in
    let held : is_holding h x.item ≡ true = ap (λ z. holds z h) same ∙ t in
    let listed = in-permuted (ids_of (is_holding h) items) ids x.item.id p
    (in-map (λ (e : Item). e.id) (in-filter (is_holding h) st held)) in
    let key : key_under items x.item.id ≡ Some (key_in x.item) =
    ap (λ o. option_and_then key_if_small o) (find-its items x.item once st)
    ∙ ap (λ b. cond b (Some (key_in x.item)) None) (lt-ltb x.item.rank (2 ^ 16) x.small) in
    let under : IsIn (key_in x.item) (keys_under items x.item.id) =
    subst (λ o. IsIn (key_in x.item) (option_to_list o)) (sym key) here in
    let all : IsIn (key_in x.item) (flat_map (keys_under items) ids) = in-flat (keys_under items) listed under in
    place q (flat_map (keys_under items) ids) (subst (λ (z : Key). IsIn z (flat_map (keys_under items) ids)) x.key all)

pub still-numbered : (b : Bool) (n : ℕ) (o : Option ℕ) → IsSome o → IsSome (cond b (Some n) o)
still-numbered true n o s = refl
still-numbered false n o s = s

-- slots come and go

pub known-less : (numbers numbers' : Numbers) (slots slots' : Slots) (k : Key)
    → ((q : Key) → is_at (order k) q ≡ false → IsSome (number_at q numbers) → IsSome (number_at q numbers'))
    → ((q : Key) → slot_at q slots' ≡ cond (is_at (order k) q) None (slot_at q slots)) → AreKnown numbers slots
    → AreKnown numbers' slots'
known-less numbers numbers' slots slots' k others at known q s = by (is_at (order k) q) refl
  where
    by : (b : Bool) → is_at (order k) q ≡ b → IsSome (number_at q numbers')
    by true t = let none : slot_at q slots' ≡ None = at q ∙ ap (λ c. cond c None (slot_at q slots)) t in let w =
        subst IsSome none s in cc
    by false t = others q t (known q (subst IsSome (at q ∙ ap (λ c. cond c None (slot_at q slots)) t) s))

pub known-more : (numbers numbers' : Numbers) (slots slots' : Slots) (k : Key) → IsSome (number_at k numbers')
    → ((q : Key) → IsSome (number_at q numbers) → IsSome (number_at q numbers'))
    → ((q : Key) → is_at (order k) q ≡ false → IsSome (slot_at q slots') → IsSome (slot_at q slots))
    → AreKnown numbers slots → AreKnown numbers' slots'
known-more numbers numbers' slots slots' k has still only known q s = by (is_at (order k) q) refl
  where
    by : (b : Bool) → is_at (order k) q ≡ b → IsSome (number_at q numbers')
    by true t = subst (λ (z : Key). IsSome (number_at z numbers')) (at_exact k q t) has
    by false t = still q (known q (only q t s))

-- where a slot is written the same keys have slots
pub known-written : (numbers : Numbers) (slots slots' : Slots)
    → ((q : Key) → IsSome (slot_at q slots') → IsSome (slot_at q slots)) → AreKnown numbers slots
    → AreKnown numbers slots'
known-written numbers slots slots' only known q s = known q (only q s)
