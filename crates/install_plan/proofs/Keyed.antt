-- Slots under their keys.
use Rattle.std.proofs.Common.{◌≡◌, ◌⊎◌, inl, inr, Bool, true, false, cond, List, [], ◌∷◌, ◌++◌, refl, ap, sym, ◌∙◌}
use Rattle.std.proofs.Common.{true≢false}
use Rattle.std.specs.Prelude.{Some, None, IsSome, is_some, flat_map}
use Rattle.std.specs.BTreeMap.{insert_entry, is_at}
use Rattle.std.specs.Map.{lookup, keys_of, set_value, remove_entry}
use Rattle.std.specs.List.{AllByRecursion}
use Rattle.std.specs.List.Sorted.{IsStrictlySortedBy}
use Rattle.std.specs.Ordering.{eq_by_cmp, is_eq, match_ordering, nat_cmp, ordering_then}
use Rattle.std.specs.Cmp.{IsEquivalence, IsTotalOrder, eq_by_cmp_equiv, nat_cmp_total, on_total, then_total}
use Rattle.std.specs.Cmp.Lexicographic.{on_texts, slice_cmp}
use Rattle.std.specs.declared.cmp.Ordering.{Ordering}
use Rattle.std.specs.declared.cmp.Ordering.TheVariants.{Less, Equal, Greater}
use Rattle.std.proofs.lemmas.Cmp.{tied_itself}
use Rattle.std.proofs.lemmas.Map.Keys.{IsDistinct-from_sorted}
use Rattle.std.proofs.lemmas.Map.Lookups.{exact_bytes, exact_unsigned}
use Rattle.std.proofs.lemmas.Map.Views.{lookup-from_Contains, Contains-from_lookup}
use Rattle.std.proofs.lemmas.Map.{lookup-set_value}
use Rattle.switch_meaning.proofs.Members.{IsIn, here, there, from-place, in-either, in-left, in-right, place}
use Rattle.install_plan.specs.InsideSlots.{Slots, order, slot_at}
use Rattle.install_plan.specs.declared.key.Key.{Key}
use Rattle.install_plan.specs.declared.slot.Slot.{Slot}

pub order_total : IsTotalOrder order
order_total = then_total (on_total (λ (k : Key). k.priority) nat_cmp_total) (on_texts (λ (k : Key). k.bytes))

both-equal : (a b : Ordering) → ordering_then a b ≡ Equal → (a ≡ Equal) × (b ≡ Equal)
both-equal Less b e = cc
both-equal Equal b e = (refl, e)
both-equal Greater b e = cc

-- keys that compare equal are the same
pub order_exact : (k q : Key) → order k q ≡ Equal → k ≡ q
order_exact k q e =
    let s = both-equal (nat_cmp k.priority q.priority) (slice_cmp nat_cmp k.bytes q.bytes) e in
    let p = exact_unsigned k.priority q.priority s.0 in
    let b = exact_bytes k.bytes q.bytes s.1 in
    λ i. record { priority = p i; bytes = b i }

equal-is : (r : Ordering) → is_eq r ≡ true → r ≡ Equal
equal-is Less e = cc
equal-is Equal e = refl
equal-is Greater e = cc

pub at_exact : (k q : Key) → is_at (order k) q ≡ true → k ≡ q
at_exact k q e = order_exact k q (equal-is (order k q) e)

pub at_self : (k : Key) → is_at (order k) k ≡ true
at_self k = ap is_eq (tied_itself order_total k)

abbrev pub equal_keys : IsEquivalence (eq_by_cmp order)
equal_keys = eq_by_cmp_equiv order_total

pub at_flips : (k q : Key) → is_at (order k) q ≡ is_at (order q) k
at_flips k q = equal_keys.symm k q

abbrev pub Rise : Slots → Type 0
Rise slots = IsStrictlySortedBy order (keys_of slots)

-- the slot of a key is there under it
pub found-in : (k : Key) (s : Slot) (slots : Slots) → slot_at k slots ≡ Some s → IsIn (k, s) slots
found-in k s slots e = from-place (k, s) slots (Contains-from_lookup {eq = eq_by_cmp order} at_exact k s slots e)

-- what is there is found
pub in-found : (k : Key) (s : Slot) (slots : Slots) → Rise slots → IsIn (k, s) slots → slot_at k slots ≡ Some s
in-found k s slots r i = lookup-from_Contains equal_keys k s slots (IsDistinct-from_sorted order (keys_of slots) r)
    (place (k, s) slots i)

-- one slot is written
pub found-written : (k q : Key) (s w : Slot) (slots : Slots) → slot_at k slots ≡ Some s
    → slot_at q (set_value (is_at (order k)) slots w) ≡ cond (is_at (order k) q) (Some w) (slot_at q slots)
found-written k q s w slots e =
    lookup-set_value equal_keys (is_at (order k)) (λ x y t. ap (λ (z : Key). is_at (order z) y) (at_exact k x t)) q w
    slots (ap is_some e)

pub no-items : {A B : Type 0} {x : A} → IsIn x [] → B
no-items i = elim i [ ]

-- nothing is not something
pub none-there : {B : Type 0} → IsSome {T = Slot} None → B
none-there e = absurd (true≢false (sym e))

pub first-or-later : {A : Type 0} {x y : A} {xs : List A} → IsIn x (y ∷ xs) → (x ≡ y) ⊎ IsIn x xs
first-or-later here = inl refl
first-or-later (there i) = inr i

module _ {A B : Type 0} (g : A → List B) where
  pub in-flat : {a : A} {b : B} {xs : List A} → IsIn a xs → IsIn b (g a) → IsIn b (flat_map g xs)
  in-flat (here {xs = xs}) j = in-left (flat_map g xs) j
  in-flat (there {y = a} {xs = xs} i) j = in-right (g a) (flat_map g xs) (in-flat i j)

  -- where an item of a list of lists comes from
  pub record Source (b : B) (xs : List A) : Type 0 where
    pub from : A
    pub stands : IsIn from xs
    pub has : IsIn b (g from)

  pub flat-in : (b : B) (xs : List A) → IsIn b (flat_map g xs) → Source b xs
  flat-in b [] i = no-items i
  flat-in b (a ∷ xs) i = by (λ j. flat-in b xs j) (in-either (g a) (flat_map g xs) i)
    where
      by : (IsIn b (flat_map g xs) → Source b xs) → IsIn b (g a) ⊎ IsIn b (flat_map g xs) → Source b (a ∷ xs)
      by rest (inl j) = record { from = a; stands = here; has = j }
      by rest (inr j) = let s = rest j in record { from = s.from; stands = there s.stands; has = s.has }

module _ {A : Type 0} (g : Key × Slot → List A) where
  -- a new slot that gives nothing
  pub flat-opened : (k : Key) (s : Slot) (slots : Slots) → slot_at k slots ≡ None → g (k, s) ≡ []
      → flat_map g (insert_entry order slots k s) ≡ flat_map g slots
  flat-opened k s [] n e = ap (λ xs. xs ++ []) e
  flat-opened k s (p ∷ ps) n e = by (order k p.0) refl (λ m. flat-opened k s ps m e)
    where
      by : (r : Ordering) → order k p.0 ≡ r
          → (slot_at k ps ≡ None → flat_map g (insert_entry order ps k s) ≡ flat_map g ps)
          → flat_map g (match_ordering r ((k, s) ∷ p ∷ ps) ((p.0, s) ∷ ps) (p ∷ insert_entry order ps k s))
          ≡ flat_map g (p ∷ ps)
      by Less t rest = ap (λ xs. xs ++ flat_map g (p ∷ ps)) e
      by Equal t rest = let f : slot_at k (p ∷ ps) ≡ Some p.1 = ap (λ r. cond (is_eq r) (Some p.1) (slot_at k ps)) t in
          cc
      by Greater t rest = ap (λ xs. g p ++ xs) (rest (sym (ap (λ r. cond (is_eq r) (Some p.1) (slot_at k ps)) t) ∙ n))

  -- a slot that gives nothing is taken out
  pub flat-dropped : (test : Key → Bool) (slots : Slots)
      → AllByRecursion (λ (p : Key × Slot). test p.0 ≡ true → g p ≡ []) slots
      → flat_map g (remove_entry test slots) ≡ flat_map g slots
  flat-dropped test [] a = refl
  flat-dropped test (p ∷ ps) a = by (test p.0) refl (flat-dropped test ps a.1)
    where
      by : (b : Bool) → test p.0 ≡ b → flat_map g (remove_entry test ps) ≡ flat_map g ps
          → flat_map g (cond b ps (p ∷ remove_entry test ps)) ≡ flat_map g (p ∷ ps)
      by true t rest = sym (ap (λ xs. xs ++ flat_map g ps) (a.0 t))
      by false t rest = ap (λ xs. g p ++ xs) rest

  -- slots that give the same
  pub flat-alike : (h : Key × Slot → List A) (slots : Slots) → AllByRecursion (λ (p : Key × Slot). g p ≡ h p) slots
      → flat_map g slots ≡ flat_map h slots
  flat-alike h [] a = refl
  flat-alike h (p ∷ ps) a = λ i. a.0 i ++ flat-alike h ps a.1 i

  -- a slot is written that gives the same
  pub flat-written : (test : Key → Bool) (s w : Slot) (slots : Slots) → lookup test slots ≡ Some s
      → ((k : Key) → test k ≡ true → g (k, w) ≡ g (k, s))
      → flat_map g (set_value test slots w) ≡ flat_map g slots
  flat-written test s w [] e same = refl
  flat-written test s w (p ∷ ps) e same = by (test p.0) refl e (λ f. flat-written test s w ps f same)
    where
      by : (b : Bool) → test p.0 ≡ b → cond b (Some p.1) (lookup test ps) ≡ Some s
          → (lookup test ps ≡ Some s → flat_map g (set_value test ps w) ≡ flat_map g ps)
          → flat_map g (cond b ((p.0, w) ∷ ps) (p ∷ set_value test ps w)) ≡ flat_map g (p ∷ ps)
      by true t f rest = let is : p.1 ≡ s = cc in
          ap (λ xs. xs ++ flat_map g ps) (same p.0 t ∙ sym (ap (λ (z : Slot). g (p.0, z)) is))
      by false t f rest = ap (λ xs. g p ++ xs) (rest f)

-- a key below all keys of the slots is below that of each
pub key-above : (k : Key) (q : Key × Slot) {qs : Slots} → IsIn q qs
    → AllByRecursion (λ (z : Key). order k z ≡ Less) (keys_of qs) → order k q.0 ≡ Less
key-above k q here b = b.0
key-above k q (there i) b = key-above k q i b.1
