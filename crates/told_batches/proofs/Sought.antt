-- One entry is looked up among others, which stand by rising key.
use Rattle.std.proofs.Common.{◌≡◌, ◌∙◌, ◌+◌, ◌-◌, ◌||◌, ℕ, zero, suc, Bool, true, false, List, [], ◌∷◌}
use Rattle.std.proofs.Common.{ap, arith, drop, length, length-drop, not, refl, subst, sym, take}
use Rattle.std.specs.Prelude.{IsSorted, slice_index_or}
use Rattle.std.specs.List.{AllByRecursion, list_any}
use Rattle.std.specs.List.Sorted.{IsPartitionedBy}
use Rattle.std.specs.Ordering.{is_le, is_lt, ordering_reverse}
use Rattle.std.specs.declared.cmp.Ordering.{Ordering}
use Rattle.std.specs.declared.cmp.Ordering.TheVariants.{Equal, Greater, Less}
use Rattle.std.proofs.lemmas.Cmp.{tied_itself}
use Rattle.std.proofs.lemmas.List.{get_or-drop, take_all}
use Rattle.std.proofs.lemmas.List.Sorted.{list_any-IsPermutation, sorted_far}
use Rattle.policy_meaning.proofs.Lists.{all-map}
use Rattle.switch_meaning.specs.Batches.{by_key, key_cmp}
use Rattle.switch_meaning.specs.Same.{same_entry}
use Rattle.switch_meaning.specs.declared.entry.PhysEntry.{PhysEntry}
use Rattle.switch_meaning.proofs.Alike.{entry_decides}
use Rattle.switch_meaning.proofs.ByKey.{key_total, sorted-by-key}
use Rattle.switch_meaning.proofs.Items.{fails}
use Rattle.shared_rows.proofs.Lists.{not_true}
use Rattle.told_batches.proofs.SortedEntries.{weak_order}

module _ {A : Type 0} (p : A → Bool) where
  -- a part of a list passes a test as all of it, where no other item does
  any_behind : (xs : List A) (n : ℕ) → AllByRecursion (λ x. p x ≡ false) (take n xs)
      → list_any p (drop n xs) ≡ list_any p xs
  any_behind [] zero none = refl
  any_behind [] (suc n) none = refl
  any_behind (x ∷ xs) zero none = refl
  any_behind (x ∷ xs) (suc n) none = any_behind xs n none.1 ∙ ap (λ b. b || list_any p xs) (sym none.0)

  any_none : (xs : List A) → AllByRecursion (λ x. p x ≡ false) xs → list_any p xs ≡ false
  any_none [] none = refl
  any_none (x ∷ xs) none = ap (λ b. b || list_any p xs) none.0 ∙ any_none xs none.1

  any_front : (xs : List A) (n : ℕ) → AllByRecursion (λ x. p x ≡ false) (drop n xs)
      → list_any p (take n xs) ≡ list_any p xs
  any_front [] zero none = refl
  any_front [] (suc n) none = refl
  any_front (x ∷ xs) zero none = sym (any_none (x ∷ xs) none)
  any_front (x ∷ xs) (suc n) none = ap (λ b. p x || b) (any_front xs n none)

  -- what is parted by a test stays so without its first items
  parted_behind : (xs : List A) (n : ℕ) → IsPartitionedBy p xs → IsPartitionedBy p (drop n xs)
  parted_behind xs n parted i j d le lt t =
      let long : length (drop n xs) ≡ length xs - n = length-drop n xs in
      subst (λ x. p x ≡ true) (sym (get_or-drop n xs i d))
      (parted (n + i) (n + j) d (omega arith) (omega arith) (subst (λ x. p x ≡ true) (get_or-drop n xs j d) t))

-- the rest of a list behind a place, as it is lent
pub rest_is : {A : Type 0} (xs : List A) (n : ℕ) → take (length xs - n) (drop n xs) ≡ drop n xs
rest_is xs n =
    let long : length (drop n xs) ≡ length xs - n = length-drop n xs in
    take_all (length xs - n) (drop n xs) (omega arith)

turned : (r : Ordering) → is_le (ordering_reverse r) ≡ not (is_lt r)
turned Less = refl
turned Equal = refl
turned Greater = refl

module _ (e : PhysEntry) where
  -- an entry comes before another by its key, or not behind it
  abbrev pub is_before : PhysEntry → Bool
  is_before d = is_lt (key_cmp d e)

  abbrev pub is_up_to : PhysEntry → Bool
  is_up_to d = is_le (key_cmp d e)

  up_to_is : (d : PhysEntry) → is_up_to d ≡ not (is_lt (key_cmp e d))
  up_to_is d = ap is_le (key_total.antisymm d e) ∙ turned (key_cmp e d)

  -- what doesn't come before an entry that is before the key is before it
  not_below : (x y : PhysEntry) → is_lt (key_cmp y x) ≡ false → is_before y ≡ true → is_before x ≡ true
  not_below x y up t = by (is_before x) refl
    where
      by : (b : Bool) → is_before x ≡ b → is_before x ≡ true
      by true f = f
      by false f = let never : is_before y ≡ false = weak_order.chain y x e up f in cc

  pub before_parted : (xs : List PhysEntry) → IsSorted key_cmp xs → IsPartitionedBy is_before xs
  before_parted xs up i j d le lt t =
      let x = slice_index_or xs i d in
      let y = slice_index_or xs j d in
      not_below x y (sorted_far _ weak_order xs up i j d le lt) t

  up_to_parted : (xs : List PhysEntry) → IsSorted key_cmp xs → IsPartitionedBy is_up_to xs
  up_to_parted xs up i j d le lt t =
      let x = slice_index_or xs i d in
      let y = slice_index_or xs j d in
      let high : is_lt (key_cmp e y) ≡ false = not_true (is_lt (key_cmp e y)) (sym (up_to_is y) ∙ t) in
      up_to_is x ∙ ap not (weak_order.chain e y x high (sorted_far _ weak_order xs up i j d le lt))

  pub rest_parted : (xs : List PhysEntry) (n : ℕ) → IsSorted key_cmp xs
      → IsPartitionedBy is_up_to (take (length xs - n) (drop n xs))
  rest_parted xs n up =
      subst (IsPartitionedBy is_up_to) (sym (rest_is xs n)) (parted_behind is_up_to xs n (up_to_parted xs up))

  -- an entry with another key isn't the same
  differs : (d : PhysEntry) → (key_cmp d e ≡ Equal → ⊥) → same_entry e d ≡ false
  differs d apart =
      fails (same_entry e d) (λ t.
      apart (ap (key_cmp d) ((entry_decides e d).0 t) ∙ tied_itself key_total d))

  before_differs : (d : PhysEntry) → is_before d ≡ true → same_entry e d ≡ false
  before_differs d low = differs d (λ same. let equal : is_before d ≡ false = ap is_lt same in cc)

  behind_differs : (d : PhysEntry) → is_up_to d ≡ false → same_entry e d ≡ false
  behind_differs d high = differs d (λ same. let equal : is_up_to d ≡ true = ap is_le same in cc)

  -- an entry that is searched for among sorted ones is looked for among all
  pub looked_up : (xs rest : List PhysEntry) (n k : ℕ) → rest ≡ drop n xs
      → AllByRecursion (λ d. is_before d ≡ true) (take n xs) → AllByRecursion (λ d. is_up_to d ≡ false) (drop k rest)
      → list_any (same_entry e) (take k rest) ≡ list_any (same_entry e) xs
  looked_up xs rest n k is low high =
      any_front (same_entry e) rest k
      (all-map (λ d. is_up_to d ≡ false) (λ d. same_entry e d ≡ false) (drop k rest) behind_differs high)
      ∙ (ap (list_any (same_entry e)) is
      ∙ any_behind (same_entry e) xs n
      (all-map (λ d. is_before d ≡ true) (λ d. same_entry e d ≡ false) (take n xs) before_differs low))

-- what is found among entries that were sorted is among the entries
pub sought : (es sorted : List PhysEntry) → sorted ≡ by_key es → (e : PhysEntry) (b : Bool)
    → (IsSorted key_cmp sorted → b ≡ list_any (same_entry e) sorted) → b ≡ list_any (same_entry e) es
sought es sorted is e b says =
    let by = sorted-by-key es in
    says (subst (IsSorted key_cmp) (sym is) by.1)
    ∙ (ap (list_any (same_entry e)) is ∙ sym (list_any-IsPermutation (same_entry e) es (by_key es) by.0))

pub same_tests : (a b : Bool) → (a ≡ true → b ≡ true) → (b ≡ true → a ≡ true) → a ≡ b
same_tests true b f g = sym (f refl)
same_tests false true f g = g refl
same_tests false false f g = refl

-- whichever of two entries is compared with the other
same_flips : (d e : PhysEntry) → same_entry d e ≡ same_entry e d
same_flips d e =
    same_tests (same_entry d e) (same_entry e d) (λ t. (entry_decides e d).1 (sym ((entry_decides d e).0 t)))
    (λ t. (entry_decides d e).1 (sym ((entry_decides e d).0 t)))

pub any_flips : (e : PhysEntry) (es : List PhysEntry)
    → list_any (same_entry e) es ≡ list_any (λ (d : PhysEntry). same_entry d e) es
any_flips e es = λ i. list_any (λ (d : PhysEntry). same_flips e d i) es
