-- What an index holds, once rules are hidden or shown.
use Rattle.std.proofs.Common.{◌≡◌, ℕ, ◌+◌, ◌==◌, ◌||◌, Bool, true, false, not, cond, List, [], ◌∷◌, ◌++◌, Option, Some}
use Rattle.std.proofs.Common.{None, take, drop, map, refl, sym, ap, subst, ◌∙◌, append_assoc, inl, inr}
use Rattle.std.specs.Prelude.{IsPermutation, filter, filter_map, find, nat_lt, option_to_list}
use Rattle.std.specs.List.{AllByRecursion, IsDistinct, cons_option, list_any}
use Rattle.std.proofs.lemmas.List.{map-append}
use Rattle.std.proofs.lemmas.List.Elements.{filter_map-append}
use Rattle.std.proofs.lemmas.List.Sorted.{IsPermutation-sym, IsPermutation-trans, IsPermutation-map}
use Rattle.std.proofs.lemmas.List.Sorted.{IsPermutation-middle, IsPermutation-cons, IsPermutation-append_left}
use Rattle.std.proofs.lemmas.List.Sorted.{IsPermutation-append_comm}
use Rattle.std.proofs.lemmas.Map.Keys.{IsDistinct-IsPermutation, IsDistinct-head}
use Rattle.list_change.proofs.Kept.{filter-right_one, permuted-filter}
use Rattle.list_change.proofs.Permute.{by-equation}
use Rattle.match_index.proofs.Counts.{any_count, count-permuted}
use Rattle.match_index.specs.Items.{has_id}
use Rattle.match_index.specs.declared.item.Item.{Item}
use Rattle.policy_meaning.specs.declared.rule.Rule.{Rule}
use Rattle.rule_ancestry.specs.Holding.{Held, id_of, is_other}
use Rattle.made_rules.proofs.Ids.{Rising, one-each}
use Rattle.rule_ancestry.proofs.StoreLemmas.{eq-same, eq-other}
use Rattle.std.proofs.lemmas.Bool.{cases_eq}
use Rattle.hop_rules.specs.Items.{IsNumbered}
use Rattle.hop_rules.proofs.Names.{is-same}
use Rattle.hop_rules.proofs.Numbered.{one-kept}

flips : (i j : ℕ) → (i == j) ≡ (j == i)
flips i j = elim (cases_eq j i) [
  | inl e ↦ eq-same i j e ∙ sym (eq-same j i (sym e))
  | inr n ↦ eq-other i j n ∙ sym (eq-other j i (λ e. n (sym e)))
]

-- ---- one is found, and leaves
module _ {X : Type 0} (p : X → Bool) where
  find-cond : (x : X) (o : Option X) (t : Bool) → p x ≡ t → (y : X) → (o ≡ Some y → p y ≡ true)
      → cond t (Some x) o ≡ Some y → p y ≡ true
  find-cond x o true e y f s = let z : x ≡ y = cc in subst (λ v. p v ≡ true) z e
  find-cond x o false e y f s = f s

  found-passes : (xs : List X) (y : X) → find p xs ≡ Some y → p y ≡ true
  found-passes [] y e = absurd (cc)
  found-passes (x ∷ xs) y e = find-cond x (find p xs) (p x) refl y (found-passes xs y) e

  none-cond : (x : X) (xs : List X) (o : Option X) (t : Bool) → (o ≡ None → filter (λ v. not (p v)) xs ≡ xs)
      → cond t (Some x) o ≡ None → cond (not t) (x ∷ filter (λ v. not (p v)) xs) (filter (λ v. not (p v)) xs) ≡ x ∷ xs
  none-cond x xs o true f s = absurd (cc)
  none-cond x xs o false f s = ap (λ z. x ∷ z) (f s)

  none-found : (xs : List X) → find p xs ≡ None → filter (λ v. not (p v)) xs ≡ xs
  none-found [] e = refl
  none-found (x ∷ xs) e = none-cond x xs (find p xs) (p x) (none-found xs) e

  pub any-permuted : (xs ys : List X) → IsPermutation xs ys → list_any p xs ≡ list_any p ys
  any-permuted xs ys h = any_count p xs ∙ ap (nat_lt 0) (sym (count-permuted p xs ys h)) ∙ sym (any_count p ys)

others-stay : (id : ℕ) (items : List Item) → AllByRecursion (λ j. (id == j) ≡ false) (map (λ (e : Item). e.id) items)
    → filter (λ e. not (has_id id e)) items ≡ items
others-stay id [] a = refl
others-stay id (e ∷ items) a =
    ap (λ t. cond (not t) (e ∷ filter (λ e. not (has_id id e)) items) (filter (λ e. not (has_id id e)) items)) a.0
    ∙ ap (λ z. e ∷ z) (others-stay id items a.1)

first-leaves : (id : ℕ) (y : Item) (rest : List Item) → has_id id y ≡ true
    → filter (λ e. not (has_id id e)) (y ∷ rest) ≡ filter (λ e. not (has_id id e)) rest
first-leaves id y rest e =
    ap (λ t. cond (not t) (y ∷ filter (λ e. not (has_id id e)) rest) (filter (λ e. not (has_id id e)) rest)) e

rest-items : (id : ℕ) (old new : List Item) (o : Option Item) → find (has_id id) old ≡ o
    → IsDistinct ◌==◌ (map (λ (e : Item). e.id) old) → IsPermutation old (option_to_list o ++ new)
    → IsPermutation (filter (λ e. not (has_id id e)) old) new
rest-items id old new None f d h = IsPermutation-trans _ old _ (by-equation _ _ (none-found (has_id id) old f)) h
rest-items id old new (Some y) f d h =
    let here : has_id id y ≡ true = found-passes (has_id id) old y f in
    let same : id ≡ y.id = is-same id y.id here in
    let all : IsDistinct ◌==◌ (map (λ (e : Item). e.id) (y ∷ new)) =
    IsDistinct-IsPermutation ◌==◌ flips _ _ (IsPermutation-map (λ (e : Item). e.id) old (y ∷ new) h) d in
    let apart : AllByRecursion (λ j. (y.id == j) ≡ false) (map (λ (e : Item). e.id) new) =
    IsDistinct-head ◌==◌ y.id (map (λ (e : Item). e.id) new) all in
    IsPermutation-trans _ (filter (λ e. not (has_id id e)) (y ∷ new)) _
    (permuted-filter (λ e. not (has_id id e)) old (y ∷ new) h)
    (by-equation _ _ (first-leaves id y new here
    ∙ others-stay id new (subst (λ k. AllByRecursion (λ j. (k == j) ≡ false) (map (λ (e : Item). e.id) new))
    (sym same) apart)))

-- the rules that are found without one
pub hidden : (id : ℕ) (old new : List Item) → IsDistinct ◌==◌ (map (λ (e : Item). e.id) old)
    → IsPermutation old (option_to_list (find (has_id id) old) ++ new) →
    (shown : Held Rule → Option Item) → IsNumbered shown → (rules : List (Held Rule))
    → IsPermutation old (filter_map shown rules) → IsPermutation new (filter_map shown (filter (is_other id) rules))
hidden id old new d h shown numbered rules k =
    IsPermutation-trans _ (filter (λ e. not (has_id id e)) old) _
    (IsPermutation-sym _ _ (rest-items id old new (find (has_id id) old) refl d h))
    (IsPermutation-trans _ (filter (λ e. not (has_id id e)) (filter_map shown rules)) _
    (permuted-filter (λ e. not (has_id id e)) old _ k)
    (by-equation _ _ (filter-right_one (λ e. not (has_id id e)) shown (is_other id)
    (λ h e s. ap not (flips id e.id ∙ ap (λ i. i == id) (numbered h e s))) rules)))

-- ---- one is shown
none-shown-by : (id : ℕ) (h : Held Rule) (o : Option Item) (rest : List Item) → ((e : Item) → o ≡ Some e → e.id ≡ h.id)
    → (id == h.id) ≡ false → list_any (has_id id) rest ≡ false → list_any (has_id id) (cons_option o rest) ≡ false
none-shown-by id h None rest n e f = f
none-shown-by id h (Some i) rest n e f = ap (λ k. (id == k) || list_any (has_id id) rest) (n i refl)
    ∙ ap (λ t. t || list_any (has_id id) rest) e ∙ f

none-shown : (shown : Held Rule → Option Item) → IsNumbered shown → (id : ℕ) (rules : List (Held Rule))
    → AllByRecursion (λ j. (id == j) ≡ false) (map id_of rules) → list_any (has_id id) (filter_map shown rules) ≡ false
none-shown shown n id [] a = refl
none-shown shown n id (h ∷ rules) a = none-shown-by id h (shown h) (filter_map shown rules) (n h) a.0
    (none-shown shown n id rules a.1)

around-one : {X : Type 0} (a b k : List X) (h : X) → IsPermutation ((a ++ h ∷ b) ++ k) (h ∷ (b ++ (k ++ a)))
around-one a b k h =
    IsPermutation-trans _ (a ++ (h ∷ (b ++ k))) _ (by-equation _ _ (append_assoc a (h ∷ b) k))
    (IsPermutation-trans _ (h ∷ (a ++ (b ++ k))) _ (IsPermutation-middle a h (b ++ k))
    (IsPermutation-cons h _ _
    (IsPermutation-trans _ ((b ++ k) ++ a) _ (IsPermutation-append_comm a (b ++ k))
    (by-equation _ _ (append_assoc b k a)))))

all-second : {A : Type 0} (P : A → Type 0) (xs ys : List A) → AllByRecursion P (xs ++ ys) → AllByRecursion P ys
all-second P [] ys a = a
all-second P (x ∷ xs) ys a = all-second P xs ys a.1

-- the next one, before all others
pub next-first : {R : Type 0} (rules coming kept : List (Held R)) (i : ℕ) (h : Held R)
    → IsPermutation rules (coming ++ kept) → coming ≡ take i coming ++ h ∷ drop (i + 1) coming
    → IsPermutation rules (h ∷ (drop (i + 1) coming ++ (kept ++ take i coming)))
next-first rules coming kept i h p e =
    IsPermutation-trans _ _ _ p
    (IsPermutation-trans _ ((take i coming ++ h ∷ drop (i + 1) coming) ++ kept) _
    (by-equation _ _ (ap (λ z. z ++ kept) e)) (around-one (take i coming) (drop (i + 1) coming) kept h))

module _ (shown : Held Rule → Option Item) (numbered : IsNumbered shown) where
  -- the next one isn't shown yet
  pub next-hidden : (rules coming kept : List (Held Rule)) (i : ℕ) (h : Held Rule) → Rising rules
      → IsPermutation rules (coming ++ kept) → coming ≡ take i coming ++ h ∷ drop (i + 1) coming →
      (items : List Item) → IsPermutation items (filter_map shown (kept ++ take i coming))
      → list_any (has_id h.id) items ≡ false
  next-hidden rules coming kept i h up p e items s =
      let rest = drop (i + 1) coming ++ (kept ++ take i coming) in
      let all : IsPermutation rules (h ∷ rest) = next-first rules coming kept i h p e in
      let apart = IsDistinct-head ◌==◌ h.id (map id_of rest) (one-each rules (h ∷ rest) up all) in
      any-permuted (has_id h.id) items _ s
      ∙ none-shown shown numbered h.id (kept ++ take i coming)
      (all-second (λ j. (h.id == j) ≡ false) (map id_of (drop (i + 1) coming)) (map id_of (kept ++ take i coming))
      (subst (AllByRecursion (λ j. (h.id == j) ≡ false))
      (map-append id_of (drop (i + 1) coming) (kept ++ take i coming)) apart))

  -- and then it is
  pub next-shown : (coming kept : List (Held Rule)) (i : ℕ) (h : Held Rule)
      → take (i + 1) coming ≡ take i coming ++ h ∷ [] →
      (items new : List Item) → IsPermutation items (filter_map shown (kept ++ take i coming))
      → new ≡ items ++ option_to_list (shown h) → IsPermutation new (filter_map shown (kept ++ take (i + 1) coming))
  next-shown coming kept i h t items new s e =
      IsPermutation-trans _ _ _ (by-equation _ _ e)
      (IsPermutation-trans _ (filter_map shown (kept ++ take i coming) ++ option_to_list (shown h)) _
      (IsPermutation-append_left (option_to_list (shown h)) _ _ s)
      (by-equation _ _ (ap (λ z. filter_map shown (kept ++ take i coming) ++ z) (sym (one-kept (shown h)))
      ∙ sym (filter_map-append shown (kept ++ take i coming) (h ∷ []))
      ∙ ap (filter_map shown) (append_assoc kept (take i coming) (h ∷ []) ∙ ap (λ z. kept ++ z) (sym t)))))
