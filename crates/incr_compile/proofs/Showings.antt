-- What an index shows of an operand.
use Rattle.std.proofs.Common.{◌≡◌, ℕ, ◌+◌, ◌<◌, ◌==◌, Bool, true, false, not, cond, ◌||◌, ◌&&◌, List, [], ◌∷◌, ◌++◌}
use Rattle.std.proofs.Common.{Option, Some, None, length, get_or, take, drop, map, inl, inr, refl, sym, ap, subst}
use Rattle.std.proofs.Common.{◌∙◌, append_assoc}
use Rattle.std.specs.Prelude.{IsPermutation, filter, filter_map, find, option_map, option_to_list}
use Rattle.std.specs.List.{AllByRecursion, IsDistinct, list_any}
use Rattle.std.proofs.lemmas.Bool.{cases_eq}
use Rattle.std.proofs.lemmas.List.{drop_more, map-append, take_more}
use Rattle.std.proofs.lemmas.List.Elements.{filter_map-append}
use Rattle.std.proofs.lemmas.List.Sorted.{IsPermutation-append_comm, IsPermutation-append_right, IsPermutation-map}
use Rattle.std.proofs.lemmas.List.Sorted.{IsPermutation-sym, IsPermutation-trans}
use Rattle.std.proofs.lemmas.Map.Keys.{IsDistinct-IsPermutation, IsDistinct-head, IsDistinct-tail}
use Rattle.list_change.proofs.Kept.{filter-right_one, permuted-filter}
use Rattle.list_change.proofs.Permute.{by-equation, permuted-filter_map}
use Rattle.match_index.specs.Items.{has_id}
use Rattle.match_index.specs.declared.item.Item.{Item}
use Rattle.of10_match.specs.Fields.{MatchOf}
use Rattle.policy_meaning.proofs.Lists.{all-append, all-filter_map, all-map, all-mapped}
use Rattle.policy_meaning.proofs.Rising.{all-permuted}
use Rattle.policy_meaning.specs.declared.rule.Rule.{Rule}
use Rattle.rule_ancestry.specs.Holding.{Held, id_of, is_outside, item_at}
use Rattle.rule_ancestry.proofs.StoreLemmas.{eq-other, eq-same}
use Rattle.made_rules.specs.Changing.{ChangeOf, IsReady, settled, was_of, wide_of}
use Rattle.made_rules.specs.Rules.{rule_held, rule_under, rules_in}
use Rattle.made_rules.specs.declared.made.Made.{Made}
use Rattle.made_rules.proofs.Changes.{olds-more, second-front}
use Rattle.made_rules.proofs.Ids.{OneEach, Rising, one-each}
use Rattle.incr_compile.specs.Candidates.{item_for, shown}
use Rattle.incr_compile.specs.Showing.{AreClear, is_clear_of, rule_at}
use Rattle.incr_compile.proofs.Whole.{settled-rules}

flips : (i j : ℕ) → (i == j) ≡ (j == i)
flips i j = elim (cases_eq j i) [
  | inl e ↦ eq-same i j e ∙ sym (eq-same j i (sym e))
  | inr n ↦ eq-other i j n ∙ sym (eq-other j i (λ e. n (sym e)))
]

or-false : (a : Bool) → (a || false) ≡ a
or-false true = refl
or-false false = refl

or-first : (a b : Bool) → (a || b) ≡ false → a ≡ false
or-first true b e = e
or-first false b e = refl

or-second : (a b : Bool) → (a || b) ≡ false → b ≡ false
or-second true b e = absurd (cc)
or-second false b e = e

or-both : (a b : Bool) → a ≡ false → b ≡ false → (a || b) ≡ false
or-both true b e f = e
or-both false b e f = f

-- ---- an id is shown no longer
found-passes : {X : Type 0} (p : X → Bool) (xs : List X) (x : X) → find p xs ≡ Some x → p x ≡ true
found-passes p [] x e = absurd (cc)
found-passes p (y ∷ xs) x e = by (p y) refl (found-passes p xs x) e
  where
    by : (b : Bool) → p y ≡ b → (find p xs ≡ Some x → p x ≡ true) → cond b (Some y) (find p xs) ≡ Some x → p x ≡ true
    by true h more f = let s : y ≡ x = cc in subst (λ z. p z ≡ true) s h
    by false h more f = more f

none-passes : {X : Type 0} (p : X → Bool) (xs : List X) → find p xs ≡ None → AllByRecursion (λ x. p x ≡ false) xs
none-passes p [] e = tt
none-passes p (y ∷ xs) e = by (p y) refl (none-passes p xs) e
  where
    by : (b : Bool) → p y ≡ b → (find p xs ≡ None → AllByRecursion (λ x. p x ≡ false) xs)
        → cond b (Some y) (find p xs) ≡ None → AllByRecursion (λ x. p x ≡ false) (y ∷ xs)
    by true h more f = absurd (cc)
    by false h more f = (h, more f)

clear-kept : (ids : List ℕ) (items : List Item) → AreClear ids items → filter (is_clear_of ids) items ≡ items
clear-kept ids [] a = refl
clear-kept ids (e ∷ items) a =
    ap (λ b. cond (not b) (e ∷ filter (is_clear_of ids) items) (filter (is_clear_of ids) items)) a.0
    ∙ ap (λ z. e ∷ z) (clear-kept ids items a.1)

of-one : (id : ℕ) (items : List Item) → AllByRecursion (λ (e : Item). has_id id e ≡ false) items
    → AreClear (id ∷ []) items
of-one id items a =
    all-map (λ (e : Item). has_id id e ≡ false) (λ (e : Item). list_any (λ j. e.id == j) (id ∷ []) ≡ false) items
    (λ e h. or-false (e.id == id) ∙ flips e.id id ∙ h) a

unmapped : (id : ℕ) (items : List Item) → AllByRecursion (λ j. (id == j) ≡ false) (map (λ (e : Item). e.id) items)
    → AllByRecursion (λ (e : Item). has_id id e ≡ false) items
unmapped id [] a = tt
unmapped id (e ∷ items) a = (a.0, unmapped id items a.1)

other-ids : (id : ℕ) (x : Item) (old new : List Item) → has_id id x ≡ true
    → IsDistinct ◌==◌ (map (λ (e : Item). e.id) old) → IsPermutation old (x ∷ new)
    → AllByRecursion (λ (e : Item). has_id id e ≡ false) new
other-ids id x old new h d p =
    let one : IsDistinct ◌==◌ (x.id ∷ map (λ (e : Item). e.id) new) =
    IsDistinct-IsPermutation ◌==◌ flips _ _ (IsPermutation-map (λ (e : Item). e.id) old (x ∷ new) p) d in
    let same : id ≡ x.id = elim (cases_eq x.id id) [
      | inl e ↦ sym e
      | inr n ↦ absurd (let z : false ≡ true = sym (eq-other id x.id n) ∙ h in cc)
    ] in
    unmapped id new (subst (λ (j : ℕ). AllByRecursion (λ k. (j == k) ≡ false) (map (λ (e : Item). e.id) new)) (sym same)
    (IsDistinct-head ◌==◌ x.id (map (λ (e : Item). e.id) new) one))

hidden-by : (id : ℕ) (o : Option Item) (old new : List Item) → find (has_id id) old ≡ o
    → IsDistinct ◌==◌ (map (λ (e : Item). e.id) old) → IsPermutation old (option_to_list o ++ new) →
    IsPermutation new (filter (is_clear_of (id ∷ [])) old)
hidden-by id None old new f d p = IsPermutation-trans _ _ _ (IsPermutation-sym _ _ p)
    (by-equation _ _ (sym (clear-kept (id ∷ []) old (of-one id old (none-passes (has_id id) old f)))))
hidden-by id (Some x) old new f d p =
    let passes = found-passes (has_id id) old x f in
    let here : list_any (λ j. x.id == j) (id ∷ []) ≡ true = or-false (x.id == id) ∙ flips x.id id ∙ passes in
    IsPermutation-sym _ _
    (IsPermutation-trans _ _ _ (permuted-filter (is_clear_of (id ∷ [])) old (x ∷ new) p)
    (by-equation _ _
    (ap (λ b. cond (not b) (x ∷ filter (is_clear_of (id ∷ [])) new) (filter (is_clear_of (id ∷ [])) new)) here
    ∙ clear-kept (id ∷ []) new (of-one id new (other-ids id x old new passes d p)))))

pub hidden-one : (id : ℕ) (old new : List Item) → IsDistinct ◌==◌ (map (λ (e : Item). e.id) old)
    → IsPermutation old (option_to_list (find (has_id id) old) ++ new)
    → IsPermutation new (filter (is_clear_of (id ∷ [])) old)
hidden-one id old new d p = hidden-by id (find (has_id id) old) old new refl d p

-- ---- several ids are
pub hidden-none : (items : List Item) → IsPermutation items (filter (is_clear_of []) items)
hidden-none items = by-equation _ _ (sym (clear-kept [] items (all items)))
  where
    all : (xs : List Item) → AreClear [] xs
    all [] = tt
    all (x ∷ xs) = (refl, all xs)

any-append : (p : ℕ → Bool) (xs ys : List ℕ) → list_any p (xs ++ ys) ≡ (list_any p ys || list_any p xs)
any-append p [] ys = sym (or-false (list_any p ys))
any-append p (x ∷ xs) ys = ap (λ z. p x || z) (any-append p xs ys) ∙ swapped (p x) (list_any p ys) (list_any p xs)
  where
    swapped : (a b c : Bool) → (a || (b || c)) ≡ (b || (a || c))
    swapped true true c = refl
    swapped true false c = refl
    swapped false true c = refl
    swapped false false c = refl

two-tests : {X : Type 0} (p q r : X → Bool) → ((x : X) → r x ≡ (p x && q x)) → (xs : List X)
    → filter q (filter p xs) ≡ filter r xs
two-tests p q r e [] = refl
two-tests p q r e (x ∷ xs) =
    by (p x) ∙ ap (λ z. cond (p x && q x) (x ∷ z) z) (two-tests p q r e xs)
    ∙ ap (λ b. cond b (x ∷ filter r xs) (filter r xs)) (sym (e x))
  where
    by : (b : Bool) → filter q (cond b (x ∷ filter p xs) (filter p xs))
        ≡ cond (b && q x) (x ∷ filter q (filter p xs)) (filter q (filter p xs))
    by true = refl
    by false = refl

not-or : (a b : Bool) → not (b || a) ≡ (not a && not b)
not-or true true = refl
not-or true false = refl
not-or false true = refl
not-or false false = refl

hidden-twice : (ids more : List ℕ) (items : List Item)
    → filter (is_clear_of more) (filter (is_clear_of ids) items) ≡ filter (is_clear_of (ids ++ more)) items
hidden-twice ids more items =
    two-tests (is_clear_of ids) (is_clear_of more) (is_clear_of (ids ++ more))
    (λ e. ap not (any-append (λ j. e.id == j) ids more)
    ∙ not-or (list_any (λ j. e.id == j) ids) (list_any (λ j. e.id == j) more)) items

pub hidden-more : (ids : List ℕ) (i d id : ℕ) (base old new : List Item) → i < length ids → id ≡ get_or ids i d
    → IsPermutation old (filter (is_clear_of (take i ids)) base)
    → IsPermutation new (filter (is_clear_of (id ∷ [])) old) →
    IsPermutation new (filter (is_clear_of (take (i + 1) ids)) base)
hidden-more ids i d id base old new lt is far now =
    IsPermutation-trans _ _ _ now
    (IsPermutation-trans _ _ _ (permuted-filter (is_clear_of (id ∷ [])) old _ far)
    (by-equation _ _ (hidden-twice (take i ids) (id ∷ []) base
    ∙ ap (λ (j : ℕ). filter (is_clear_of (take i ids ++ j ∷ [])) base) is
    ∙ ap (λ z. filter (is_clear_of z) base) (sym (take_more ids i d lt)))))

-- ---- ids that are shown anew
pub clear-new : (ids : List ℕ) (i d id : ℕ) (items : List Item) → i < length ids → id ≡ get_or ids i d
    → AreClear (drop i ids) items → list_any (has_id id) items ≡ false
clear-new ids i d id items lt is a = subst (λ (j : ℕ). list_any (has_id j) items ≡ false) (sym is)
    (none items (subst (λ z. AreClear z items) (drop_more ids i d lt) a))
  where
    none : (xs : List Item) → AreClear (get_or ids i d ∷ drop (i + 1) ids) xs
        → list_any (has_id (get_or ids i d)) xs ≡ false
    none [] c = refl
    none (x ∷ xs) c = or-both _ _ (flips (get_or ids i d) x.id ∙ or-first (x.id == get_or ids i d) _ c.0) (none xs c.1)

none-any : (p : ℕ → Bool) (ids : List ℕ) → AllByRecursion (λ j. p j ≡ false) ids → list_any p ids ≡ false
none-any p [] a = refl
none-any p (j ∷ ids) a = or-both (p j) (list_any p ids) a.0 (none-any p ids a.1)

module _ (by : Rule → Option MatchOf) where
  one-shown : (h : Held Rule) (e : Item) → shown by h ≡ Some e → e.id ≡ h.id
  one-shown h e s = at (by h.item) s
    where
      at : (o : Option MatchOf) → option_map (item_for h.id) o ≡ Some e → e.id ≡ h.id
      at None f = absurd (cc)
      at (Some m) f = let z : item_for h.id m ≡ e = cc in ap (λ (x : Item). x.id) (sym z)

  rule-shown : (id : ℕ) (held : List (Held Made))
      → AllByRecursion (λ (e : Item). e.id ≡ id) (filter_map (shown by) (rule_at held id))
  rule-shown id held = at (item_at held id)
    where
      at : (o : Option Made)
          → AllByRecursion (λ (e : Item). e.id ≡ id)
          (filter_map (shown by) (option_to_list (option_map (rule_under id) o)))
      at None = tt
      at (Some m) = all-filter_map (λ (h : Held Rule). h.id ≡ id) (λ (e : Item). e.id ≡ id) (shown by)
          (rule_under id m ∷ []) (λ h e s q. one-shown h e s ∙ q) (refl, tt)

  pub clear-more : (ids : List ℕ) (i d id : ℕ) (held : List (Held Made)) (old new : List Item) → i < length ids
      → id ≡ get_or ids i d → AreClear (drop i ids) old → IsDistinct ◌==◌ (drop i ids) →
      new ≡ old ++ filter_map (shown by) (rule_at held id) → AreClear (drop (i + 1) ids) new
  clear-more ids i d id held old new lt is a once e =
      let rest = drop (i + 1) ids in
      let cut = drop_more ids i d lt in
      let one : IsDistinct ◌==◌ (get_or ids i d ∷ rest) = subst (λ z. IsDistinct ◌==◌ z) cut once in
      let fresh : list_any (λ j. id == j) rest ≡ false =
      subst (λ (k : ℕ). list_any (λ j. k == j) rest ≡ false) (sym is)
      (none-any (λ j. get_or ids i d == j) rest (IsDistinct-head ◌==◌ (get_or ids i d) rest one)) in
      subst (λ z. AreClear rest z) (sym e)
      (all-append (λ (x : Item). list_any (λ j. x.id == j) rest ≡ false) old _
      (all-map (λ (x : Item). list_any (λ j. x.id == j) (get_or ids i d ∷ rest) ≡ false)
      (λ (x : Item). list_any (λ j. x.id == j) rest ≡ false) old (λ x c. or-second (x.id == get_or ids i d) _ c)
      (subst (λ z. AreClear z old) cut a))
      (all-map (λ (x : Item). x.id ≡ id) (λ (x : Item). list_any (λ j. x.id == j) rest ≡ false) _
      (λ x q. subst (λ (k : ℕ). list_any (λ j. k == j) rest ≡ false) (sym q) fresh) (rule-shown id held)))

  pub shown-more : (store items rest : List (Held Made)) (ids : List ℕ) (i d id : ℕ) (base old new : List Item)
      → Rising store → map id_of items ≡ ids → IsPermutation store (items ++ rest) → i < length ids
      → id ≡ get_or ids i d →
      old ≡ base ++ filter_map (shown by) (rules_in (take i items))
      → new ≡ old ++ filter_map (shown by) (rule_at store id)
      → new ≡ base ++ filter_map (shown by) (rules_in (take (i + 1) items))
  shown-more store items rest ids i d id base old new up are p lt is far now =
      let f = filter_map (shown by) in
      now ∙ ap (λ z. z ++ f (rule_at store id)) far
      ∙ append_assoc base (f (rules_in (take i items))) (f (rule_at store id))
      ∙ ap (λ z. base ++ z) (sym (filter_map-append (shown by) (rules_in (take i items)) (rule_at store id))
      ∙ ap f (ap (λ (j : ℕ). rules_in (take i items) ++ rule_at store j) is
      ∙ olds-more store items rest ids i d up are p lt (rules_in (take i items)) _ _ refl refl refl))

pub once-more : (ids : List ℕ) (i d : ℕ) → i < length ids → IsDistinct ◌==◌ (drop i ids)
    → IsDistinct ◌==◌ (drop (i + 1) ids)
once-more ids i d lt once = IsDistinct-tail ◌==◌ (get_or ids i d) (drop (i + 1) ids)
    (subst (λ z. IsDistinct ◌==◌ z) (drop_more ids i d lt) once)

-- ---- a change is shown
all-filter : {X : Type 0} (P : X → Type 0) (q : X → Bool) (xs : List X) → AllByRecursion P xs
    → AllByRecursion P (filter q xs)
all-filter P q [] a = tt
all-filter P q (x ∷ xs) a = at (q x) (all-filter P q xs a.1)
  where
    at : (b : Bool) → AllByRecursion P (filter q xs) → AllByRecursion P (cond b (x ∷ filter q xs) (filter q xs))
    at true more = (a.0, more)
    at false more = more

heads : {X : Type 0} (P : X → Type 0) (us vs : List X) → AllByRecursion P (us ++ vs) → AllByRecursion P us
heads P [] vs a = tt
heads P (u ∷ us) vs a = (a.0, heads P us vs a.1)

first-distinct : (us vs : List ℕ) → IsDistinct ◌==◌ (us ++ vs) → IsDistinct ◌==◌ us
unfolding IsDistinct
first-distinct [] vs d = tt
first-distinct (u ∷ us) vs d = (heads (λ y. (u == y) ≡ false) us vs d.0, first-distinct us vs d.1)

one-first : {R : Type 0} (xs ys : List (Held R)) → OneEach (xs ++ ys) → OneEach xs
one-first xs ys d = first-distinct (map id_of xs) (map id_of ys)
    (subst (λ z. IsDistinct ◌==◌ z) (map-append id_of xs ys) d)

-- ids of the second part are none of the first's
apart-ids : {R : Type 0} (xs ys : List (Held R)) → OneEach (xs ++ ys)
    → AllByRecursion (λ (h : Held R). list_any (λ j. h.id == j) (map id_of xs) ≡ false) ys
apart-ids {R} [] ys d = none ys
  where
    none : (hs : List (Held R)) → AllByRecursion (λ (h : Held R). list_any (λ j. h.id == j) [] ≡ false) hs
    none [] = tt
    none (h ∷ hs) = (refl, none hs)
apart-ids {R} (x ∷ xs) ys d =
    let head = IsDistinct-head ◌==◌ x.id (map id_of (xs ++ ys)) d in
    both ys (later xs head) (apart-ids xs ys (IsDistinct-tail ◌==◌ x.id (map id_of (xs ++ ys)) d))
  where
    unheld : (hs : List (Held R)) → AllByRecursion (λ j. (x.id == j) ≡ false) (map id_of hs)
        → AllByRecursion (λ (h : Held R). (h.id == x.id) ≡ false) hs
    unheld [] a = tt
    unheld (h ∷ hs) a = (flips h.id x.id ∙ a.0, unheld hs a.1)

    later : (zs : List (Held R)) → AllByRecursion (λ j. (x.id == j) ≡ false) (map id_of (zs ++ ys))
        → AllByRecursion (λ (h : Held R). (h.id == x.id) ≡ false) ys
    later [] a = unheld ys a
    later (z ∷ zs) a = later zs a.1

    both : (hs : List (Held R)) → AllByRecursion (λ (h : Held R). (h.id == x.id) ≡ false) hs
        → AllByRecursion (λ (h : Held R). list_any (λ j. h.id == j) (map id_of xs) ≡ false) hs →
        AllByRecursion (λ (h : Held R). list_any (λ j. h.id == j) (x.id ∷ map id_of xs) ≡ false) hs
    both [] a b = tt
    both (h ∷ hs) a b = (or-both (h.id == x.id) (list_any (λ j. h.id == j) (map id_of xs)) a.0 b.0, both hs a.1 b.1)

-- the ids of rules that stay, as they were and as they are until then
stay-ids : (P : ℕ → Type 0) (stays : List _) → AllByRecursion (λ (h : Held Made). P h.id) (map wide_of stays)
    → AllByRecursion (λ (h : Held Made). P h.id) (map was_of stays)
stay-ids P [] a = tt
stay-ids P (s ∷ stays) a = (a.0, stay-ids P stays a.1)

part : {X : Type 0} (P : X → Type 0) (xs ys : List X) → AllByRecursion P (xs ++ ys)
    → AllByRecursion P xs × AllByRecursion P ys
part P [] ys a = (tt, a)
part P (x ∷ xs) ys a = let r = part P xs ys a.1 in ((a.0, r.0), r.1)

module _ (before now : List (Held Made)) (lost : List ℕ) (fresh : List Made) (change : ChangeOf)
    (r : IsReady before now lost fresh change) (up : Rising now) where
  abbrev rest : List (Held Made)
  rest = (r.kept ++ r.going) ++ map wide_of change.stays

  pub coming-first : IsPermutation now (r.coming ++ rest)
  coming-first = IsPermutation-trans _ _ _ r.is (second-front r.kept r.coming r.going (map wide_of change.stays))

  one-now : OneEach (r.coming ++ rest)
  one-now = one-each now (r.coming ++ rest) up coming-first

  pub coming-once : IsDistinct ◌==◌ change.come
  coming-once = subst (λ z. IsDistinct ◌==◌ z) r.come (one-first r.coming rest one-now)

  -- none of the ids that come is one of the rules before
  pub coming-new : AllByRecursion (λ (h : Held Made). list_any (λ j. h.id == j) change.come ≡ false) before
  coming-new =
      let P : ℕ → Type 0 = λ i. list_any (λ j. i == j) change.come ≡ false in
      let a : AllByRecursion (λ (h : Held Made). P h.id) rest =
      subst (λ z. AllByRecursion (λ (h : Held Made). list_any (λ j. h.id == j) z ≡ false) rest) r.come
      (apart-ids r.coming rest one-now) in
      let t = part (λ (h : Held Made). P h.id) (r.kept ++ r.going) (map wide_of change.stays) a in
      all-permuted _ _ (IsPermutation-sym _ _ r.was) (λ (h : Held Made). P h.id)
      (all-append (λ (h : Held Made). P h.id) (r.kept ++ r.going) (map was_of change.stays) t.0
      (stay-ids P change.stays t.1))

  module _ (by : Rule → Option MatchOf) (old hidden : List Item)
      (p : IsPermutation old (filter_map (shown by) (rules_in before)))
      (h : IsPermutation hidden (filter (is_clear_of change.gone) old)) where
    -- nothing that comes is shown yet
    pub clear-hidden : AreClear change.come hidden
    clear-hidden =
        let P : ℕ → Type 0 = λ i. list_any (λ j. i == j) change.come ≡ false in
        let rules : AllByRecursion (λ (h : Held Rule). P h.id) (rules_in before) =
        all-mapped (λ (h : Held Made). P h.id) (λ (h : Held Rule). P h.id) rule_held before (λ h q. q) coming-new in
        let items : AllByRecursion (λ (e : Item). P e.id) (filter_map (shown by) (rules_in before)) =
        all-filter_map (λ (h : Held Rule). P h.id) (λ (e : Item). P e.id) (shown by) (rules_in before)
        (λ x e s q. subst P (sym (one-shown by x e s)) q) rules in
        all-permuted _ hidden (IsPermutation-sym _ _ h) (λ (e : Item). P e.id)
        (all-filter (λ (e : Item). P e.id) (is_clear_of change.gone) old
        (all-permuted _ old (IsPermutation-sym _ _ p) (λ (e : Item). P e.id) items))

    filter-shown : (ids : List ℕ) (hs : List (Held Rule))
        → filter (is_clear_of ids) (filter_map (shown by) hs) ≡ filter_map (shown by) (filter (is_outside ids) hs)
    filter-shown ids hs = filter-right_one (is_clear_of ids) (shown by) (is_outside ids)
        (λ x e s. ap (λ (i : ℕ). not (list_any (λ j. i == j) ids)) (one-shown by x e s)) hs

    pub change-shown : (new : List Item) → new ≡ hidden ++ filter_map (shown by) (rules_in r.coming)
        → IsPermutation new (filter_map (shown by) (rules_in (settled r)))
    change-shown new e =
        let f = filter_map (shown by) in
        let kept : IsPermutation hidden (f (filter (is_outside change.gone) (rules_in before))) =
        IsPermutation-trans _ _ _ h
        (IsPermutation-trans _ _ _ (permuted-filter (is_clear_of change.gone) old _ p)
        (by-equation _ _ (filter-shown change.gone (rules_in before)))) in
        IsPermutation-trans _ _ _ (by-equation _ _ e)
        (IsPermutation-trans _ _ _ (IsPermutation-append_comm hidden (f (rules_in r.coming)))
        (IsPermutation-trans _ _ _ (IsPermutation-append_right (f (rules_in r.coming)) _ _ kept)
        (IsPermutation-trans _ _ _
        (by-equation _ _
        (sym (filter_map-append (shown by) (rules_in r.coming)
        (filter (is_outside change.gone) (rules_in before)))))
        (permuted-filter_map (shown by) _ _ (IsPermutation-sym _ _ (settled-rules before now lost fresh change r))))))
