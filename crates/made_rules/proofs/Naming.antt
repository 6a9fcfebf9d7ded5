-- The rules that are made of some origins.
use Rattle.std.proofs.Common.{◌≡◌, ◌==◌, ◌||◌, ◌&&◌, ◌⊎◌, inl, inr, ℕ, Bool, true, false, cond, List, [], ◌∷◌, ◌++◌}
use Rattle.std.proofs.Common.{length, get_or, take, map, refl, sym, ap, subst, ◌∙◌, eqb-true, arith, ◌<◌, ◌+◌}
use Rattle.std.specs.Prelude.{Contains, IsPermutation, IsSorted, filter}
use Rattle.std.specs.List.{AllByRecursion, dedup, list_any}
use Rattle.std.specs.List.Sorted.{IsStrictlySortedBy}
use Rattle.std.specs.Ordering.{eq_by_cmp, is_eq, nat_cmp, ordering_then}
use Rattle.std.specs.declared.cmp.Ordering.{Ordering}
use Rattle.std.specs.declared.cmp.Ordering.TheVariants.{Equal, Greater, Less}
use Rattle.std.specs.Cmp.{nat_cmp_is}
use Rattle.std.proofs.lemmas.Bool.{cases_order, or_cases}
use Rattle.std.proofs.lemmas.Cmp.{nat_cmp_total}
use Rattle.std.proofs.lemmas.List.Elements.{All-contains, All-contains_itself, All-from_recursion, recursion_from_All}
use Rattle.std.proofs.lemmas.List.Folds.{list_any-append, list_any_more}
use Rattle.std.proofs.lemmas.List.Kept.{Contains-dedup_nat, Contains-from_dedup, IsStrictlySortedBy-dedup}
use Rattle.std.proofs.lemmas.List.Sorted.{IsPermutation-sym}
use Rattle.policy_meaning.specs.LeafFact.{EachPair}
use Rattle.policy_meaning.proofs.Lists.{all-map}
use Rattle.policy_meaning.proofs.Rising.{all-permuted, unique}
use Rattle.rule_ancestry.specs.Holding.{Held, id_of}
use Rattle.rule_ancestry.proofs.StoreLemmas.{eq-other, eq-same}
use Rattle.made_rules.specs.Rules.{is_held_of, is_one_of, same_origin}
use Rattle.made_rules.specs.declared.made.Made.{Made}
use Rattle.made_rules.specs.contracts.made.OriginOrd.TheImpl.{ghosts as derived_origin}
use Rattle.made_rules.specs.declared.made.Origin.{Origin}
use Rattle.made_rules.specs.declared.made.Origin.TheVariants.{Leaf, Rule as OfRule}
use Rattle.made_rules.proofs.Ids.{Rising}

-- the id is one of these
abbrev pub is_in : ℕ → List ℕ → Bool
is_in k ids = list_any (λ j. k == j) ids

-- ---- one origin more
module _ {X : Type 0} where
  either-any : (p q r : X → Bool) → ((x : X) → r x ≡ (p x || q x)) → (xs : List X)
      → list_any r xs ≡ (list_any p xs || list_any q xs)
  either-any p q r h [] = refl
  either-any p q r h (x ∷ xs) = ap (λ b. b || list_any r xs) (h x) ∙ ap (λ b. (p x || q x) || b) (either-any p q r h xs)
      ∙ turned (p x) (q x) (list_any p xs) (list_any q xs)
    where
      turned : (a b c d : Bool) → ((a || b) || (c || d)) ≡ ((a || c) || (b || d))
      turned true b c d = refl
      turned false true true d = refl
      turned false true false d = refl
      turned false false c d = refl

more-origins : (origins : List Origin) (i : ℕ) (d : Origin) (h : Held Made) → i < length origins
    → is_held_of (take (i + 1) origins) h
    ≡ (is_held_of (take i origins) h || list_any (λ o. same_origin o (get_or origins i d)) h.item.origins)
more-origins origins i d h lt = either-any (is_one_of (take i origins)) (λ o. same_origin o (get_or origins i d))
    (is_one_of (take (i + 1) origins)) (λ o. list_any_more (same_origin o) origins i d lt) h.item.origins

module _ {R : Type 0} (p q r : Held R → Bool) (k : ℕ) where
  head : (a b : Bool) (id : ℕ) (ps qs rs : List ℕ) → (is_in k ps || is_in k qs) ≡ is_in k rs
      → (is_in k (cond a (id ∷ ps) ps) || is_in k (cond b (id ∷ qs) qs)) ≡ is_in k (cond (a || b) (id ∷ rs) rs)
  head true true id ps qs rs e = spread (k == id) (is_in k ps) (is_in k qs) ∙ ap (λ z. (k == id) || z) e
    where
      spread : (a b c : Bool) → ((a || b) || (a || c)) ≡ (a || (b || c))
      spread true b c = refl
      spread false b c = refl
  head true false id ps qs rs e = assoc (k == id) (is_in k ps) (is_in k qs) ∙ ap (λ z. (k == id) || z) e
    where
      assoc : (a b c : Bool) → ((a || b) || c) ≡ (a || (b || c))
      assoc true b c = refl
      assoc false b c = refl
  head false true id ps qs rs e = swap (is_in k ps) (k == id) (is_in k qs) ∙ ap (λ z. (k == id) || z) e
    where
      swap : (a b c : Bool) → (a || (b || c)) ≡ (b || (a || c))
      swap true true c = refl
      swap true false c = refl
      swap false b c = refl
  head false false id ps qs rs e = e

  in-map : (b : Bool) (h : Held R) (hs : List (Held R))
      → map id_of (cond b (h ∷ hs) hs) ≡ cond b (h.id ∷ map id_of hs) (map id_of hs)
  in-map true h hs = refl
  in-map false h hs = refl

  -- the ids of what passes either test
  either-ids : ((h : Held R) → r h ≡ (p h || q h)) → (hs : List (Held R))
      → (is_in k (map id_of (filter p hs)) || is_in k (map id_of (filter q hs))) ≡ is_in k (map id_of (filter r hs))
  either-ids e [] = refl
  either-ids e (h ∷ hs) =
      ap (λ z. is_in k z || is_in k (map id_of (filter q (h ∷ hs)))) (in-map (p h) h (filter p hs))
      ∙ ap (λ z. is_in k (cond (p h) (h.id ∷ map id_of (filter p hs)) (map id_of (filter p hs))) || is_in k z)
      (in-map (q h) h (filter q hs))
      ∙ head (p h) (q h) h.id (map id_of (filter p hs)) (map id_of (filter q hs)) (map id_of (filter r hs))
      (either-ids e hs)
      ∙ sym (ap (is_in k) (in-map (r h) h (filter r hs))
      ∙ ap (λ b. is_in k (cond b (h.id ∷ map id_of (filter r hs)) (map id_of (filter r hs)))) (e h))

-- the ids so far are those of what is made of the origins so far
abbrev pub AreMadeOf : List (Held Made) → List Origin → List ℕ → Type 0
AreMadeOf held origins ids = (k : ℕ) → is_in k ids ≡ is_in k (map id_of (filter (is_held_of origins) held))

none-made : (held : List (Held Made)) → filter (is_held_of []) held ≡ []
none-made [] = refl
none-made (h ∷ held) = ap (λ b. cond b (h ∷ filter (is_held_of []) held) (filter (is_held_of []) held))
    (never h.item.origins) ∙ none-made held
  where
    never : (os : List Origin) → list_any (is_one_of []) os ≡ false
    never [] = refl
    never (o ∷ os) = never os

pub made-none : (held : List (Held Made)) (ids : List ℕ) → ids ≡ [] → AreMadeOf held [] ids
made-none held ids e k = ap (is_in k) e ∙ sym (ap (λ z. is_in k (map id_of z)) (none-made held))

pub made-more : (held : List (Held Made)) (origins : List Origin) (i : ℕ) (d : Origin) (ids more ids' : List ℕ)
    (bears : Held Made → Bool) → i < length origins → AreMadeOf held (take i origins) ids →
    ((h : Held Made) → bears h ≡ list_any (λ o. same_origin o (get_or origins i d)) h.item.origins)
    → more ≡ map id_of (filter bears held) → ids' ≡ ids ++ more → AreMadeOf held (take (i + 1) origins) ids'
made-more held origins i d ids more ids' bears lt far are m e k =
    ap (is_in k) e ∙ list_any-append (λ j. k == j) ids more ∙ ap (λ b. b || is_in k more) (far k)
    ∙ ap (λ z. is_in k (map id_of (filter (is_held_of (take i origins)) held)) || is_in k z) m
    ∙ either-ids (is_held_of (take i origins)) bears (is_held_of (take (i + 1) origins)) k
    (λ h. more-origins origins i d h lt ∙ ap (λ b. is_held_of (take i origins) h || b) (sym (are h))) held

-- ---- one list of rising ids
module _ (P : ℕ → Type 0) where
  pick : (k x : ℕ) (xs : List ℕ) → (is_in k xs ≡ true → P k) → P x → ((k == x) ≡ true) ⊎ (is_in k xs ≡ true) → P k
  pick k x xs rest p (inl s) = subst P (sym (eqb-true k x s)) p
  pick k x xs rest p (inr t) = rest t

  from-in : (k : ℕ) (xs : List ℕ) → AllByRecursion P xs → is_in k xs ≡ true → P k
  from-in k [] a e = absurd (cc)
  from-in k (x ∷ xs) a e = pick k x xs (λ t. from-in k xs a.1 t) a.0 (or_cases (k == x) (is_in k xs) e)

  to-all : (ys : List ℕ) → ((k : ℕ) → is_in k ys ≡ true → P k) → (zs : List ℕ)
      → ((k : ℕ) → is_in k zs ≡ true → is_in k ys ≡ true) → AllByRecursion P zs
  to-all ys h [] i = tt
  to-all ys h (z ∷ zs) i = (
    h z (i z (ap (λ b. b || is_in z zs) (eq-same z z refl))),
    to-all ys h zs (λ k e. i k (or-later (k == z) (is_in k zs) e)),
  )
    where
      or-later : (a b : Bool) → b ≡ true → (a || b) ≡ true
      or-later true b e = refl
      or-later false b e = e

  moved-all : (xs ys : List ℕ) → ((k : ℕ) → is_in k xs ≡ is_in k ys) → AllByRecursion P xs → AllByRecursion P ys
  moved-all xs ys same a = to-all ys (λ k e. from-in k xs a (same k ∙ e)) ys (λ k e. e)

each-pair : (ids : List ℕ) → IsStrictlySortedBy nat_cmp ids → EachPair (λ x y. nat_cmp x y ≡ Less) ids
unfolding IsStrictlySortedBy
each-pair [] up = tt
each-pair (i ∷ ids) up = (up.0, each-pair ids up.1)

module _ (p : Held Made → Bool) where
  less-by : (i : ℕ) (b : Bool) (h : Held Made) (hs : List (Held Made)) → nat_cmp i h.id ≡ Less
      → AllByRecursion (λ j. nat_cmp i j ≡ Less) (map id_of hs)
      → AllByRecursion (λ j. nat_cmp i j ≡ Less) (map id_of (cond b (h ∷ hs) hs))
  less-by i true h hs l a = (l, a)
  less-by i false h hs l a = a

  less-kept : (i : ℕ) (hs : List (Held Made)) → AllByRecursion (λ j. nat_cmp i j ≡ Less) (map id_of hs)
      → AllByRecursion (λ j. nat_cmp i j ≡ Less) (map id_of (filter p hs))
  less-kept i [] a = tt
  less-kept i (h ∷ hs) a = less-by i (p h) h (filter p hs) a.0 (less-kept i hs a.1)

  rising-by : (b : Bool) (h : Held Made) (hs : List (Held Made))
      → AllByRecursion (λ j. nat_cmp h.id j ≡ Less) (map id_of hs) → Rising hs → Rising (cond b (h ∷ hs) hs)
  unfolding IsStrictlySortedBy
  rising-by true h hs a up = (a, up)
  rising-by false h hs a up = up

  rising-filter : (hs : List (Held Made)) → Rising hs → Rising (filter p hs)
  unfolding IsStrictlySortedBy
  rising-filter [] up = tt
  rising-filter (h ∷ hs) up = rising-by (p h) h (filter p hs) (less-kept h.id hs up.0) (rising-filter hs up.1)

ties : (x y : ℕ) → (x == y) ≡ eq_by_cmp nat_cmp x y
ties x y = elim (cases_order x y) [
  | inl e ↦ eq-same x y (sym e) ∙ ap is_eq (nat_cmp_is x y Equal e)
  | inr n ↦ elim n [
    | inl l ↦ eq-other x y (λ e. omega arith) ∙ ap is_eq (nat_cmp_is x y Less l)
    | inr g ↦ eq-other x y (λ e. omega arith) ∙ ap is_eq (nat_cmp_is x y Greater g)
  ]
]

module _ (P : ℕ → Type 0) (xs : List ℕ) where
  of-dedup : AllByRecursion P (dedup ◌==◌ xs) → AllByRecursion P xs
  of-dedup a =
      all-map (Contains xs) P xs
      (λ x c. All-contains P (dedup ◌==◌ xs) x (All-from_recursion P (dedup ◌==◌ xs) a) (Contains-dedup_nat xs x c))
      (recursion_from_All (Contains xs) xs (All-contains_itself xs))

  to-dedup : AllByRecursion P xs → AllByRecursion P (dedup ◌==◌ xs)
  to-dedup a =
      let ds = dedup ◌==◌ xs in
      all-map (Contains ds) P ds
      (λ x c. All-contains P xs x (All-from_recursion P xs a) (Contains-from_dedup ◌==◌ xs x c))
      (recursion_from_All (Contains ds) ds (All-contains_itself ds))

pub named-all : (held : List (Held Made)) (origins : List Origin) (ids sorted ids' : List ℕ) → Rising held
    → AreMadeOf held origins ids → IsPermutation ids sorted → IsSorted nat_cmp sorted → ids' ≡ dedup ◌==◌ sorted →
    ids' ≡ map id_of (filter (is_held_of origins) held)
named-all held origins ids sorted ids' up are p s e =
    let ys = map id_of (filter (is_held_of origins) held) in
    e ∙ unique nat_cmp nat_cmp_total (dedup ◌==◌ sorted) ys
    (each-pair (dedup ◌==◌ sorted) (IsStrictlySortedBy-dedup nat_cmp_total ties sorted s))
    (each-pair ys (rising-filter (is_held_of origins) held up))
    (λ P a. moved-all P ids ys are (all-permuted sorted ids (IsPermutation-sym ids sorted p) P (of-dedup P sorted a)))
    (λ P a. to-dedup P sorted (all-permuted ids sorted p P (moved-all P ys ids (λ k. sym (are k)) a)))

-- ---- which origins are the same
same-by : (a b : Ordering) (t u : Bool) → is_eq a ≡ t → is_eq b ≡ u → is_eq (ordering_then a b) ≡ (t && u)
same-by Less b t u e f = rw (← e) refl
same-by Greater b t u e f = rw (← e) refl
same-by Equal b t u e f = rw (← e) f

number-same : (x y : ℕ) → is_eq (nat_cmp x y) ≡ (x == y)
number-same x y = sym (ties x y)

origin-same : (a b : Origin) → is_eq (derived_origin.cmp a b) ≡ same_origin a b
origin-same (Leaf l) (Leaf m) = same-by (nat_cmp l.member m.member) (nat_cmp l.kind m.kind) (l.member == m.member)
    (l.kind == m.kind) (number-same l.member m.member) (number-same l.kind m.kind)
origin-same (OfRule s i) (OfRule t j) = same-by (nat_cmp s t) (nat_cmp i j) (s == t) (i == j) (number-same s t)
    (number-same i j)
origin-same (Leaf l) (OfRule t j) = refl
origin-same (OfRule s i) (Leaf m) = refl

pub bears-same : (o : Origin) (origins : List Origin)
    → list_any (λ n. is_eq (derived_origin.cmp n o)) origins ≡ list_any (λ n. same_origin n o) origins
bears-same o [] = refl
bears-same o (n ∷ origins) = ap (λ b. b || list_any (λ n. is_eq (derived_origin.cmp n o)) origins) (origin-same n o)
    ∙ ap (λ z. same_origin n o || z) (bears-same o origins)
