-- The last rules of two rising lists, taken one at a time.
use Rattle.std.proofs.Common.{◌≡◌, ℕ, ◌+◌, ◌-◌, ◌<◌, ◌≤◌, ◌==◌, eqb-true, true, false, List, [], ◌∷◌, ◌++◌, ◌⊎◌, inl}
use Rattle.std.proofs.Common.{inr, length, get_or, map, refl, subst, sym, ap, ◌∙◌, arith, append_assoc}
use Rattle.std.specs.Prelude.{Contains, IsPermutation, IsSortedBy}
use Rattle.std.specs.List.{remove}
use Rattle.std.specs.Ordering.{is_lt, ordering_reverse}
use Rattle.std.specs.declared.cmp.Ordering.{Ordering}
use Rattle.std.specs.declared.cmp.Ordering.TheVariants.{Less, Equal, Greater}
use Rattle.std.specs.Cmp.{IsStrictWeakOrder}
use Rattle.std.proofs.lemmas.Bool.{cases_lt}
use Rattle.std.proofs.Math.Seq.{get_or-append_seam}
use Rattle.std.proofs.lemmas.Grind.{common_steps}
use Rattle.std.proofs.lemmas.List.{get_or_append_left, get_or_default, length-append, map-append, append-nil}
use Rattle.std.proofs.lemmas.List.Edits.{length-remove, get_or-remove_below, get_or-remove_above}
use Rattle.std.proofs.lemmas.List.Elements.{Contains-append_cases, Contains-append_left, Contains-append_right}
use Rattle.std.proofs.lemmas.List.Elements.{Contains-get_or, Contains-push, Contains-push_cases}
use Rattle.std.proofs.lemmas.List.Sorted.{ranks_by, sorted_far, Contains-permutation, IsPermutation-append_comm}
use Rattle.std.proofs.lemmas.List.Sorted.{IsPermutation-append_left, IsPermutation-append_right, IsPermutation-remove}
use Rattle.std.proofs.lemmas.List.Sorted.{IsPermutation-sym, IsPermutation-trans}
use Rattle.list_change.proofs.Permute.{by-equation}
use Rattle.rule_ancestry.specs.Holding.{Held}
use Rattle.policy_meaning.specs.Order.{by_ancestry}
use Rattle.policy_meaning.specs.declared.rule.Rule.{Rule}
use Rattle.policy_meaning.proofs.Ordered.{by_ancestry_total}
use Rattle.made_rules.specs.declared.made.Made.{Made}
use Rattle.made_rules.specs.declared.parting.Both.{Both}
use Rattle.made_rules.specs.Parting.{AreApart, Differ, IsParted, IsToldApart, MadesRise, OldsRise, is_of, was_of}

either : {P Q R : Type 0} → P ⊎ Q → (P → R) → (Q → R) → R
either (inl p) f g = f p
either (inr q) f g = g q

-- ---- lists that rise
module _ {X : Type 0} (key : X → Rule) where
  abbrev Rises : List X → Type 0
  Rises xs = IsSortedBy (λ x y. is_lt (by_ancestry (key x) (key y))) xs

  pub weak : IsStrictWeakOrder (λ x y. is_lt (by_ancestry (key x) (key y)))
  weak = ranks_by by_ancestry_total key

  far : (xs : List X) (i j : ℕ) (d : X) → Rises xs → i ≤ j → j < length xs
      → is_lt (by_ancestry (key (get_or xs j d)) (key (get_or xs i d))) ≡ false
  far xs i j d up low high = sorted_far (λ x y. is_lt (by_ancestry (key x) (key y))) weak xs up i j d low high

  length-more : (xs : List X) (x : X) → length (xs ++ x ∷ []) ≡ length xs + 1
  length-more xs x = length-append xs (x ∷ [])

  shorter : (xs : List X) (x : X) → Rises (xs ++ x ∷ []) → Rises xs
  shorter xs x up k d low high =
      let l = length-more xs x in
      let step = up k d low (omega arith) in
      subst (λ z. is_lt (by_ancestry (key z) (key (get_or xs k d))) ≡ false)
      (get_or_append_left xs (x ∷ []) d (k + 1) high)
      (subst (λ z. is_lt (by_ancestry (key (get_or (xs ++ x ∷ []) (k + 1) d)) (key z)) ≡ false)
      (get_or_append_left xs (x ∷ []) d k (omega arith)) step)

  -- none is above the last
  below-last : (xs : List X) (x z : X) → Rises (xs ++ x ∷ []) → Contains (xs ++ x ∷ []) z
      → is_lt (by_ancestry (key x) (key z)) ≡ false
  below-last xs x z up (k, below, e) =
      let l = length-more xs x in
      let step = far (xs ++ x ∷ []) k (length xs) z up (omega arith) (omega arith) in
      subst (λ y. is_lt (by_ancestry (key x) (key y)) ≡ false) e
      (subst (λ y. is_lt (by_ancestry (key y) (key (get_or (xs ++ x ∷ []) k z))) ≡ false) (get_or-append_seam xs x [] z)
      step)

  -- one less
  removed-at : (xs : List X) (p k : ℕ) (d : X) → Rises xs → p < length xs → k + 1 < length (remove xs p)
      → (k + 1 < p) ⊎ (p ≤ k + 1) → (k < p) ⊎ (p ≤ k) →
      is_lt (by_ancestry (key (get_or (remove xs p) (k + 1) d)) (key (get_or (remove xs p) k d))) ≡ false
  removed-at xs p k d up lt high (inl a) (inl b) =
      let n = length-remove xs p lt in
      rw (get_or-remove_below xs p d (k + 1) a lt, get_or-remove_below xs p d k b lt)
      (far xs k (k + 1) d up (omega arith) (omega arith))
  removed-at xs p k d up lt high (inr a) (inl b) =
      let n = length-remove xs p lt in
      rw (get_or-remove_above xs p d (k + 1) a lt, get_or-remove_below xs p d k b lt)
      (far xs k (k + 1 + 1) d up (omega arith) (omega arith))
  removed-at xs p k d up lt high (inr a) (inr b) =
      let n = length-remove xs p lt in
      rw (get_or-remove_above xs p d (k + 1) a lt, get_or-remove_above xs p d k b lt)
      (far xs (k + 1) (k + 1 + 1) d up (omega arith) (omega arith))
  removed-at xs p k d up lt high (inl a) (inr b) = absurd (omega arith)

  pub removed-rises : (xs : List X) (p : ℕ) → Rises xs → p < length xs → Rises (remove xs p)
  removed-rises xs p up lt k d low high = removed-at xs p k d up lt high (cases_lt (k + 1) p) (cases_lt k p)

module _ {X : Type 0} where
  -- the last of the left, behind what is told apart
  moved : (left rest m : List X) (x : X)
      → IsPermutation ((left ++ x ∷ []) ++ (rest ++ m)) (left ++ ((rest ++ x ∷ []) ++ m))
  moved left rest m x =
      IsPermutation-trans _ (left ++ (((x ∷ []) ++ rest) ++ m)) _
      (by-equation _ _ (append_assoc left (x ∷ []) (rest ++ m)))
      (IsPermutation-append_right left _ _
      (IsPermutation-append_left m ((x ∷ []) ++ rest) (rest ++ x ∷ []) (IsPermutation-append_comm (x ∷ []) rest)))

  -- one in front, at the end of all
  moved-last : (left rest m : List X) (x : X)
      → IsPermutation ((x ∷ left) ++ (rest ++ m)) (left ++ (rest ++ (m ++ x ∷ [])))
  moved-last left rest m x =
      IsPermutation-trans _ ((left ++ (rest ++ m)) ++ x ∷ []) _
      (IsPermutation-append_comm (x ∷ []) (left ++ (rest ++ m)))
      (by-equation _ _ (append_assoc left (rest ++ m) (x ∷ []) ∙ ap (λ z. left ++ z) (append_assoc rest m (x ∷ []))))

  -- the last one goes in front
  turned-last : (left m : List X) (x : X) → IsPermutation ((left ++ x ∷ []) ++ m) ((x ∷ left) ++ m)
  turned-last left m x = IsPermutation-append_left m (left ++ x ∷ []) (x ∷ left)
      (IsPermutation-append_comm left (x ∷ []))

  pub more-apart : (P : X → Type 0) (xs : List X) (x : X) → ((z : X) → Contains xs z → P z) → P x → (z : X)
      → Contains (xs ++ x ∷ []) z → P z
  more-apart P xs x h p z c = either (Contains-push_cases xs x z c) (λ i. h z i) (λ e. subst P e p)

  none-in : (l : List X) (a : X) → l ≡ [] → Contains l a → ⊥
  none-in l a e (k, below, f) = absurd (omega (arith, ap (λ (l : List X). length l) e))

-- ---- which rules differ
greater-differs : (x y z : Rule) → by_ancestry x y ≡ Greater → is_lt (by_ancestry y z) ≡ false → x ≡ z → ⊥
greater-differs x y z g low e =
    let back : by_ancestry z y ≡ Greater = ap (λ r. by_ancestry r y) (sym e) ∙ g in
    let less : by_ancestry y z ≡ Less = by_ancestry_total.antisymm y z ∙ ap ordering_reverse back in
    let is : true ≡ false = sym (ap is_lt less) ∙ low in
    absurd (cc)

-- what is listed below one that is listed below a rule differs from the rule
pub less-differs : (x y z : Rule) → by_ancestry x z ≡ Less → is_lt (by_ancestry x y) ≡ false → y ≡ z → ⊥
less-differs x y z l low e =
    let less : by_ancestry x y ≡ Less = ap (by_ancestry x) e ∙ l in
    let is : true ≡ false = sym (ap is_lt less) ∙ low in
    absurd (cc)

abbrev held_key : Held Rule → Rule
held_key h = h.item

abbrev made_key : Made → Rule
made_key m = m.rule

module _ (gone : List (Held Rule)) (come : List Made) where
  -- the last of the left is above all of the right
  pub gone-taken : (left rest left' rest' : List (Held Rule)) (right right' others : List Made) (both : List Both)
      (x : Held Rule) (y : Made) →
      left ≡ left' ++ x ∷ [] → right ≡ right' ++ y ∷ [] → rest' ≡ rest ++ x ∷ [] → by_ancestry x.item y.rule ≡ Greater →
      IsParted gone come left right rest others both → IsParted gone come left' right rest' others both
  gone-taken left rest left' rest' right right' others both x y e f g above p = rw g (record {
    was = IsPermutation-trans _ _ _ (subst (λ l. IsPermutation gone (l ++ (rest ++ map was_of both))) e p.was)
        (moved left' rest (map was_of both) x);
    is = p.is;
    left_rises = shorter held_key left' x (subst OldsRise e p.left_rises);
    right_rises = p.right_rises;
    rest_apart = λ h m i j. more-apart (λ h. h.item ≡ m.rule
        → ⊥) rest x (λ h i. p.rest_apart h m i j) (apart-last m j) h i;
    others_apart = λ h m i j. p.others_apart h m
        (subst (λ l. Contains l h) (sym e) (Contains-append_left left' (x ∷ []) h i)) j;
  })
    where
      low : (m : Made) → Contains right m → is_lt (by_ancestry y.rule m.rule) ≡ false
      low m j = below-last made_key right' y m (subst MadesRise f p.right_rises) (subst (λ l. Contains l m) f j)

      apart-last : (m : Made) → Contains (right ++ others) m → x.item ≡ m.rule → ⊥
      apart-last m j = either (Contains-append_cases right others m j)
          (λ k. greater-differs x.item y.rule m.rule above (low m k))
          (λ k. p.others_apart x m (subst (λ l. Contains l x) (sym e) (Contains-push left' x)) k)

  again : (right right' others : List Made) (y m : Made) → right ≡ right' ++ y ∷ [] → Contains (right' ++ others) m
      → Contains (right ++ others) m
  again right right' others y m e j = either (Contains-append_cases right' others m j)
      (λ k. Contains-append_left right others m
      (subst (λ l. Contains l m) (sym e) (Contains-append_left right' (y ∷ []) m k)))
      (λ k. Contains-append_right right others m k)

  -- the last of the right is none of the left
  pub come-taken : (left rest : List (Held Rule)) (right right' others others' : List Made) (both : List Both)
      (y : Made) →
      right ≡ right' ++ y ∷ [] → others' ≡ others ++ y ∷ [] → Differ left y.rule →
      IsParted gone come left right rest others both → IsParted gone come left right' rest others' both
  come-taken left rest right right' others others' both y e f d p = rw f (record {
    was = p.was;
    is = IsPermutation-trans _ _ _ (subst (λ l. IsPermutation come (l ++ (others ++ map is_of both))) e p.is)
        (moved right' others (map is_of both) y);
    left_rises = p.left_rises;
    right_rises = shorter made_key right' y (subst MadesRise e p.right_rises);
    rest_apart = λ h m i j. p.rest_apart h m i (moved-in m j);
    others_apart = λ h m i j. more-apart (λ m. h.item ≡ m.rule
        → ⊥) others y (λ m k. p.others_apart h m i k) (d h i) m j;
  })
    where
      moved-in : (m : Made) → Contains (right' ++ (others ++ y ∷ [])) m → Contains (right ++ others) m
      moved-in m j = either (Contains-append_cases right' (others ++ y ∷ []) m j)
          (λ k. again right right' others y m e (Contains-append_left right' others m k))
          (λ k. either (Contains-push_cases others y m k) (λ i. Contains-append_right right others m i)
          (λ s. Contains-append_left right others m
          (subst (λ l. Contains l m) (sym e)
          (subst (λ z. Contains (right' ++ y ∷ []) z) s (Contains-push right' y)))))

  -- the last of the right is one of the left
  pub both-taken : (left rest left' : List (Held Rule)) (right right' others : List Made) (both both' : List Both)
      (y : Made) (x : Held Rule) (place : ℕ) →
      right ≡ right' ++ y ∷ [] → place < length left → x ≡ get_or left place x → left' ≡ remove left place
      → x.item ≡ y.rule → both' ≡ both ++ (record { id = x.id; made = y }) ∷ [] →
      IsParted gone come left right rest others both → IsParted gone come left' right' rest others both'
  both-taken left rest left' right right' others both both' y x place e lt at f same g p = rw (f, g) (record {
    was = subst (λ m. IsPermutation gone (remove left place ++ (rest ++ m)))
        (sym (map-append was_of both ((record { id = x.id; made = y }) ∷ [])))
        (subst
        (λ (r : Rule). IsPermutation gone
        (remove left place ++ (rest ++ (map was_of both ++ record { id = x.id; item = r } ∷ [])))) same
        (IsPermutation-trans _ _ _ p.was
        (IsPermutation-trans _ _ _
        (IsPermutation-append_left (rest ++ map was_of both) left (x ∷ remove left place)
        (IsPermutation-remove left place x lt at))
        (moved-last (remove left place) rest (map was_of both) x))));
    is = subst (λ m. IsPermutation come (right' ++ (others ++ m)))
        (sym (map-append is_of both ((record { id = x.id; made = y }) ∷ [])))
        (IsPermutation-trans _ _ _ (subst (λ l. IsPermutation come (l ++ (others ++ map is_of both))) e p.is)
        (IsPermutation-trans _ _ _ (turned-last right' (others ++ map is_of both) y)
        (moved-last right' others (map is_of both) y)));
    left_rises = removed-rises held_key left place p.left_rises lt;
    right_rises = shorter made_key right' y (subst MadesRise e p.right_rises);
    rest_apart = λ h m i j. p.rest_apart h m i (again right right' others y m e j);
    others_apart = λ h m i j. p.others_apart h m (still h i) j;
  })
    where
      still : (h : Held Rule) → Contains (remove left place) h → Contains left h
      still h i = Contains-permutation (x ∷ remove left place) left h
          (IsPermutation-sym _ _ (IsPermutation-remove left place x lt at))
          (Contains-append_right (x ∷ []) (remove left place) h i)

  -- nothing is told apart yet
  pub none-parted : (left rest : List (Held Rule)) (right others : List Made) (both : List Both) → rest ≡ []
      → others ≡ [] → both ≡ [] → IsPermutation gone left →
      IsPermutation come right → OldsRise left → MadesRise right → IsParted gone come left right rest others both
  none-parted left rest right others both r o b g c up rise = rw (r, o, b) (record {
    was = IsPermutation-trans _ left _ g (by-equation _ _ (sym (append-nil left)));
    is = IsPermutation-trans _ right _ c (by-equation _ _ (sym (append-nil right)));
    left_rises = up;
    right_rises = rise;
    rest_apart = λ h m (k, below, e) j. absurd (omega arith);
    others_apart = λ h m i (k, below, e). absurd (omega arith);
  })

  -- one list has nothing left to be told apart
  pub all-parted : (left rest rest' : List (Held Rule)) (right others others' : List Made) (both : List Both)
      → (left ≡ []) ⊎ (right ≡ []) →
      rest' ≡ rest ++ left → others' ≡ others ++ right → IsParted gone come left right rest others both
      → IsToldApart gone come rest' others' both
  all-parted left rest rest' right others others' both z e f p = rw (e, f) (record {
    was = IsPermutation-trans _ _ _ p.was (turned left rest (map was_of both));
    is = IsPermutation-trans _ _ _ p.is (turned right others (map is_of both));
    apart = λ h m i j. either (Contains-append_cases rest left h i)
        (λ k. p.rest_apart h m k
        (either (Contains-append_cases others right m j) (λ a. Contains-append_right right others m a)
        (λ a. Contains-append_left right others m a)))
        (λ k. either (Contains-append_cases others right m j) (λ a. p.others_apart h m k a) (λ a. empty h m k a));
  })
    where
      turned : {X : Type 0} (l r m : List X) → IsPermutation (l ++ (r ++ m)) ((r ++ l) ++ m)
      turned l r m = IsPermutation-trans _ ((l ++ r) ++ m) _ (by-equation _ _ (sym (append_assoc l r m)))
          (IsPermutation-append_left m (l ++ r) (r ++ l) (IsPermutation-append_comm l r))

      empty : (h : Held Rule) (m : Made) → Contains left h → Contains right m → h.item ≡ m.rule → ⊥
      empty h m i j s = either z (λ e. none-in left h e i) (λ e. none-in right m e j)

-- ---- the search for a rule from the end
abbrev pub DifferFrom : List (Held Rule) → ℕ → Rule → Type 0
DifferFrom olds end rule = (k : ℕ) (d : Held Rule) → end ≤ k → k < length olds → (get_or olds k d).item ≡ rule → ⊥

-- what is listed below all that were looked at
pub differ-below : (olds : List (Held Rule)) (end : ℕ) (rule : Rule) (x : Held Rule) → end < length olds
    → x ≡ get_or olds end x → by_ancestry x.item rule ≡ Less → OldsRise olds → DifferFrom olds (end + 1) rule
    → Differ olds rule
differ-below olds end rule x lt at less up from h (k, below, e) same = either (cases_lt end k)
    (λ high. from k h (omega arith) below (ap held_key e ∙ same))
    (λ low.
    let z = get_or olds k h in
    let step = far held_key olds k end h up low lt in
    let is : get_or olds end h ≡ x = sym (at ∙ get_or_default olds end x h lt) in
    less-differs x.item z.item rule less (subst (λ (w : Held Rule). is_lt (by_ancestry w.item z.item) ≡ false) is step)
    (ap held_key e ∙ same))

-- ---- the last of a list
record Last {X : Type 0} (xs : List X) : Type 0 where
  before : List X
  last : X
  is : xs ≡ before ++ last ∷ []

last-of : {X : Type 0} (xs : List X) → 0 < length xs → Last xs
last-of [] lt = absurd (omega arith)
last-of (x ∷ []) lt = record { before = []; last = x; is = refl }
last-of (x ∷ y ∷ xs) lt = let r = last-of (y ∷ xs) (grind (arith, common_steps)) in
    record { before = x ∷ r.before; last = r.last; is = ap (λ z. x ∷ z) r.is }

last-is : {X : Type 0} (xs ys : List X) (x d : X) → xs ≡ ys ++ x ∷ [] → get_or xs (length xs - 1) d ≡ x
last-is xs ys x d e =
    let more = length-append ys (x ∷ []) in
    rw e (subst (λ (n : ℕ). get_or (ys ++ x ∷ []) n d ≡ x) {x = length ys} {y = length (ys ++ x ∷ []) - 1} (omega arith)
    (get_or-append_seam ys x [] d))

-- the last of the left is above the last of the right
pub gone-last : (gone : List (Held Rule)) (come : List Made) (left rest left' rest' ls : List (Held Rule))
    (right others rs : List Made) (both : List Both) (x : Held Rule) (r : Ordering) → ls ≡ left → rs ≡ right →
    ((p : Held Rule) (q : Made) → r ≡ by_ancestry (get_or ls (length ls - 1) p).item (get_or rs (length rs - 1) q).rule)
    → 0 < length right → left ≡ left' ++ x ∷ [] → rest' ≡ rest ++ x ∷ [] → r ≡ Greater →
    IsParted gone come left right rest others both → IsParted gone come left' right rest' others both
gone-last gone come left rest left' rest' ls right others rs both x r l-is r-is compared some e g above p =
    let y = last-of right some in
    gone-taken gone come left rest left' rest' right y.before others both x y.last e y.is g
    (sym (compared x y.last
    ∙ ap (λ (z : Held Rule). by_ancestry z.item (get_or rs (length rs - 1) y.last).rule)
    (last-is ls left' x x (l-is ∙ e))
    ∙ ap (λ (z : Made). by_ancestry x.item z.rule) (last-is rs y.before y.last y.last (r-is ∙ y.is))) ∙ above) p

-- a list of no length has no item
pub one-empty : {X : Type 0} (xs : List X) (n : ℕ) → n ≡ length xs → (n == 0) ≡ true → xs ≡ []
one-empty [] n k e = refl
one-empty (x ∷ xs) n k e = absurd (omega (arith, k, eqb-true n 0 e))
