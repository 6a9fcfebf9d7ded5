-- The greatest items of two rising lists, taken one at a time.
use Rattle.std.proofs.Common.{◌≡◌, ℕ, ◌+◌, ◌-◌, ◌<◌, ◌==◌, Bool, true, false, List, [], ◌∷◌, ◌++◌, length, get_or, map}
use Rattle.std.proofs.Common.{Contains, IsPermutation, IsSortedBy, ◌⊎◌, inl, inr, eqb-true, refl, subst, sym, ap, ◌∙◌}
use Rattle.std.proofs.Common.{arith, append_assoc}
use Rattle.std.specs.Cmp.{IsTotalOrder, IsStrictWeakOrder}
use Rattle.std.specs.Ordering.{is_lt, ordering_reverse}
use Rattle.std.specs.declared.cmp.Ordering.{Ordering}
use Rattle.std.specs.declared.cmp.Ordering.TheVariants.{Less, Equal, Greater}
use Rattle.std.proofs.Math.Seq.{get_or-append_seam}
use Rattle.std.proofs.lemmas.List.{get_or_append_left, get_or_default, length-append, map-append, append-nil}
use Rattle.std.proofs.lemmas.List.Elements.{Contains-append_cases, Contains-append_left, Contains-append_right}
use Rattle.std.proofs.lemmas.List.Sorted.{sorted_far, ranks_by, IsPermutation-trans, IsPermutation-append_left}
use Rattle.std.proofs.lemmas.List.Sorted.{IsPermutation-append_right, IsPermutation-append_comm}
use Rattle.list_change.specs.declared.netting.Place.{Place}
use Rattle.list_change.specs.declared.netting.Both.{Both}
use Rattle.list_change.specs.Netting.{Differ, IsNet, IsParted, is_of, was_of}
use Rattle.list_change.proofs.Permute.{by-equation}

either : {P Q R : Type 0} → P ⊎ Q → (P → R) → (Q → R) → R
either (inl p) f g = f p
either (inr q) f g = g q

module _ {X : Type 0} where
  -- the last of the left, at the end of what is before m
  moved : (left rest m : List X) (x : X)
      → IsPermutation ((left ++ x ∷ []) ++ (rest ++ m)) (left ++ ((rest ++ x ∷ []) ++ m))
  moved left rest m x =
      IsPermutation-trans _ (left ++ (((x ∷ []) ++ rest) ++ m)) _
      (by-equation _ _ (append_assoc left (x ∷ []) (rest ++ m)))
      (IsPermutation-append_right left _ _
      (IsPermutation-append_left m ((x ∷ []) ++ rest) (rest ++ x ∷ []) (IsPermutation-append_comm (x ∷ []) rest)))

  -- the last of the left, at the end of all
  moved-last : (left rest m : List X) (x : X)
      → IsPermutation ((left ++ x ∷ []) ++ (rest ++ m)) (left ++ (rest ++ (m ++ x ∷ [])))
  moved-last left rest m x =
      IsPermutation-trans _ (left ++ ((x ∷ []) ++ (rest ++ m))) _
      (by-equation _ _ (append_assoc left (x ∷ []) (rest ++ m)))
      (IsPermutation-append_right left _ _
      (IsPermutation-trans _ ((rest ++ m) ++ x ∷ []) _ (IsPermutation-append_comm (x ∷ []) (rest ++ m))
      (by-equation _ _ (append_assoc rest m (x ∷ [])))))

  in-more : (P : X → Type 0) (xs : List X) (x : X) → ((z : X) → Contains xs z → P z) → P x → (z : X)
      → Contains (xs ++ x ∷ []) z → P z
  in-more P xs x h p z (k, lt, e) = either (Contains-append_cases xs (x ∷ []) z (k, lt, e)) (λ i. h z i)
      (λ i. subst P (only i) p)
    where
      only : Contains (x ∷ []) z → x ≡ z
      only (k, lt, e) = subst (λ (n : ℕ). get_or (x ∷ []) n z ≡ z) {x = k} {y = 0} (omega arith) e

module _ {T : Type 0} {cmp : T → T → Ordering} (total : IsTotalOrder cmp) where
  abbrev pub lt : Place T → Place T → Bool
  lt x y = is_lt (cmp x.item y.item)

  pub weak : IsStrictWeakOrder lt
  weak = ranks_by total (λ (x : Place T). x.item)

  shorter : (xs : List (Place T)) (x : Place T) → IsSortedBy lt (xs ++ x ∷ []) → IsSortedBy lt xs
  shorter xs x up k d low high =
      let far = up k d low (omega (arith, length-more)) in
      subst (λ z. lt z (get_or xs k d) ≡ false) (get_or_append_left xs (x ∷ []) d (k + 1) high)
      (subst (λ z. lt (get_or (xs ++ x ∷ []) (k + 1) d) z ≡ false) (get_or_append_left xs (x ∷ []) d k (omega arith))
      far)
    where
      length-more : length (xs ++ x ∷ []) ≡ length xs + 1
      length-more = length-append _ (x ∷ [])

  last-above : (xs : List (Place T)) (x z : Place T) → IsSortedBy lt (xs ++ x ∷ []) → Contains xs z → lt x z ≡ false
  last-above xs x z up (k, below, e) =
      let far = sorted_far lt weak (xs ++ x ∷ []) up k (length xs) z (omega arith) (omega (arith, length-more)) in
      subst (λ (y : Place T). lt x y ≡ false) (get_or_append_left xs (x ∷ []) z k below ∙ e)
      (subst (λ (y : Place T). lt y (get_or (xs ++ x ∷ []) k z) ≡ false) (get_or-append_seam xs x [] z) far)
    where
      length-more : length (xs ++ x ∷ []) ≡ length xs + 1
      length-more = length-append _ (x ∷ [])

  greater-differs : (x y z : Place T) → cmp x.item y.item ≡ Greater → lt y z ≡ false → Differ cmp x z
  greater-differs x y z g low e =
      let back : cmp z.item y.item ≡ Greater = sym (total.congr x.item z.item y.item e) ∙ g in
      let less : cmp y.item z.item ≡ Less = total.antisymm y.item z.item ∙ ap ordering_reverse back in
      let is : true ≡ false = sym (ap is_lt less) ∙ low in
      absurd (cc)

  less-differs : (x y z : Place T) → cmp x.item y.item ≡ Less → lt x z ≡ false → Differ cmp z y
  less-differs x y z g low e =
      let turned : cmp y.item x.item ≡ Greater = total.antisymm y.item x.item ∙ ap ordering_reverse g in
      let back : cmp z.item x.item ≡ Greater = total.congr z.item y.item x.item e ∙ turned in
      let less : cmp x.item z.item ≡ Less = total.antisymm x.item z.item ∙ ap ordering_reverse back in
      let is : true ≡ false = sym (ap is_lt less) ∙ low in
      absurd (cc)

  module _ (gone come : List (Place T)) where
    -- the greatest is of the left
    pub gone-parted : (left right rest others left' rest' : List (Place T)) (both : List (Both T)) (x : Place T)
        → left ≡ left' ++ x ∷ [] →
        rest' ≡ rest ++ x ∷ [] → ((z : Place T) → Contains right z → Differ cmp x z)
        → IsParted cmp gone come left right rest others both →
        IsParted cmp gone come left' right rest' others both
    gone-parted left right rest others left' rest' both x e f d p = rw f (record {
      was = IsPermutation-trans _ _ _ (subst (λ l. IsPermutation gone (l ++ (rest ++ map (was_of cmp) both))) e p.was)
          (moved left' rest (map (was_of cmp) both) x);
      is = p.is;
      equal = p.equal;
      left_rises = shorter left' x (subst (IsSortedBy lt) e p.left_rises);
      right_rises = p.right_rises;
      rest_apart = λ a b i j. in-more (λ a. Differ cmp a b) rest x (λ a i. p.rest_apart a b i j)
          (either (Contains-append_cases right others b j) (λ k. d b k)
          (λ k. p.others_apart x b
          (subst (λ l. Contains l x) (sym e) (Contains-append_right left' (x ∷ []) x (0, omega arith, refl))) k)) a
          i;
      others_apart = λ a b i j. p.others_apart a b
          (subst (λ l. Contains l a) (sym e) (Contains-append_left left' (x ∷ []) a i)) j;
    })

    -- the greatest is of the right
    pub come-parted : (left right rest others right' others' : List (Place T)) (both : List (Both T)) (y : Place T)
        → right ≡ right' ++ y ∷ [] →
        others' ≡ others ++ y ∷ [] → ((z : Place T) → Contains left z → Differ cmp z y)
        → IsParted cmp gone come left right rest others both →
        IsParted cmp gone come left right' rest others' both
    come-parted left right rest others right' others' both y e f d p = rw f (record {
      was = p.was;
      is = IsPermutation-trans _ _ _ (subst (λ l. IsPermutation come (l ++ (others ++ map (is_of cmp) both))) e p.is)
          (moved right' others (map (is_of cmp) both) y);
      equal = p.equal;
      left_rises = p.left_rises;
      right_rises = shorter right' y (subst (IsSortedBy lt) e p.right_rises);
      rest_apart = λ a b i j. p.rest_apart a b i (again b j);
      others_apart = λ a b i j. in-more (λ b. Differ cmp a b) others y (λ b k. p.others_apart a b i k) (d a i) b j;
    })
      where
        again : (b : Place T) → Contains (right' ++ (others ++ y ∷ [])) b → Contains (right ++ others) b
        again b j = either (Contains-append_cases right' (others ++ y ∷ []) b j)
            (λ k. Contains-append_left right others b
            (subst (λ l. Contains l b) (sym e) (Contains-append_left right' (y ∷ []) b k)))
            (λ k. either (Contains-append_cases others (y ∷ []) b k) (λ m. Contains-append_right right others b m)
            (λ m. Contains-append_left right others b
            (subst (λ l. Contains l b) (sym e) (Contains-append_right right' (y ∷ []) b m))))

    -- the greatest are equal
    pub both-parted : (left right rest others left' right' : List (Place T)) (both both' : List (Both T))
        (x y : Place T) → left ≡ left' ++ x ∷ [] →
        right ≡ right' ++ y ∷ [] → both' ≡ both ++ (record { was = x; is = y }) ∷ [] → cmp x.item y.item ≡ Equal →
        IsParted cmp gone come left right rest others both → IsParted cmp gone come left' right' rest others both'
    both-parted left right rest others left' right' both both' x y e f g h p = rw g (record {
      was = subst (λ m. IsPermutation gone (left' ++ (rest ++ m)))
          (sym (map-append (was_of cmp) both ((record { was = x; is = y }) ∷ [])))
          (IsPermutation-trans _ _ _ (subst (λ l. IsPermutation gone (l ++ (rest ++ map (was_of cmp) both))) e p.was)
          (moved-last left' rest (map (was_of cmp) both) x));
      is = subst (λ m. IsPermutation come (right' ++ (others ++ m)))
          (sym (map-append (is_of cmp) both ((record { was = x; is = y }) ∷ [])))
          (IsPermutation-trans _ _ _ (subst (λ l. IsPermutation come (l ++ (others ++ map (is_of cmp) both))) f p.is)
          (moved-last right' others (map (is_of cmp) both) y));
      equal = in-more (λ (b : Both T). cmp b.was.item b.is.item ≡ Equal) both (record { was = x; is = y }) p.equal h;
      left_rises = shorter left' x (subst (IsSortedBy lt) e p.left_rises);
      right_rises = shorter right' y (subst (IsSortedBy lt) f p.right_rises);
      rest_apart = λ a b i j. p.rest_apart a b i
          (either (Contains-append_cases right' others b j)
          (λ k. Contains-append_left right others b
          (subst (λ l. Contains l b) (sym f) (Contains-append_left right' (y ∷ []) b k)))
          (λ k. Contains-append_right right others b k));
      others_apart = λ a b i j. p.others_apart a b
          (subst (λ l. Contains l a) (sym e) (Contains-append_left left' (x ∷ []) a i)) j;
    })

    -- nothing is told apart yet
    pub none-parted : (left right rest others : List (Place T)) (both : List (Both T)) → rest ≡ [] → others ≡ []
        → both ≡ [] → IsPermutation gone left →
        IsPermutation come right → IsSortedBy lt left → IsSortedBy lt right
        → IsParted cmp gone come left right rest others both
    none-parted left right rest others both r o b g c up rise = rw (r, o, b) (record {
      was = IsPermutation-trans _ left _ g (by-equation _ _ (sym (append-nil left)));
      is = IsPermutation-trans _ right _ c (by-equation _ _ (sym (append-nil right)));
      equal = λ b (k, below, e). absurd (omega arith);
      left_rises = up;
      right_rises = rise;
      rest_apart = λ x y (k, below, e) j. absurd (omega arith);
      others_apart = λ x y i (k, below, e). absurd (omega arith);
    })

    -- one list has nothing left to be told apart
    pub all-parted : (left right rest others rest' others' : List (Place T)) (both : List (Both T))
        → (left ≡ []) ⊎ (right ≡ []) →
        rest' ≡ rest ++ left → others' ≡ others ++ right → IsParted cmp gone come left right rest others both →
        IsNet cmp gone come rest' others' both
    all-parted left right rest others rest' others' both z e f p = rw (e, f) (record {
      was = IsPermutation-trans _ _ _ p.was (turned left rest (map (was_of cmp) both));
      is = IsPermutation-trans _ _ _ p.is (turned right others (map (is_of cmp) both));
      equal = p.equal;
      apart = λ a b i j. either (Contains-append_cases rest left a i)
          (λ k. p.rest_apart a b k
          (either (Contains-append_cases others right b j) (λ m. Contains-append_right right others b m)
          (λ m. Contains-append_left right others b m)))
          (λ k. either (Contains-append_cases others right b j) (λ m. p.others_apart a b k m) (λ m. empty a b k m));
    })
      where
        turned : (l r m : List (Place T)) → IsPermutation (l ++ (r ++ m)) ((r ++ l) ++ m)
        turned l r m = IsPermutation-trans _ ((l ++ r) ++ m) _ (by-equation _ _ (sym (append_assoc l r m)))
            (IsPermutation-append_left m (l ++ r) (r ++ l) (IsPermutation-append_comm l r))

        none : (l : List (Place T)) (a : Place T) → l ≡ [] → Contains l a → ⊥
        none l a e (k, below, f) = absurd (omega (arith, ap (λ (l : List (Place T)). length l) e))

        empty : (a b : Place T) → Contains left a → Contains right b → Differ cmp a b
        empty a b i j h = either z (λ e. none left a e i) (λ e. none right b e j)

module _ {X : Type 0} where
  last-is : (xs ys : List X) (x d : X) → xs ≡ ys ++ x ∷ [] → get_or xs (length xs - 1) d ≡ x
  last-is xs ys x d e =
      rw e (subst (λ (n : ℕ). get_or (ys ++ x ∷ []) n d ≡ x) (omega (arith, length-more))
      (get_or-append_seam ys x [] d))
    where
      length-more : length (ys ++ x ∷ []) ≡ length ys + 1
      length-more = length-append _ (x ∷ [])

  more-than-none : (xs ys : List X) (x : X) → xs ≡ ys ++ x ∷ [] → 0 < length xs
  more-than-none xs ys x e = rw e (omega (arith, length-more))
    where
      length-more : length (ys ++ x ∷ []) ≡ length ys + 1
      length-more = length-append _ (x ∷ [])

module _ {T : Type 0} {cmp : T → T → Ordering} (total : IsTotalOrder cmp) where
  -- none is above the last
  below-last : (xs : List (Place T)) (y z : Place T) → (0 < length xs)
      → ((d : Place T) → get_or xs (length xs - 1) d ≡ y) → IsSortedBy (lt total) xs → Contains xs z
      → lt total y z ≡ false
  below-last xs y z some is up (k, below, e) =
      subst (λ (a : Place T). lt total y a ≡ false) e
      (subst (λ (a : Place T). lt total a (get_or xs k z) ≡ false) (is z)
      (sorted_far (lt total) (weak total) xs up k (length xs - 1) z (omega arith) (omega arith)))

  module _ (gone come ls rs left right rest others : List (Place T)) (both : List (Both T)) (r : Ordering)
      (l-is : ls ≡ left) (r-is : rs ≡ right) (compared : (p q : Place T)
      → r ≡ cmp (get_or ls (length ls - 1) p).item (get_or rs (length rs - 1) q).item) where
    at-last : (x y : Place T) → ((d : Place T) → get_or left (length left - 1) d ≡ x)
        → ((d : Place T) → get_or right (length right - 1) d ≡ y) → cmp x.item y.item ≡ r
    at-last x y f g =
        sym (subst (λ (z : List (Place T)). r ≡ cmp (get_or left (length left - 1) x).item
        (get_or z (length z - 1) y).item) r-is
        (subst (λ (z : List (Place T)). r ≡ cmp (get_or z (length z - 1) x).item (get_or rs (length rs - 1) y).item)
        l-is (compared x y))
        ∙ (ap (λ (z : Place T). cmp z.item (get_or right (length right - 1) y).item) (f x)
        ∙ ap (λ (z : Place T). cmp x.item z.item) (g y)))

    pub gone-taken : (left' rest' : List (Place T)) (x : Place T) → 0 < length right → left ≡ left' ++ x ∷ []
        → rest' ≡ rest ++ x ∷ [] → r ≡ Greater →
        IsParted cmp gone come left right rest others both → IsParted cmp gone come left' right rest' others both
    gone-taken left' rest' x some e f is p =
        let y = get_or right (length right - 1) x in
        let last : (d : Place T) → get_or right (length right - 1) d ≡ y =
        λ d. get_or_default right (length right - 1) d x (omega arith) in
        gone-parted total gone come left right rest others left' rest' both x e f
        (λ z i. greater-differs total x y z (at-last x y (λ d. last-is left left' x d e) last ∙ is)
        (below-last right y z some last p.right_rises i)) p

    pub come-taken : (right' others' : List (Place T)) (y : Place T) → 0 < length left → right ≡ right' ++ y ∷ []
        → others' ≡ others ++ y ∷ [] → r ≡ Less →
        IsParted cmp gone come left right rest others both → IsParted cmp gone come left right' rest others' both
    come-taken right' others' y some e f is p =
        let x = get_or left (length left - 1) y in
        let last : (d : Place T) → get_or left (length left - 1) d ≡ x =
        λ d. get_or_default left (length left - 1) d y (omega arith) in
        come-parted total gone come left right rest others right' others' both y e f
        (λ z i. less-differs total x y z (at-last x y last (λ d. last-is right right' y d e) ∙ is)
        (below-last left x z some last p.left_rises i)) p

    pub both-taken : (left' right' : List (Place T)) (both' : List (Both T)) (x y : Place T) → left ≡ left' ++ x ∷ []
        → right ≡ right' ++ y ∷ [] →
        both' ≡ both ++ (record { was = x; is = y }) ∷ [] → r ≡ Equal →
        IsParted cmp gone come left right rest others both → IsParted cmp gone come left' right' rest others both'
    both-taken left' right' both' x y e f g is p =
        both-parted total gone come left right rest others left' right' both both' x y e f g
        (at-last x y (λ d. last-is left left' x d e) (λ d. last-is right right' y d f) ∙ is) p

-- a list of no length has no item
pub one-empty : {X : Type 0} (xs : List X) (n : ℕ) → n ≡ length xs → (n == 0) ≡ true → xs ≡ []
one-empty [] n k e = refl
one-empty (x ∷ xs) n k e = absurd (omega (arith, k, eqb-true n 0 e))
