-- Runs, and changes of one of them.
use Rattle.std.proofs.Common.{◌≡◌, ◌∙◌, ◌+◌, ◌<◌, ℕ, zero, suc, Bool, true, false, List, [], ◌∷◌, ◌++◌, Some}
use Rattle.std.proofs.Common.{None, Result, Ok, Err}
use Rattle.std.proofs.Common.{arith, ap, append-nil, append_assoc, drop, get_or, length, map, refl, subst, sym, take}
use Rattle.std.specs.Prelude.{◌==◌, OnErr, OnOk, find, option_map, slice_get, slice_set}
use Rattle.std.specs.Arc.{arc_value}
use Rattle.std.specs.List.{AllByRecursion, insert, list_any, remove}
use Rattle.std.specs.Set.{remove_key}
use Rattle.std.specs.declared.sync.Arc.{Arc}
use Rattle.std.proofs.lemmas.Bool.Decides.{Decides-eqb}
use Rattle.std.proofs.lemmas.List.{length-drop, nil_from_length, take_more}
use Rattle.shared_list.specs.Behind.{put_before}
use Rattle.shared_list.specs.InsideRuns.{HaveItems, IsAtFirst, joined}
use Rattle.shared_list.proofs.Firsts.{find_past, find_there, put_past, put_there_then, remove_past, remove_there}

abbrev pub Run : Type 0 → Type 0 → Type 0
Run A Z = Arc (List A) Z

pub on_ok : {T E : Type 0} (r : Result T E) {P Q : Type 0} → OnOk r P → (P → Q) → OnOk r Q
on_ok (Ok x) p f = f p
on_ok (Err e) p f = tt

pub some_items : {A : Type 0} (xs : List A) → false ≡ (length xs == 0) → 0 < length xs
some_items [] e = cc
some_items (x ∷ xs) e = omega arith

pub no_items : {A : Type 0} (xs : List A) → true ≡ (length xs == 0) → xs ≡ []
no_items xs e = nil_from_length xs ((Decides-eqb (length xs) 0).0 (sym e))

-- both parts of a long run have items
pub front_some : {A : Type 0} (xs : List A) (n : ℕ) → n ≡ length xs → 32 < n → 0 < length (take 16 xs)
front_some [] n e lt = absurd (omega (arith, e))
front_some (x ∷ xs) n e lt = omega arith

pub back_some : {A : Type 0} (xs : List A) (n : ℕ) → n ≡ length xs → 32 < n → 0 < length (drop 16 xs)
back_some xs n e lt = let long = length-drop 16 xs in omega (arith, e, long)

module _ {A Z : Type 0} where
  pub joined_append : (xs ys : List (Run A Z)) → joined (xs ++ ys) ≡ joined xs ++ joined ys
  joined_append [] ys = refl
  joined_append (x ∷ xs) ys =
      ap (λ ws. arc_value x ++ ws) (joined_append xs ys) ∙ sym (append_assoc (arc_value x) (joined xs) (joined ys))

  pub have_append : (xs ys : List (Run A Z)) → HaveItems xs → HaveItems ys → HaveItems (xs ++ ys)
  have_append [] ys p q = q
  have_append (x ∷ xs) ys p q = (p.0, have_append xs ys p.1 q)

  have_take : (n : ℕ) (xs : List (Run A Z)) → HaveItems xs → HaveItems (take n xs)
  have_take zero xs h = tt
  have_take (suc n) [] h = tt
  have_take (suc n) (x ∷ xs) h = (h.0, have_take n xs h.1)

  have_drop : (n : ℕ) (xs : List (Run A Z)) → HaveItems xs → HaveItems (drop n xs)
  have_drop zero xs h = h
  have_drop (suc n) [] h = tt
  have_drop (suc n) (x ∷ xs) h = have_drop n xs h.1

  -- runs that have the items of others one by one
  pub joined_same : (xs ys : List (Run A Z)) → map (λ r. arc_value r) xs ≡ map (λ r. arc_value r) ys
      → joined xs ≡ joined ys
  joined_same [] [] e = refl
  joined_same [] (y ∷ ys) e = cc
  joined_same (x ∷ xs) [] e = cc
  joined_same (x ∷ xs) (y ∷ ys) e =
      let first : arc_value x ≡ arc_value y = cc in
      let rest : map (λ r. arc_value r) xs ≡ map (λ r. arc_value r) ys = cc in
      (λ i. first i ++ joined_same xs ys rest i)

  pub have_same : (xs ys : List (Run A Z)) → map (λ r. arc_value r) xs ≡ map (λ r. arc_value r) ys → HaveItems ys
      → HaveItems xs
  have_same [] [] e h = tt
  have_same [] (y ∷ ys) e h = cc
  have_same (x ∷ xs) [] e h = cc
  have_same (x ∷ xs) (y ∷ ys) e h =
      let first : arc_value x ≡ arc_value y = cc in
      let rest : map (λ r. arc_value r) xs ≡ map (λ r. arc_value r) ys = cc in
      (subst (λ zs. 0 < length zs) (sym first) h.0, have_same xs ys rest h.1)

  pub joined_more : (xs : List (Run A Z)) (i : ℕ) (x : Run A Z) → i < length xs → x ≡ get_or xs i x
      → joined (take (i + 1) xs) ≡ joined (take i xs) ++ arc_value x
  joined_more xs i x lt is =
      ap joined (take_more xs i x lt ∙ ap (λ (y : Run A Z). take i xs ++ y ∷ []) (sym is))
      ∙ (joined_append (take i xs) (x ∷ []) ∙ ap (λ ws. joined (take i xs) ++ ws) (append-nil (arc_value x)))

  -- a run goes, or gets other items ---------------------------------------------------------------------------------

  module _ (rs : List (Run A Z)) (p : ℕ) where
    -- the items of runs of which one has these in the place of its own
    abbrev pub with_items : List A → List A
    with_items items = joined (take p rs) ++ (items ++ joined (drop (suc p) rs))

    pub gone : (now : List (Run A Z)) (items : List A) → now ≡ remove rs p → items ≡ []
        → joined now ≡ with_items items
    gone now items is none =
        ap joined is
        ∙ (joined_append (take p rs) (drop (suc p) rs) ∙ ap with_items (sym none))

    pub have_gone : (now : List (Run A Z)) → now ≡ remove rs p → HaveItems rs → HaveItems now
    have_gone now is h =
        subst HaveItems (sym is) (have_append (take p rs) (drop (suc p) rs) (have_take p rs h) (have_drop (suc p) rs h))

  -- the same, with the number of the run behind
  pub at_next : (rs : List (Run A Z)) (p : ℕ) (items : List A)
      → with_items rs p items ≡ joined (take p rs) ++ (items ++ joined (drop (p + 1) rs))
  at_next rs p items =
      let next : suc p ≡ p + 1 = omega arith in ap (λ n. joined (take p rs) ++ (items ++ joined (drop n rs))) next

  pub replaced : (rs : List (Run A Z)) (p : ℕ) (r : Run A Z) → p < length rs
      → joined (slice_set rs p r) ≡ with_items rs p (arc_value r)
  replaced [] p r lt = absurd (omega arith)
  replaced (x ∷ rs) zero r lt = refl
  replaced (x ∷ rs) (suc p) r lt =
      ap (λ ws. arc_value x ++ ws) (replaced rs p r (omega arith))
      ∙ sym (append_assoc (arc_value x) (joined (take p rs)) (arc_value r ++ joined (drop (suc p) rs)))

  pub have_replaced : (rs : List (Run A Z)) (p : ℕ) (r : Run A Z) → 0 < length (arc_value r) → HaveItems rs
      → HaveItems (slice_set rs p r)
  have_replaced [] p r some h = tt
  have_replaced (x ∷ rs) zero r some h = (some, h.1)
  have_replaced (x ∷ rs) (suc p) r some h = (h.0, have_replaced rs p r some h.1)

  -- a run gets other items in its own place and in one behind it
  pub parted : (rs : List (Run A Z)) (p : ℕ) (r s : Run A Z) → p < length rs
      → joined (slice_set (insert rs (suc p) s) p r) ≡ with_items rs p (arc_value r ++ arc_value s)
  parted [] p r s lt = absurd (omega arith)
  parted (x ∷ rs) zero r s lt = sym (append_assoc (arc_value r) (arc_value s) (joined rs))
  parted (x ∷ rs) (suc p) r s lt =
      ap (λ ws. arc_value x ++ ws) (parted rs p r s (omega arith))
      ∙ sym (append_assoc (arc_value x) (joined (take p rs)) ((arc_value r ++ arc_value s) ++ joined (drop (suc p) rs)))

  pub have_parted : (rs : List (Run A Z)) (p : ℕ) (r s : Run A Z) → 0 < length (arc_value r)
      → 0 < length (arc_value s) → HaveItems rs → HaveItems (slice_set (insert rs (suc p) s) p r)
  have_parted rs p r s first second h =
      have_replaced (insert rs (suc p) s) p r first
      (have_append (take (suc p) rs) (s ∷ drop (suc p) rs) (have_take (suc p) rs h) (second, have_drop (suc p) rs h))

  pub parted_next : (rs : List (Run A Z)) (p : ℕ) (r s : Run A Z) → p < length rs
      → joined (slice_set (insert rs (p + 1) s) p r) ≡ with_items rs p (arc_value r ++ arc_value s)
  parted_next rs p r s lt =
      let next : p + 1 ≡ suc p = omega arith in
      ap (λ n. joined (slice_set (insert rs n s) p r)) next ∙ parted rs p r s lt

  pub have_parted_next : (rs : List (Run A Z)) (p : ℕ) (r s : Run A Z) → 0 < length (arc_value r)
      → 0 < length (arc_value s) → HaveItems rs → HaveItems (slice_set (insert rs (p + 1) s) p r)
  have_parted_next rs p r s first second h =
      let next : suc p ≡ p + 1 = omega arith in
      subst (λ n. HaveItems (slice_set (insert rs n s) p r)) next (have_parted rs p r s first second h)

  -- the last run
  pub at_end : (rs : List (Run A Z)) (p : ℕ) (items : List A) (x : A) → suc p ≡ length rs
      → option_map (λ r. arc_value r) (slice_get rs p) ≡ Some items
      → with_items rs p (items ++ x ∷ []) ≡ joined rs ++ x ∷ []
  at_end [] p items x long at = cc
  at_end (r ∷ []) zero items x long at =
      let same : arc_value r ≡ items = cc in
      append-nil (items ++ x ∷ []) ∙ ap (λ ws. ws ++ x ∷ []) (sym (append-nil (arc_value r) ∙ same))
  at_end (r ∷ s ∷ rs) zero items x long at = absurd (omega arith)
  at_end (r ∷ rs) (suc p) items x long at =
      append_assoc (arc_value r) (joined (take p rs)) ((items ++ x ∷ []) ++ joined (drop (suc p) rs))
      ∙ (ap (λ ws. arc_value r ++ ws) (at_end rs p items x (omega arith) at)
      ∙ sym (append_assoc (arc_value r) (joined rs) (x ∷ [])))

  pub at_last : (rs : List (Run A Z)) (p : ℕ) (items : List A) (x : A) → p + 1 ≡ length rs
      → option_map (λ r. arc_value r) (slice_get rs p) ≡ Some items
      → joined (take p rs) ++ ((items ++ x ∷ []) ++ joined (drop (p + 1) rs)) ≡ joined rs ++ x ∷ []
  at_last rs p items x long at =
      let next : suc p ≡ length rs = omega (arith, long) in
      sym (at_next rs p (items ++ x ∷ [])) ∙ at_end rs p items x next at

  pub appended : (rs : List (Run A Z)) (r : Run A Z) (x : A) → arc_value r ≡ x ∷ []
      → joined (rs ++ r ∷ []) ≡ joined rs ++ x ∷ []
  appended rs r x is = joined_append rs (r ∷ []) ∙ ap (λ ws. joined rs ++ ws) (append-nil (arc_value r) ∙ is)

  pub have_pushed : (rs now : List (Run A Z)) (r : Run A Z) {E : Type 0} (result : Result (Unit {0}) E) (x : A)
      → arc_value r ≡ x ∷ [] → OnOk result (now ≡ rs ++ r ∷ []) → OnErr result (now ≡ rs) → HaveItems rs
      → HaveItems now
  have_pushed rs now r (Ok v) x is pushed kept have =
      subst HaveItems (sym pushed)
      (have_append rs (r ∷ []) have (subst (λ xs. 0 < length xs) (sym is) (omega arith), tt))
  have_pushed rs now r (Err e) x is pushed kept have = subst HaveItems (sym kept) have

  -- the first run that has an item that passes ----------------------------------------------------------------------

  pub at_within : (q : A → Bool) (rs : List (Run A Z)) (p : ℕ) → IsAtFirst q rs p → p < length rs
  at_within q [] p is = absurd is
  at_within q (r ∷ rs) zero is = omega arith
  at_within q (r ∷ rs) (suc p) is = let rest = at_within q rs p is.1 in omega (arith, rest)

  module _ (q : A → Bool) (items : List A) where
    pub at_any : (rs : List (Run A Z)) (p : ℕ) → IsAtFirst q rs p
        → option_map (λ r. arc_value r) (slice_get rs p) ≡ Some items → list_any q items ≡ true
    at_any [] p is at = absurd is
    at_any (r ∷ rs) zero is at = let same : arc_value r ≡ items = cc in sym (ap (list_any q) same) ∙ is
    at_any (r ∷ rs) (suc p) is at = at_any rs p is.1 at

    pub find_at_first : (rs : List (Run A Z)) (p : ℕ) → IsAtFirst q rs p
        → option_map (λ r. arc_value r) (slice_get rs p) ≡ Some items → find q (joined rs) ≡ find q items
    find_at_first [] p is at = absurd is
    find_at_first (r ∷ rs) zero is at =
        let same : arc_value r ≡ items = cc in find_there q (arc_value r) (joined rs) is ∙ ap (find q) same
    find_at_first (r ∷ rs) (suc p) is at =
        find_past q (arc_value r) (joined rs) is.0 ∙ find_at_first rs p is.1 at

    -- a change that goes past items that don't pass, and ends at the first that does
    module _ (change : List A → List A)
        (there : (xs ws : List A) → list_any q xs ≡ true → change (xs ++ ws) ≡ change xs ++ ws)
        (past : (xs ws : List A) → list_any q xs ≡ false → change (xs ++ ws) ≡ xs ++ change ws) where
      changed_at_first : (rs : List (Run A Z)) (p : ℕ) → IsAtFirst q rs p
          → option_map (λ r. arc_value r) (slice_get rs p) ≡ Some items
          → with_items rs p (change items) ≡ change (joined rs)
      changed_at_first [] p is at = absurd is
      changed_at_first (r ∷ rs) zero is at =
          let same : arc_value r ≡ items = cc in
          ap (λ xs. change xs ++ joined rs) (sym same) ∙ sym (there (arc_value r) (joined rs) is)
      changed_at_first (r ∷ rs) (suc p) is at =
          append_assoc (arc_value r) (joined (take p rs)) (change items ++ joined (drop (suc p) rs))
          ∙ (ap (λ ws. arc_value r ++ ws) (changed_at_first rs p is.1 at)
          ∙ sym (past (arc_value r) (joined rs) is.0))

    pub removed_at_first : (rs : List (Run A Z)) (p : ℕ) → IsAtFirst q rs p
        → option_map (λ r. arc_value r) (slice_get rs p) ≡ Some items
        → with_items rs p (remove_key q items) ≡ remove_key q (joined rs)
    removed_at_first = changed_at_first (remove_key q) (remove_there q) (remove_past q)

    pub put_at_first : (x : A) (rs : List (Run A Z)) (p : ℕ) → IsAtFirst q rs p
        → option_map (λ r. arc_value r) (slice_get rs p) ≡ Some items
        → with_items rs p (put_before q x items) ≡ put_before q x (joined rs)
    put_at_first x = changed_at_first (put_before q x) (put_there_then q x) (put_past q x)

  module _ (q : A → Bool) where
    none_joined : (rs : List (Run A Z)) → AllByRecursion (λ r. list_any q (arc_value r) ≡ false) rs
        → (find q (joined rs) ≡ None) × ((remove_key q (joined rs) ≡ joined rs)
        × ((x : A) → put_before q x (joined rs) ≡ joined rs ++ x ∷ []))
    none_joined [] none = (refl, (refl, λ x. refl))
    none_joined (r ∷ rs) none =
        let rest = none_joined rs none.1 in (
          find_past q (arc_value r) (joined rs) none.0 ∙ rest.0,
          (
            remove_past q (arc_value r) (joined rs) none.0 ∙ ap (λ ws. arc_value r ++ ws) rest.1.0,
            λ x. put_past q x (arc_value r) (joined rs) none.0
                ∙ (ap (λ ws. arc_value r ++ ws) (rest.1.1 x)
                ∙ sym (append_assoc (arc_value r) (joined rs) (x ∷ []))),
          ),
        )

    pub find_none : (rs : List (Run A Z)) → AllByRecursion (λ r. list_any q (arc_value r) ≡ false) rs
        → None ≡ find q (joined rs)
    find_none rs none = sym (none_joined rs none).0

    pub remove_none : (rs : List (Run A Z)) → AllByRecursion (λ r. list_any q (arc_value r) ≡ false) rs
        → joined rs ≡ remove_key q (joined rs)
    remove_none rs none = sym (none_joined rs none).1.0

    pub put_none : (x : A) (rs : List (Run A Z)) → AllByRecursion (λ r. list_any q (arc_value r) ≡ false) rs
        → joined rs ++ x ∷ [] ≡ put_before q x (joined rs)
    put_none x rs none = sym ((none_joined rs none).1.1 x)
