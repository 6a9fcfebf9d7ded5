-- The first item that passes a test, and the list without it, or with another one in front of it.
use Rattle.std.proofs.Common.{◌≡◌, ◌∙◌, ◌+◌, ◌<◌, ◌≤◌, ℕ, suc, Bool, true, false, List, [], ◌∷◌, ◌++◌, Option}
use Rattle.std.proofs.Common.{Some, None}
use Rattle.std.proofs.Common.{arith, ap, length, refl, subst, sym}
use Rattle.std.specs.Prelude.{◌||◌, find, if◌then◌else◌, nat_lt, not, position, slice_get, unwrap_or}
use Rattle.std.specs.List.{AllByRecursion, insert, list_any, position_or_len, remove}
use Rattle.std.specs.Set.{remove_key}
use Rattle.std.proofs.lemmas.Bool.{ltb-false, ltb-true}
use Rattle.std.proofs.lemmas.List.Folds.{find_at}
use Rattle.std.proofs.lemmas.List.Sums.{prefix_len-le-length}
use Rattle.std.proofs.lemmas.Option.{cond_some, none-some}
use Rattle.shared_list.specs.Behind.{put_before}

remove_later : {A : Type 0} (x : A) (xs : List A) (n : ℕ) → remove (x ∷ xs) (1 + n) ≡ x ∷ remove xs n
remove_later x xs n =
    let next : suc n ≡ 1 + n = omega arith in
    subst (λ k. remove (x ∷ xs) k ≡ x ∷ remove xs n) next refl

insert_later : {A : Type 0} (x y : A) (xs : List A) (n : ℕ) → insert (x ∷ xs) (1 + n) y ≡ x ∷ insert xs n y
insert_later x y xs n =
    let next : suc n ≡ 1 + n = omega arith in
    subst (λ k. insert (x ∷ xs) k y ≡ x ∷ insert xs n y) next refl

module _ {A : Type 0} (p : A → Bool) where
  -- the place of the first item that passes -------------------------------------------------------------------------

  first_removed : (xs : List A) → remove xs (position_or_len p xs) ≡ remove_key p xs
  first_removed [] = refl
  first_removed (x ∷ xs) = by (p x) (first_removed xs)
    where
      by : (b : Bool) → remove xs (position_or_len p xs) ≡ remove_key p xs
          → remove (x ∷ xs) (if not b then 1 + position_or_len p xs else 0) ≡ (if b then xs else x ∷ remove_key p xs)
      by true same = refl
      by false same = remove_later x xs (position_or_len p xs) ∙ ap (λ ys. x ∷ ys) same

  put_first : (y : A) (xs : List A) → insert xs (position_or_len p xs) y ≡ put_before p y xs
  put_first y [] = refl
  put_first y (x ∷ xs) = by (p x) (put_first y xs)
    where
      by : (b : Bool) → insert xs (position_or_len p xs) y ≡ put_before p y xs
          → insert (x ∷ xs) (if not b then 1 + position_or_len p xs else 0) y
          ≡ (if b then y ∷ x ∷ xs else x ∷ put_before p y xs)
      by true same = refl
      by false same = insert_later x y xs (position_or_len p xs) ∙ ap (λ ys. x ∷ ys) same

  place_found : (xs : List A) (i : ℕ) → position p xs ≡ Some i → (position_or_len p xs ≡ i) × (i < length xs)
  place_found xs i e =
      let s = cond_some (nat_lt (position_or_len p xs) (length xs)) (position_or_len p xs) i e in
      (s.1, subst (λ n. n < length xs) s.1 (ltb-true (position_or_len p xs) (length xs) s.0))

  pub found_within : (xs : List A) (i : ℕ) → position p xs ≡ Some i → i < length xs
  found_within xs i e = (place_found xs i e).1

  pub found_removed : (xs : List A) (i : ℕ) → position p xs ≡ Some i → remove xs i ≡ remove_key p xs
  found_removed xs i e = subst (λ n. remove xs n ≡ remove_key p xs) (place_found xs i e).0 (first_removed xs)

  pub found_first : (xs : List A) (i : ℕ) (x : A) → position p xs ≡ Some i → slice_get xs i ≡ Some x
      → Some x ≡ find p xs
  found_first xs i x e is = sym (find_at p xs ∙ (ap (slice_get xs) (place_found xs i e).0 ∙ is))

  -- none passes -----------------------------------------------------------------------------------------------------

  none_past : (xs : List A) → position p xs ≡ None → length xs ≤ position_or_len p xs
  none_past xs e = by (nat_lt (position_or_len p xs) (length xs)) refl
    where
      by : (b : Bool) → nat_lt (position_or_len p xs) (length xs) ≡ b → length xs ≤ position_or_len p xs
      by true t =
          absurd (none-some (position_or_len p xs)
          (sym e ∙ ap (λ b. if b then Some (position_or_len p xs) else None) t))
      by false f = ltb-false (position_or_len p xs) (length xs) f

  none_before : (xs : List A) → length xs ≤ position_or_len p xs → AllByRecursion (λ x. p x ≡ false) xs
  none_before [] le = tt
  none_before (x ∷ xs) le = by (p x) refl le (none_before xs)
    where
      by : (b : Bool) → p x ≡ b → suc (length xs) ≤ (if not b then 1 + position_or_len p xs else 0)
          → (length xs ≤ position_or_len p xs → AllByRecursion (λ y. p y ≡ false) xs)
          → (p x ≡ false) × AllByRecursion (λ y. p y ≡ false) xs
      by true t le rest = absurd (omega arith)
      by false f le rest = (f, rest (omega arith))

  pub none_found : (xs : List A) → position p xs ≡ None → AllByRecursion (λ x. p x ≡ false) xs
  none_found xs e = none_before xs (none_past xs e)

  none_any : (xs : List A) → AllByRecursion (λ x. p x ≡ false) xs → list_any p xs ≡ false
  none_any [] all = refl
  none_any (x ∷ xs) all = ap (λ b. b || list_any p xs) all.0 ∙ none_any xs all.1

  -- the place to put an item at, where one passes or not
  pub place_or_end : (xs : List A) → unwrap_or (position p xs) (length xs) ≡ position_or_len p xs
  place_or_end xs = by (position p xs) refl
    where
      by : (r : Option ℕ) → position p xs ≡ r → unwrap_or r (length xs) ≡ position_or_len p xs
      by (Some i) e = sym (place_found xs i e).0
      by None e =
          let past = none_past xs e in
          let most = prefix_len-le-length (λ x. not (p x)) xs in
          omega (arith, past, most)

  pub put_there : (y : A) (xs : List A) (i : ℕ) → i ≡ unwrap_or (position p xs) (length xs)
      → insert xs i y ≡ put_before p y xs
  put_there y xs i is = ap (λ n. insert xs n y) (is ∙ place_or_end xs) ∙ put_first y xs

  pub there_within : (xs : List A) (i : ℕ) → i ≡ unwrap_or (position p xs) (length xs) → i ≤ length xs
  there_within xs i is =
      let at : i ≡ position_or_len p xs = is ∙ place_or_end xs in
      let most = prefix_len-le-length (λ x. not (p x)) xs in
      omega (arith, at, most)

  -- one of several passes
  pub any_found : (xs : List A) → list_any p xs ≡ true → position p xs ≡ None → ⊥
  any_found xs t e = let f = none_any xs (none_found xs e) in cc

  -- lists behind one another ----------------------------------------------------------------------------------------

  any_here : (x : A) (xs : List A) (b c : Bool) → p x ≡ b → list_any p (x ∷ xs) ≡ c → (b || list_any p xs) ≡ c
  any_here x xs b c e t = sym (ap (λ a. a || list_any p xs) e) ∙ t

  pub find_there : (xs ws : List A) → list_any p xs ≡ true → find p (xs ++ ws) ≡ find p xs
  find_there [] ws t = cc
  find_there (x ∷ xs) ws t = by (p x) (any_here x xs (p x) true refl t) (find_there xs ws)
    where
      by : (b : Bool) → (b || list_any p xs) ≡ true → (list_any p xs ≡ true → find p (xs ++ ws) ≡ find p xs)
          → (if b then Some x else find p (xs ++ ws)) ≡ (if b then Some x else find p xs)
      by true t rest = refl
      by false t rest = rest t

  pub find_past : (xs ws : List A) → list_any p xs ≡ false → find p (xs ++ ws) ≡ find p ws
  find_past [] ws f = refl
  find_past (x ∷ xs) ws f = by (p x) (any_here x xs (p x) false refl f) (find_past xs ws)
    where
      by : (b : Bool) → (b || list_any p xs) ≡ false → (list_any p xs ≡ false → find p (xs ++ ws) ≡ find p ws)
          → (if b then Some x else find p (xs ++ ws)) ≡ find p ws
      by true f rest = cc
      by false f rest = rest f

  pub remove_there : (xs ws : List A) → list_any p xs ≡ true → remove_key p (xs ++ ws) ≡ remove_key p xs ++ ws
  remove_there [] ws t = cc
  remove_there (x ∷ xs) ws t = by (p x) (any_here x xs (p x) true refl t) (remove_there xs ws)
    where
      by : (b : Bool) → (b || list_any p xs) ≡ true
          → (list_any p xs ≡ true → remove_key p (xs ++ ws) ≡ remove_key p xs ++ ws)
          → (if b then xs ++ ws else x ∷ remove_key p (xs ++ ws)) ≡ (if b then xs else x ∷ remove_key p xs) ++ ws
      by true t rest = refl
      by false t rest = ap (λ ys. x ∷ ys) (rest t)

  pub remove_past : (xs ws : List A) → list_any p xs ≡ false → remove_key p (xs ++ ws) ≡ xs ++ remove_key p ws
  remove_past [] ws f = refl
  remove_past (x ∷ xs) ws f = by (p x) (any_here x xs (p x) false refl f) (remove_past xs ws)
    where
      by : (b : Bool) → (b || list_any p xs) ≡ false
          → (list_any p xs ≡ false → remove_key p (xs ++ ws) ≡ xs ++ remove_key p ws)
          → (if b then xs ++ ws else x ∷ remove_key p (xs ++ ws)) ≡ x ∷ (xs ++ remove_key p ws)
      by true f rest = cc
      by false f rest = ap (λ ys. x ∷ ys) (rest f)

  module _ (y : A) where
    pub put_there_then : (xs ws : List A) → list_any p xs ≡ true
        → put_before p y (xs ++ ws) ≡ put_before p y xs ++ ws
    put_there_then [] ws t = cc
    put_there_then (x ∷ xs) ws t = by (p x) (any_here x xs (p x) true refl t) (put_there_then xs ws)
      where
        by : (b : Bool) → (b || list_any p xs) ≡ true
            → (list_any p xs ≡ true → put_before p y (xs ++ ws) ≡ put_before p y xs ++ ws)
            → (if b then y ∷ x ∷ (xs ++ ws) else x ∷ put_before p y (xs ++ ws))
            ≡ (if b then y ∷ x ∷ xs else x ∷ put_before p y xs) ++ ws
        by true t rest = refl
        by false t rest = ap (λ ys. x ∷ ys) (rest t)

    pub put_past : (xs ws : List A) → list_any p xs ≡ false → put_before p y (xs ++ ws) ≡ xs ++ put_before p y ws
    put_past [] ws f = refl
    put_past (x ∷ xs) ws f = by (p x) (any_here x xs (p x) false refl f) (put_past xs ws)
      where
        by : (b : Bool) → (b || list_any p xs) ≡ false
            → (list_any p xs ≡ false → put_before p y (xs ++ ws) ≡ xs ++ put_before p y ws)
            → (if b then y ∷ x ∷ (xs ++ ws) else x ∷ put_before p y (xs ++ ws)) ≡ x ∷ (xs ++ put_before p y ws)
        by true f rest = cc
        by false f rest = ap (λ ys. x ∷ ys) (rest f)
