-- Entries that are told apart by a key, as their number or their identity.
use Rattle.std.proofs.Common.{◌≡◌, Bool, true, false, not, cond, List, [], ◌∷◌, map, filter, find, refl, sym, ap, ap₂}
use Rattle.std.proofs.Common.{◌∙◌, if◌then◌else◌, true≢false, Option, Some, None, Decides}
use Rattle.std.specs.List.{list_any, AllByRecursion, IsDistinct}
use Rattle.member_table.specs.Entries.{identity_of, is_at, put}
use Rattle.member_table.specs.declared.entry.Entry.{Entry}
use Rattle.member_table.proofs.Lists.{IsOnce, filter-none, find_gone, find_kept, or_false}

module _ {K : Type 0} (eq : K → K → Bool) (decides : (a b : K) → Decides (eq a b) (a ≡ b)) (key : Entry → K) where
  pub flipped : (a b : K) → eq a b ≡ eq b a
  flipped a b = by (eq a b) refl (eq b a) refl
    where
      by : (x : Bool) → eq a b ≡ x → (y : Bool) → eq b a ≡ y → x ≡ y
      by true s true t = refl
      by true s false t = absurd (true≢false (sym ((decides b a).1 (sym ((decides a b).0 s))) ∙ t))
      by false s true t = absurd (true≢false (sym ((decides a b).1 (sym ((decides b a).0 t))) ∙ s))
      by false s false t = refl

  -- where each key stands once, one entry has it
  pub once_key : (k : K) (es : List Entry) → IsDistinct eq (map key es) → IsOnce (λ e. eq k (key e)) es
  unfolding IsDistinct
  once_key k [] d = tt
  once_key k (e ∷ es) d = (λ t. none es (key e) ((decides k (key e)).0 t) d.0, once_key k es d.1)
    where
      none : (xs : List Entry) (j : K) → k ≡ j → AllByRecursion (λ y. eq j y ≡ false) (map key xs)
          → list_any (λ x. eq k (key x)) xs ≡ false
      none [] j s h = refl
      none (x ∷ xs) j s h = rw (s, h.0) (none xs j s h.1)

  -- and each entry is found by its key
  pub each_found : (es : List Entry) → IsDistinct eq (map key es)
      → AllByRecursion (λ e. find (λ x. eq (key e) (key x)) es ≡ Some e) es
  unfolding IsDistinct
  each_found [] d = tt
  each_found (e ∷ es) d = (
    ap (λ b. cond b (Some e) (find (λ x. eq (key e) (key x)) es)) ((decides (key e) (key e)).1 refl),
    later es d.0 (each_found es d.1),
  )
    where
      later : (xs : List Entry) → AllByRecursion (λ y. eq (key e) y ≡ false) (map key xs)
          → AllByRecursion (λ z. find (λ x. eq (key z) (key x)) es ≡ Some z) xs
          → AllByRecursion (λ z. find (λ x. eq (key z) (key x)) (e ∷ es) ≡ Some z) xs
      later [] a r = tt
      later (x ∷ xs) a r = (
        ap (λ b. cond b (Some e) (find (λ y. eq (key x) (key y)) es)) (flipped (key x) (key e) ∙ a.0)
            ∙ r.0,
        later xs a.1 r.1,
      )

  -- without the one entry that passes a test: nothing has its key, and all others are found
  pub find_without : (q : Entry → Bool) (e : Entry) (es : List Entry) → AllByRecursion (λ x. q x ≡ true → x ≡ e) es
      → q e ≡ true → AllByRecursion (λ x. eq (key e) (key x) ≡ true → x ≡ e) es
      → (k : K) → find (λ x. eq k (key x)) (filter (λ x. not (q x)) es)
      ≡ cond (eq (key e) k) None (find (λ x. eq k (key x)) es)
  find_without q e es alone passes once k = by (eq (key e) k) refl
    where
      with_key : key e ≡ k → (xs : List Entry) → AllByRecursion (λ x. eq (key e) (key x) ≡ true → x ≡ e) xs
          → AllByRecursion (λ x. eq k (key x) ≡ true → q x ≡ true) xs
      with_key s [] a = tt
      with_key s (x ∷ xs) a = (λ t. ap q (a.0 (ap (λ j. eq j (key x)) s ∙ t)) ∙ passes, with_key s xs a.1)

      without_key : eq (key e) k ≡ false → (xs : List Entry) → AllByRecursion (λ x. q x ≡ true → x ≡ e) xs
          → AllByRecursion (λ x. q x ≡ true → eq k (key x) ≡ false) xs
      without_key n [] a = tt
      without_key n (x ∷ xs) a = (λ t. ap (λ z. eq k (key z)) (a.0 t) ∙ (flipped k (key e) ∙ n), without_key n xs a.1)

      by : (b : Bool) → eq (key e) k ≡ b
          → find (λ x. eq k (key x)) (filter (λ x. not (q x)) es) ≡ cond b None (find (λ x. eq k (key x)) es)
      by true t = find_gone (λ x. eq k (key x)) q es (with_key ((decides (key e) k).0 t) es once)
      by false t = find_kept (λ x. eq k (key x)) q es (without_key t es alone)

  -- after one is put: it has its key, and the others are found but for the one whose place it takes
  pub find_put : (new : Entry) (es : List Entry) → IsOnce (is_at (identity_of new)) es
      → AllByRecursion (λ x. is_at (identity_of new) x ≡ false → eq (key new) (key x) ≡ false) es
      → (k : K) → find (λ x. eq k (key x)) (put new es)
      ≡ cond (eq (key new) k) (Some new)
      (find (λ x. eq k (key x)) (filter (λ x. not (is_at (identity_of new) x)) es))
  find_put new [] o f k = ap (λ b. cond b (Some new) None) (flipped k (key new))
  find_put new (e ∷ es) o f k = by (is_at (identity_of new) e) refl (find_put new es o.1 f.1 k)
    where
      test : Entry → Bool
      test x = not (is_at (identity_of new) x)

      other : is_at (identity_of new) e ≡ false → (b c : Bool) → eq k (key e) ≡ b → eq (key new) k ≡ c
          → (r : Option Entry) → cond b (Some e) (cond c (Some new) r) ≡ cond c (Some new) (cond b (Some e) r)
      other n true true s t r =
          absurd (true≢false (sym (ap (eq (key new)) (sym ((decides k (key e)).0 s)) ∙ t) ∙ f.0 n))
      other n true false s t r = refl
      other n false c s t r = refl

      by : (b : Bool) → is_at (identity_of new) e ≡ b
          → find (λ x. eq k (key x)) (put new es)
          ≡ cond (eq (key new) k) (Some new) (find (λ x. eq k (key x)) (filter test es))
          → find (λ x. eq k (key x)) (if b then new ∷ es else e ∷ put new es)
          ≡ cond (eq (key new) k) (Some new)
          (find (λ x. eq k (key x)) (cond (not b) (e ∷ filter test es) (filter test es)))
      by true t r = ap (λ b. cond b (Some new) (find (λ x. eq k (key x)) es)) (flipped k (key new))
          ∙ ap (λ xs. cond (eq (key new) k) (Some new) (find (λ x. eq k (key x)) xs))
          (sym (filter-none (is_at (identity_of new)) es (o.0 t)))
      by false t r = ap (cond (eq k (key e)) (Some e)) r
          ∙ other t (eq k (key e)) (eq (key new) k) refl refl (find (λ x. eq k (key x)) (filter test es))

  -- keys stand once where entries go
  keys_filter : (k : K) (p : Entry → Bool) (es : List Entry) → AllByRecursion (λ y. eq k y ≡ false) (map key es)
      → AllByRecursion (λ y. eq k y ≡ false) (map key (filter p es))
  keys_filter k p [] a = tt
  keys_filter k p (e ∷ es) a = by (p e) (keys_filter k p es a.1)
    where
      by : (b : Bool) → AllByRecursion (λ y. eq k y ≡ false) (map key (filter p es))
          → AllByRecursion (λ y. eq k y ≡ false) (map key (cond b (e ∷ filter p es) (filter p es)))
      by true r = (a.0, r)
      by false r = r

  pub once_filter : (p : Entry → Bool) (es : List Entry) → IsDistinct eq (map key es)
      → IsDistinct eq (map key (filter p es))
  unfolding IsDistinct
  once_filter p [] d = tt
  once_filter p (e ∷ es) d = by (p e) (keys_filter (key e) p es d.0) (once_filter p es d.1)
    where
      by : (b : Bool) → AllByRecursion (λ y. eq (key e) y ≡ false) (map key (filter p es))
          → IsDistinct eq (map key (filter p es)) → IsDistinct eq (map key (cond b (e ∷ filter p es) (filter p es)))
      by true o r = (o, r)
      by false o r = r

  -- and where one is put
  keys_put : (k : K) (new : Entry) (es : List Entry) → eq k (key new) ≡ false
      → AllByRecursion (λ y. eq k y ≡ false) (map key es) → AllByRecursion (λ y. eq k y ≡ false) (map key (put new es))
  keys_put k new [] n a = (n, tt)
  keys_put k new (e ∷ es) n a = by (is_at (identity_of new) e) (keys_put k new es n a.1)
    where
      by : (b : Bool) → AllByRecursion (λ y. eq k y ≡ false) (map key (put new es))
          → AllByRecursion (λ y. eq k y ≡ false) (map key (if b then new ∷ es else e ∷ put new es))
      by true r = (n, a.1)
      by false r = (a.0, r)

  fresh_keys : (new : Entry) (es : List Entry) → list_any (is_at (identity_of new)) es ≡ false
      → AllByRecursion (λ x. is_at (identity_of new) x ≡ false → eq (key new) (key x) ≡ false) es
      → AllByRecursion (λ y. eq (key new) y ≡ false) (map key es)
  fresh_keys new [] n f = tt
  fresh_keys new (e ∷ es) n f = let o = or_false (is_at (identity_of new) e) (list_any (is_at (identity_of new)) es)
      n in (f.0 o.0, fresh_keys new es o.1 f.1)

  pub once_put : (new : Entry) (es : List Entry) → IsOnce (is_at (identity_of new)) es
      → AllByRecursion (λ x. is_at (identity_of new) x ≡ false → eq (key new) (key x) ≡ false) es
      → IsDistinct eq (map key es) → IsDistinct eq (map key (put new es))
  unfolding IsDistinct
  once_put new [] o f d = (tt, tt)
  once_put new (e ∷ es) o f d = by (is_at (identity_of new) e) refl (once_put new es o.1 f.1 d.1)
    where
      by : (b : Bool) → is_at (identity_of new) e ≡ b → IsDistinct eq (map key (put new es))
          → IsDistinct eq (map key (if b then new ∷ es else e ∷ put new es))
      by true t r = (fresh_keys new es (o.0 t) f.1, d.1)
      by false t r = (keys_put (key e) new es (flipped (key e) (key new) ∙ f.0 t) d.0, r)

  -- a change that leaves the keys as they are
  pub keys_map : (f : Entry → Entry) → ((e : Entry) → key (f e) ≡ key e) → (es : List Entry)
      → map key (map f es) ≡ map key es
  keys_map f same [] = refl
  keys_map f same (e ∷ es) = ap₂ (λ n ns. n ∷ ns) (same e) (keys_map f same es)
