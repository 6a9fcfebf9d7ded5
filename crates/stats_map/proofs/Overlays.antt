-- Entries in the order of their keys, and slots that are laid over them.
use Rattle.std.proofs.Common.{◌≡◌, Bool, true, false, cond, List, [], ◌∷◌, ◌++◌, refl, sym, ap, subst, ◌∙◌, true≢false}
use Rattle.std.specs.Prelude.{Option, Some, None, is_some, unwrap_or}
use Rattle.std.specs.BTreeMap.{insert_entry, is_at}
use Rattle.std.specs.List.{AllByRecursion}
use Rattle.std.specs.List.Sorted.{IsStrictlySortedBy}
use Rattle.std.specs.Map.{keys_of, remove_entry}
use Rattle.std.specs.Ordering.{is_eq, match_ordering, ordering_reverse}
use Rattle.std.specs.declared.cmp.Ordering.{Ordering}
use Rattle.std.specs.declared.cmp.Ordering.TheVariants.{Less, Equal, Greater}
use Rattle.std.specs.Cmp.{IsTotalOrder}
use Rattle.std.proofs.lemmas.Cmp.{alike_right, eq_by_cmp_equiv, tied_itself}
use Rattle.std.proofs.lemmas.Map.{lookup-none, lookup-remove_entry}
use Rattle.std.proofs.lemmas.Map.Entries.{lookup_head, lookup_tail, none_below_head, none_past_head}
use Rattle.std.proofs.lemmas.Map.Keys.{IsDistinct-from_sorted, sorted_tail}
use Rattle.std.proofs.lemmas.Map.Lookups.{CmpEqualImpliesEq}
use Rattle.stats_map.specs.Slots.{AreDrawn, IsSameElsewhere, overlaid, slot_or, value_at, with_slot, without}

some-none : {V : Type 0} (v : V) → Some v ≡ None → ⊥
some-none v e = absurd (true≢false (ap is_some e))

same-some : {V : Type 0} (v w : V) → Some v ≡ Some w → v ≡ w
same-some v w e = ap (λ o. unwrap_or o v) e

equal-of : (r : Ordering) → is_eq r ≡ true → r ≡ Equal
equal-of Less e = absurd (true≢false (sym e))
equal-of Equal e = refl
equal-of Greater e = absurd (true≢false (sym e))

-- a test that is made twice
twice : {A : Type 0} (b : Bool) (x y z : A) → cond b x z ≡ cond b x (cond b y z)
twice true x y z = refl
twice false x y z = refl

-- two tests that never both pass
either : {A : Type 0} (a b : Bool) (x y z : A) → (a ≡ true → b ≡ true → ⊥)
    → cond a x (cond b y z) ≡ cond b y (cond a x z)
either true true x y z f = absurd (f refl refl)
either true false x y z f = refl
either false b x y z f = refl

module _ {K : Type 0} {cmp : K → K → Ordering} (total : IsTotalOrder cmp) where
  abbrev pub Rise : {V : Type 0} → List (K × V) → Type 0
  Rise es = IsStrictlySortedBy cmp (keys_of es)

  pub same-turned : (a b : K) → is_at (cmp a) b ≡ is_at (cmp b) a
  same-turned a b = (eq_by_cmp_equiv total).symm a b

  -- one key, compared as another that is equal
  pub same-key : (k q x : K) → is_at (cmp k) q ≡ true → is_at (cmp k) x ≡ is_at (cmp q) x
  same-key k q x e = ap is_eq (total.congr k q x (equal-of (cmp k q) e))

  module _ {V : Type 0} where
    at-put : (q k : K) (v : V) (es : List (K × V))
        → value_at cmp q (insert_entry cmp es k v) ≡ cond (is_at (cmp q) k) (Some v) (value_at cmp q es)
    at-put q k v [] = refl
    at-put q k v (e ∷ es) = by (cmp k e.0) refl (at-put q k v es)
      where
        to : (r : Ordering) → cmp k e.0 ≡ r
            → value_at cmp q (insert_entry cmp (e ∷ es) k v)
            ≡ value_at cmp q (match_ordering r ((k, v) ∷ e ∷ es) ((e.0, v) ∷ es) (e ∷ insert_entry cmp es k v))
        to r f =
            ap (λ o. value_at cmp q (match_ordering o ((k, v) ∷ e ∷ es) ((e.0, v) ∷ es) (e ∷ insert_entry cmp es k v)))
            f

        not-both : cmp k e.0 ≡ Greater → is_at (cmp q) e.0 ≡ true → is_at (cmp q) k ≡ true → ⊥
        not-both f a b = true≢false (sym a ∙ (same-key q k e.0 b ∙ ap is_eq f))

        by : (r : Ordering) → cmp k e.0 ≡ r
            → value_at cmp q (insert_entry cmp es k v) ≡ cond (is_at (cmp q) k) (Some v) (value_at cmp q es)
            → value_at cmp q (insert_entry cmp (e ∷ es) k v) ≡ cond (is_at (cmp q) k) (Some v) (value_at cmp q (e ∷ es))
        by Less f rest = to Less f
        by Equal f rest =
            to Equal f
            ∙ (ap (λ b. cond b (Some v) (value_at cmp q es)) (sym (ap is_eq (alike_right total k e.0 q f)))
            ∙ (twice (is_at (cmp q) k) (Some v) (Some e.1) (value_at cmp q es)
            ∙ ap (λ b. cond (is_at (cmp q) k) (Some v) (cond b (Some e.1) (value_at cmp q es)))
            (ap is_eq (alike_right total k e.0 q f))))
        by Greater f rest =
            to Greater f
            ∙ (ap (cond (is_at (cmp q) e.0) (Some e.1)) rest
            ∙ either (is_at (cmp q) e.0) (is_at (cmp q) k) (Some e.1) (Some v) (value_at cmp q es) (not-both f))

    -- the value of a key after another's is changed
    pub at-slot : (q k : K) (slot : Option V) (es : List (K × V)) → Rise es
        → value_at cmp q (with_slot cmp k slot es) ≡ cond (is_at (cmp k) q) slot (value_at cmp q es)
    at-slot q k None es r =
        lookup-remove_entry (eq_by_cmp_equiv total) (is_at (cmp k)) (λ x y e. same-key k x y e) q es
        (IsDistinct-from_sorted cmp (keys_of es) r)
    at-slot q k (Some v) es r = at-put q k v es ∙ ap (λ b. cond b (Some v) (value_at cmp q es)) (same-turned q k)

    above-put : (x k : K) (v : V) (es : List (K × V)) → cmp x k ≡ Less
        → AllByRecursion (λ z. cmp x z ≡ Less) (keys_of es)
        → AllByRecursion (λ z. cmp x z ≡ Less) (keys_of (insert_entry cmp es k v))
    above-put x k v [] l a = (l, tt)
    above-put x k v (e ∷ es) l a = by (cmp k e.0) refl (above-put x k v es l a.1)
      where
        by : (r : Ordering) → cmp k e.0 ≡ r → AllByRecursion (λ z. cmp x z ≡ Less) (keys_of (insert_entry cmp es k v))
            → AllByRecursion (λ z. cmp x z ≡ Less) (keys_of (insert_entry cmp (e ∷ es) k v))
        by Less f rest =
            subst (λ o. AllByRecursion (λ z. cmp x z ≡ Less)
            (keys_of (match_ordering o ((k, v) ∷ e ∷ es) ((e.0, v) ∷ es) (e ∷ insert_entry cmp es k v)))) (sym f) (l, a)
        by Equal f rest =
            subst (λ o. AllByRecursion (λ z. cmp x z ≡ Less)
            (keys_of (match_ordering o ((k, v) ∷ e ∷ es) ((e.0, v) ∷ es) (e ∷ insert_entry cmp es k v)))) (sym f)
            (a.0, a.1)
        by Greater f rest =
            subst (λ o. AllByRecursion (λ z. cmp x z ≡ Less)
            (keys_of (match_ordering o ((k, v) ∷ e ∷ es) ((e.0, v) ∷ es) (e ∷ insert_entry cmp es k v)))) (sym f)
            (a.0, rest)

    above-lower : (k x : K) (es : List (K × V)) → cmp k x ≡ Less → AllByRecursion (λ z. cmp x z ≡ Less) (keys_of es)
        → AllByRecursion (λ z. cmp k z ≡ Less) (keys_of es)
    above-lower k x [] l a = tt
    above-lower k x (e ∷ es) l a = (total.trans k x e.0 l a.0, above-lower k x es l a.1)

    abbrev Chosen : K → V → K × V → List (K × V) → Ordering → List (K × V)
    Chosen k v e es o = match_ordering o ((k, v) ∷ e ∷ es) ((e.0, v) ∷ es) (e ∷ insert_entry cmp es k v)

    rise-put : (k : K) (v : V) (es : List (K × V)) → Rise es → Rise (insert_entry cmp es k v)
    unfolding IsStrictlySortedBy
    rise-put k v [] r = (tt, tt)
    rise-put k v (e ∷ es) r = by (cmp k e.0) refl (rise-put k v es r.1)
      where
        by : (o : Ordering) → cmp k e.0 ≡ o → IsStrictlySortedBy cmp (keys_of (insert_entry cmp es k v))
            → IsStrictlySortedBy cmp (keys_of (Chosen k v e es (cmp k e.0)))
        by Less f rest = subst (λ o. IsStrictlySortedBy cmp (keys_of (Chosen k v e es o))) (sym f)
            ((f, above-lower k e.0 es f r.0), r)
        by Equal f rest = subst (λ o. IsStrictlySortedBy cmp (keys_of (Chosen k v e es o))) (sym f) r
        by Greater f rest = subst (λ o. IsStrictlySortedBy cmp (keys_of (Chosen k v e es o))) (sym f)
            (above-put e.0 k v es (total.antisymm e.0 k ∙ ap ordering_reverse f) r.0, rest)

    above-removed : (x k : K) (es : List (K × V)) → AllByRecursion (λ z. cmp x z ≡ Less) (keys_of es)
        → AllByRecursion (λ z. cmp x z ≡ Less) (keys_of (remove_entry (is_at (cmp k)) es))
    above-removed x k [] a = tt
    above-removed x k (e ∷ es) a = by (is_at (cmp k) e.0) (above-removed x k es a.1)
      where
        by : (b : Bool) → AllByRecursion (λ z. cmp x z ≡ Less) (keys_of (remove_entry (is_at (cmp k)) es))
            → AllByRecursion (λ z. cmp x z ≡ Less) (keys_of (cond b es (e ∷ remove_entry (is_at (cmp k)) es)))
        by true rest = a.1
        by false rest = (a.0, rest)

    rise-removed : (k : K) (es : List (K × V)) → Rise es → Rise (remove_entry (is_at (cmp k)) es)
    unfolding IsStrictlySortedBy
    rise-removed k [] r = tt
    rise-removed k (e ∷ es) r = by (is_at (cmp k) e.0) (rise-removed k es r.1)
      where
        by : (b : Bool) → IsStrictlySortedBy cmp (keys_of (remove_entry (is_at (cmp k)) es))
            → IsStrictlySortedBy cmp (keys_of (cond b es (e ∷ remove_entry (is_at (cmp k)) es)))
        by true rest = r.1
        by false rest = (above-removed e.0 k es r.0, rest)

    pub rise-slot : (k : K) (slot : Option V) (es : List (K × V)) → Rise es → Rise (with_slot cmp k slot es)
    rise-slot k None es r = rise-removed k es r
    rise-slot k (Some v) es r = rise-put k v es r

    pub rise-laid : (slots : List (K × Option V)) (es : List (K × V)) → Rise es → Rise (overlaid cmp slots es)
    rise-laid [] es r = r
    rise-laid (x ∷ xs) es r = rise-slot x.0 x.1 (overlaid cmp xs es) (rise-laid xs es r)

    -- the value of a key after all changes
    pub at-laid : (slots : List (K × Option V)) (es : List (K × V)) → Rise es → (q : K)
        → value_at cmp q (overlaid cmp slots es) ≡ slot_or (value_at cmp q slots) (value_at cmp q es)
    at-laid [] es r q = refl
    at-laid (x ∷ xs) es r q =
        at-slot q x.0 x.1 (overlaid cmp xs es) (rise-laid xs es r)
        ∙ (ap (cond (is_at (cmp x.0) q) x.1) (at-laid xs es r q)
        ∙ (ap (λ b. cond b x.1 (slot_or (value_at cmp q xs) (value_at cmp q es))) (same-turned x.0 q)
        ∙ first (is_at (cmp q) x.0)))
      where
        first : (b : Bool) → cond b x.1 (slot_or (value_at cmp q xs) (value_at cmp q es))
            ≡ slot_or (cond b (Some x.1) (value_at cmp q xs)) (value_at cmp q es)
        first true = refl
        first false = refl

    -- entries that answer alike

    at-head : (x : K × V) (xs : List (K × V)) → value_at cmp x.0 (x ∷ xs) ≡ Some x.1
    at-head x xs = lookup_head (is_at (cmp x.0)) x xs (ap is_eq (tied_itself total x.0))

    past-head : (q : K) (x : K × V) (xs : List (K × V)) → Rise (x ∷ xs) → is_at (cmp q) x.0 ≡ true
        → value_at cmp q xs ≡ None
    past-head q x xs r t = lookup-none (is_at (cmp q)) xs
        (none_past_head (eq_by_cmp_equiv total) q x xs (IsDistinct-from_sorted cmp (keys_of (x ∷ xs)) r) t)

    module _ (x y : K × V) (xs ys : List (K × V)) (r : Rise (x ∷ xs)) (s : Rise (y ∷ ys)) (same : (q : K)
        → value_at cmp q (x ∷ xs) ≡ value_at cmp q (y ∷ ys)) where
      heads : (o : Ordering) → cmp x.0 y.0 ≡ o → cmp x.0 y.0 ≡ Equal
      heads Less p =
          absurd
          (some-none x.1 (sym (at-head x xs)
          ∙ (same x.0 ∙ lookup-none (is_at (cmp x.0)) (y ∷ ys) (none_below_head total x.0 y ys s p))))
      heads Equal p = p
      heads Greater p =
          absurd
          (some-none y.1 (sym (at-head y ys)
          ∙ (sym (same y.0) ∙ lookup-none (is_at (cmp y.0)) (x ∷ xs)
          (none_below_head total y.0 x xs r (total.antisymm y.0 x.0 ∙ ap ordering_reverse p)))))

      values : x.1 ≡ y.1
      values = same-some x.1 y.1 (sym (at-head x xs)
          ∙ (same x.0 ∙ lookup_head (is_at (cmp x.0)) y ys (ap is_eq (heads (cmp x.0 y.0) refl))))

      tails : (q : K) → value_at cmp q xs ≡ value_at cmp q ys
      tails q = by (is_at (cmp q) x.0) refl
        where
          e : is_at (cmp q) y.0 ≡ is_at (cmp q) x.0
          e = sym (ap is_eq (alike_right total x.0 y.0 q (heads (cmp x.0 y.0) refl)))

          by : (b : Bool) → is_at (cmp q) x.0 ≡ b → value_at cmp q xs ≡ value_at cmp q ys
          by true t = past-head q x xs r t ∙ sym (past-head q y ys s (e ∙ t))
          by false t = sym (lookup_tail (is_at (cmp q)) x xs t) ∙ (same q ∙ lookup_tail (is_at (cmp q)) y ys (e ∙ t))

    pub same-entries : CmpEqualImpliesEq cmp → (es fs : List (K × V)) → Rise es → Rise fs
        → ((q : K) → value_at cmp q es ≡ value_at cmp q fs) → es ≡ fs
    same-entries exact [] [] r s same = refl
    same-entries exact [] (y ∷ ys) r s same = absurd (some-none y.1 (sym (at-head y ys) ∙ sym (same y.0)))
    same-entries exact (x ∷ xs) [] r s same = absurd (some-none x.1 (sym (at-head x xs) ∙ same x.0))
    same-entries exact (x ∷ xs) (y ∷ ys) r s same =
        let rest = same-entries exact xs ys (sorted_tail cmp x.0 (keys_of xs) r) (sorted_tail cmp y.0 (keys_of ys) s)
        (tails x y xs ys r s same) in
        let key = exact x.0 y.0 (heads x y xs ys r s same (cmp x.0 y.0) refl) in
        let value = values x y xs ys r s same in
        λ i. (key i, value i) ∷ rest i

    module _ (exact : CmpEqualImpliesEq cmp) (base : List (K × V)) (r : Rise base) where
      -- what is drawn changes nothing
      pub drawn-same : (old new : List (K × Option V)) → AreDrawn cmp base old new
          → overlaid cmp new base ≡ overlaid cmp old base
      drawn-same old new d =
          same-entries exact (overlaid cmp new base) (overlaid cmp old base) (rise-laid new base r)
          (rise-laid old base r)
          (λ q. at-laid new base r q
          ∙ (by q (value_at cmp q old) refl (value_at cmp q new) refl ∙ sym (at-laid old base r q)))
        where
          by : (q : K) → (o : Option (Option V)) → value_at cmp q old ≡ o → (n : Option (Option V))
              → value_at cmp q new ≡ n
              → slot_or (value_at cmp q new) (value_at cmp q base) ≡ slot_or (value_at cmp q old) (value_at cmp q base)
          by q (Some slot) e n f = ap (λ (z : Option (Option V)). slot_or z (value_at cmp q base))
              (d.kept q slot e ∙ sym e)
          by q None e None f = ap (λ (z : Option (Option V)). slot_or z (value_at cmp q base)) (f ∙ sym e)
          by q None e (Some slot) f =
              ap (λ (z : Option (Option V)). slot_or z (value_at cmp q base)) f
              ∙ (d.fresh q slot f e ∙ sym (ap (λ (z : Option (Option V)). slot_or z (value_at cmp q base)) e))

      -- a slot that is written
      pub laid-slot : (k : K) (slot : Option V) (old new : List (K × Option V))
          → ((q : K) → value_at cmp q new ≡ cond (is_at (cmp k) q) (Some slot) (value_at cmp q old))
          → overlaid cmp new base ≡ with_slot cmp k slot (overlaid cmp old base)
      laid-slot k slot old new w =
          same-entries exact (overlaid cmp new base) (with_slot cmp k slot (overlaid cmp old base))
          (rise-laid new base r) (rise-slot k slot (overlaid cmp old base) (rise-laid old base r))
          (λ q. at-laid new base r q
          ∙ (ap (λ (z : Option (Option V)). slot_or z (value_at cmp q base)) (w q)
          ∙ (by (is_at (cmp k) q) q
          ∙ sym (at-slot q k slot (overlaid cmp old base) (rise-laid old base r)
          ∙ ap (cond (is_at (cmp k) q) slot) (at-laid old base r q)))))
        where
          by : (b : Bool) (q : K) → slot_or (cond b (Some slot) (value_at cmp q old)) (value_at cmp q base)
              ≡ cond b slot (slot_or (value_at cmp q old) (value_at cmp q base))
          by true q = refl
          by false q = refl

      -- what stands at keys that have slots doesn't matter
      pub laid-else : (slots : List (K × Option V)) (more : List (K × V)) → Rise more
          → IsSameElsewhere cmp slots base more → overlaid cmp slots more ≡ overlaid cmp slots base
      laid-else slots more s same =
          same-entries exact (overlaid cmp slots more) (overlaid cmp slots base) (rise-laid slots more s)
          (rise-laid slots base r)
          (λ q. at-laid slots more s q ∙ (by q (value_at cmp q slots) refl ∙ sym (at-laid slots base r q)))
        where
          by : (q : K) (o : Option (Option V)) → value_at cmp q slots ≡ o
              → slot_or (value_at cmp q slots) (value_at cmp q more)
              ≡ slot_or (value_at cmp q slots) (value_at cmp q base)
          by q None e = ap (slot_or (value_at cmp q slots)) (same q e)
          by q (Some slot) e =
              ap (λ (z : Option (Option V)). slot_or z (value_at cmp q more)) e
              ∙ sym (ap (λ (z : Option (Option V)). slot_or z (value_at cmp q base)) e)

    -- the value of another key
    removed-other : (q k : K) (es : List (K × V)) → is_at (cmp k) q ≡ false
        → value_at cmp q (remove_entry (is_at (cmp k)) es) ≡ value_at cmp q es
    removed-other q k [] f = refl
    removed-other q k (e ∷ es) f = by (is_at (cmp k) e.0) refl (removed-other q k es f)
      where
        apart : is_at (cmp k) e.0 ≡ true → (b : Bool) → is_at (cmp q) e.0 ≡ b → b ≡ false
        apart t true u =
            absurd (true≢false (sym (sym (same-key e.0 k q (same-turned e.0 k ∙ t)) ∙ (same-turned e.0 q ∙ u)) ∙ f))
        apart t false u = refl

        by : (b : Bool) → is_at (cmp k) e.0 ≡ b → value_at cmp q (remove_entry (is_at (cmp k)) es) ≡ value_at cmp q es
            → value_at cmp q (cond b es (e ∷ remove_entry (is_at (cmp k)) es)) ≡ value_at cmp q (e ∷ es)
        by true t rest = sym (ap (λ b. cond b (Some e.1) (value_at cmp q es)) (apart t (is_at (cmp q) e.0) refl))
        by false t rest = ap (cond (is_at (cmp q) e.0) (Some e.1)) rest

    pub slot-other : (q k : K) (slot : Option V) (es : List (K × V)) → is_at (cmp k) q ≡ false
        → value_at cmp q (with_slot cmp k slot es) ≡ value_at cmp q es
    slot-other q k None es f = removed-other q k es f
    slot-other q k (Some v) es f = at-put q k v es ∙ ap (λ b. cond b (Some v) (value_at cmp q es)) (same-turned q k ∙ f)

    -- a key that is put in where there is none, and taken out again
    pub put-removed : (k : K) (v : V) (es : List (K × V)) → value_at cmp k es ≡ None
        → remove_entry (is_at (cmp k)) (insert_entry cmp es k v) ≡ es
    put-removed k v [] n = ap (λ b. cond b [] ((k, v) ∷ [])) (ap is_eq (tied_itself total k))
    put-removed k v (e ∷ es) n = by (cmp k e.0) refl (put-removed k v es)
      where
        by : (o : Ordering) → cmp k e.0 ≡ o
            → (value_at cmp k es ≡ None → remove_entry (is_at (cmp k)) (insert_entry cmp es k v) ≡ es)
            → remove_entry (is_at (cmp k)) (Chosen k v e es (cmp k e.0)) ≡ e ∷ es
        by Less f rest = subst (λ o. remove_entry (is_at (cmp k)) (Chosen k v e es o) ≡ e ∷ es) (sym f)
            (ap (λ b. cond b (e ∷ es) ((k, v) ∷ remove_entry (is_at (cmp k)) (e ∷ es)))
            (ap is_eq (tied_itself total k)))
        by Equal f rest =
            absurd (some-none e.1 (sym (ap (λ b. cond b (Some e.1) (value_at cmp k es)) (ap is_eq f)) ∙ n))
        by Greater f rest =
            let apart = ap is_eq f in
            let later = rest (sym (ap (λ b. cond b (Some e.1) (value_at cmp k es)) apart) ∙ n) in
            subst (λ o. remove_entry (is_at (cmp k)) (Chosen k v e es o) ≡ e ∷ es) (sym f)
            (ap (λ b. cond b (insert_entry cmp es k v) (e ∷ remove_entry (is_at (cmp k)) (insert_entry cmp es k v)))
            apart ∙ ap (λ zs. e ∷ zs) later)

    -- one that isn't there is taken out
    pub none-removed : (k : K) (es : List (K × V)) → value_at cmp k es ≡ None → remove_entry (is_at (cmp k)) es ≡ es
    none-removed k [] n = refl
    none-removed k (e ∷ es) n = by (is_at (cmp k) e.0) refl (none-removed k es)
      where
        by : (b : Bool) → is_at (cmp k) e.0 ≡ b → (value_at cmp k es ≡ None → remove_entry (is_at (cmp k)) es ≡ es)
            → remove_entry (is_at (cmp k)) (e ∷ es) ≡ e ∷ es
        by true f rest = absurd (some-none e.1 (sym (ap (λ b. cond b (Some e.1) (value_at cmp k es)) f) ∙ n))
        by false f rest =
            ap (λ b. cond b es (e ∷ remove_entry (is_at (cmp k)) es)) f
            ∙ ap (λ zs. e ∷ zs) (rest (sym (ap (λ b. cond b (Some e.1) (value_at cmp k es)) f) ∙ n))

  -- the last of several comes first
  pub without-last : {V : Type 0} (ks : List K) (k : K) (es : List (K × V))
      → without cmp (ks ++ k ∷ []) es ≡ without cmp ks (remove_entry (is_at (cmp k)) es)
  without-last [] k es = refl
  without-last (x ∷ xs) k es = ap (remove_entry (is_at (cmp x))) (without-last xs k es)

  pub laid-last : {V : Type 0} (slots : List (K × Option V)) (x : K × Option V) (es : List (K × V))
      → overlaid cmp (slots ++ x ∷ []) es ≡ overlaid cmp slots (with_slot cmp x.0 x.1 es)
  laid-last [] x es = refl
  laid-last (y ∷ ys) x es = ap (with_slot cmp y.0 y.1) (laid-last ys x es)
