-- The ranking has the matches of the entries, each as often.
use Rattle.std.proofs.Common.{◌≡◌, ℕ, ◌+◌, Bool, true, false, not, cond, List, [], ◌∷◌, map, filter, find, refl, sym}
use Rattle.std.proofs.Common.{ap, subst, ◌∙◌, arith, Option, Some, None, count_by, ◌==◌, ◌&&◌, ◌++◌, zero-add}
use Rattle.std.proofs.Common.{option_to_list}
use Rattle.std.specs.Prelude.{IsPermutation}
use Rattle.std.specs.List.{list_any, IsDistinct}
use Rattle.std.proofs.lemmas.Bool.Decides.{Decides-eqb}
use Rattle.member_table.specs.Entries.{identity_of, has_serial, is_at, put}
use Rattle.match_index.specs.InsideGroups.{SameItems}
use Rattle.match_index.specs.Items.{has_id}
use Rattle.match_index.specs.declared.item.Item.{Item}
use Rattle.match_index.proofs.Counts.{one, count-cons, count-append, count-permuted}
use Rattle.member_table.specs.InsideRanking.{ranked_of, Exchanges}
use Rattle.member_table.specs.declared.entry.Entry.{Entry}
use Rattle.member_table.proofs.Lists.{IsOnce, filter-none, found_has, or_false}
use Rattle.member_table.proofs.Keyed.{each_found, once_key}

pub some_is : {X : Type 0} (x y : X) → Some x ≡ Some y → x ≡ y
some_is x y e = cc

-- what stays of a list, counted
pub count-filter : {X : Type 0} (q g : X → Bool) (xs : List X)
    → count_by q (filter g xs) ≡ count_by (λ r. g r && q r) xs
count-filter q g [] = refl
count-filter q g (x ∷ xs) = by (g x) (count-filter q g xs) ∙ sym (count-cons (λ r. g r && q r) x xs)
  where
    by : (b : Bool) → count_by q (filter g xs) ≡ count_by (λ r. g r && q r) xs
        → count_by q (cond b (x ∷ filter g xs) (filter g xs)) ≡ one (b && q x) + count_by (λ r. g r && q r) xs
    by true r = count-cons q x (filter g xs) ∙ ap (λ n. one (q x) + n) r
    by false r = r ∙ sym (zero-add _)

-- lists with the same items have the same of them that pass
pub same_filter : (g : Item → Bool) (xs ys : List Item) → SameItems xs ys → SameItems (filter g xs) (filter g ys)
same_filter g xs ys e p = count-filter p g xs ∙ (e (λ r. g r && p r) ∙ sym (count-filter p g ys))

-- without the entry of a number
pub count_dropped : (p : Item → Bool) (s : ℕ) (es : List Entry) (e : Entry) → IsOnce (has_serial s) es
    → find (has_serial s) es ≡ Some e
    → count_by p (map ranked_of es) ≡ count_by p (map ranked_of (filter (λ x. not (has_serial s x)) es)) + one
    (p (ranked_of e))
count_dropped p s [] e o f = absurd (cc)
count_dropped p s (x ∷ es) e o f = by (has_serial s x) refl (count_dropped p s es e o.1)
  where
    by : (b : Bool) → has_serial s x ≡ b
        → (find (has_serial s) es ≡ Some e
        → count_by p (map ranked_of es) ≡ count_by p (map ranked_of (filter (λ y. not (has_serial s y)) es)) + one
        (p (ranked_of e)))
        → count_by p (map ranked_of (x ∷ es)) ≡ count_by p (map ranked_of (filter (λ y. not (has_serial s y)) (x ∷ es)))
        + one (p (ranked_of e))
    by true t r =
        let same = some_is x e (sym (ap (λ b. cond b (Some x) (find (has_serial s) es)) t) ∙ f) in
        let rest = filter-none (has_serial s) es (o.0 t) in
        let start = count-cons p (ranked_of x) (map ranked_of es) in
        let shown : count_by p (map ranked_of (filter (λ y. not (has_serial s y)) (x ∷ es)))
        ≡ count_by p (map ranked_of es) = rw t (ap (λ ys. count_by p (map ranked_of ys)) rest) in
        let last : one (p (ranked_of x)) ≡ one (p (ranked_of e)) = ap (λ z. one (p (ranked_of z))) same in
        omega (arith, start, shown, last)
    by false t r =
        let rest = r (sym (ap (λ b. cond b (Some x) (find (has_serial s) es)) t) ∙ f) in
        let start = count-cons p (ranked_of x) (map ranked_of es) in
        let shown : count_by p (map ranked_of (filter (λ y. not (has_serial s y)) (x ∷ es)))
        ≡ one (p (ranked_of x)) + count_by p (map ranked_of (filter (λ y. not (has_serial s y)) es)) =
        rw t (count-cons p (ranked_of x) (map ranked_of (filter (λ y. not (has_serial s y)) es))) in
        omega (arith, start, shown, rest)

-- with a new one, in the place of the identical one
abbrev pub CountsPut : (Item → Bool) → Entry → List Entry → Option Entry → Type 0
CountsPut p new es None = count_by p (map ranked_of (put new es))
    ≡ count_by p (map ranked_of es) + one (p (ranked_of new))
CountsPut p new es (Some old) = count_by p (map ranked_of (put new es)) + one (p (ranked_of old))
    ≡ count_by p (map ranked_of es) + one (p (ranked_of new))

count_put_more : (p : Item → Bool) (new x : Entry) (es : List Entry) (o : Option Entry)
    → is_at (identity_of new) x ≡ false → CountsPut p new es o → CountsPut p new (x ∷ es) o
count_put_more p new x es None t r =
    let start = count-cons p (ranked_of x) (map ranked_of es) in
    let shown : count_by p (map ranked_of (put new (x ∷ es)))
    ≡ one (p (ranked_of x)) + count_by p (map ranked_of (put new es)) =
    rw t (count-cons p (ranked_of x) (map ranked_of (put new es))) in
    omega (arith, start, shown, r)
count_put_more p new x es (Some old) t r =
    let start = count-cons p (ranked_of x) (map ranked_of es) in
    let shown : count_by p (map ranked_of (put new (x ∷ es)))
    ≡ one (p (ranked_of x)) + count_by p (map ranked_of (put new es)) =
    rw t (count-cons p (ranked_of x) (map ranked_of (put new es))) in
    omega (arith, start, shown, r)

pub count_put : (p : Item → Bool) (new : Entry) (es : List Entry)
    → CountsPut p new es (find (is_at (identity_of new)) es)
count_put p new [] = let s = count-cons p (ranked_of new) [] in omega (arith, s)
count_put p new (x ∷ es) = by (is_at (identity_of new) x) refl (count_put p new es)
  where
    by : (b : Bool) → is_at (identity_of new) x ≡ b → CountsPut p new es (find (is_at (identity_of new)) es)
        → CountsPut p new (x ∷ es) (find (is_at (identity_of new)) (x ∷ es))
    by true t r =
        let start = count-cons p (ranked_of x) (map ranked_of es) in
        let shown : count_by p (map ranked_of (put new (x ∷ es)))
        ≡ one (p (ranked_of new)) + count_by p (map ranked_of es) =
        rw t (count-cons p (ranked_of new) (map ranked_of es)) in
        let P : Option Entry → Type 0 = CountsPut p new (x ∷ es) in
        subst P (ap (λ b. cond b (Some x) (find (is_at (identity_of new)) es)) (sym t)) (omega (arith, start, shown))
    by false t r = let P : Option Entry → Type 0 = CountsPut p new (x ∷ es) in
        subst P (ap (λ b. cond b (Some x) (find (is_at (identity_of new)) es)) (sym t))
        (count_put_more p new x es (find (is_at (identity_of new)) es) t r)

-- what a ranking has of the entries that stay
pub filter-ranked : (g : Item → Bool) (es : List Entry)
    → filter g (map ranked_of es) ≡ map ranked_of (filter (λ e. g (ranked_of e)) es)
filter-ranked g [] = refl
filter-ranked g (e ∷ es) = by (g (ranked_of e)) (filter-ranked g es)
  where
    by : (b : Bool) → filter g (map ranked_of es) ≡ map ranked_of (filter (λ x. g (ranked_of x)) es)
        → cond b (ranked_of e ∷ filter g (map ranked_of es)) (filter g (map ranked_of es))
        ≡ map ranked_of (cond b (e ∷ filter (λ x. g (ranked_of x)) es) (filter (λ x. g (ranked_of x)) es))
    by true r = ap (λ xs. ranked_of e ∷ xs) r
    by false r = r

pub same_left : (g : Item → Bool) (items items' : List Item) (es : List Entry) → SameItems items (map ranked_of es)
    → SameItems (filter g items) items' → SameItems items' (map ranked_of (filter (λ e. g (ranked_of e)) es))
same_left g items items' es k r p = sym (r p)
    ∙ (same_filter g items (map ranked_of es) k p ∙ ap (count_by p) (filter-ranked g es))

-- the two exchanges keep pace
pub exchange_follows : (new : Entry) (es : List Entry) (old : List Item) (items : List Item)
    → IsDistinct ◌==◌ (map (λ (x : Entry). x.serial) es) → SameItems old (map ranked_of es)
    → Exchanges (find (is_at (identity_of new)) es) (ranked_of new) old items
    → SameItems items (map ranked_of (put new es))
exchange_follows new es old items once same x p = by (find (is_at (identity_of new)) es) refl x (count_put p new es)
  where
    by : (o : Option Entry) → find (is_at (identity_of new)) es ≡ o → Exchanges o (ranked_of new) old items
        → CountsPut p new es o → count_by p items ≡ count_by p (map ranked_of (put new es))
    by None f x r = let a = x p in let b = same p in omega (arith, a, b, r)
    by (Some y) f x r =
        let a = x p in
        let b : count_by p (filter (λ i. not (has_id y.serial i)) old)
        ≡ count_by p (map ranked_of (filter (λ z. not (has_serial y.serial z)) es)) =
        same_left (λ i. not (has_id y.serial i)) old (filter (λ i. not (has_id y.serial i)) old) es same (λ q. refl)
        p in
        let own = found_has (λ z. find (has_serial z.serial) es ≡ Some z) (is_at (identity_of new)) es y
        (each_found ◌==◌ Decides-eqb (λ z. z.serial) es once) f in
        let c = count_dropped p y.serial es y (once_key ◌==◌ Decides-eqb (λ z. z.serial) y.serial es once) own in
        omega (arith, a, b, c, r)

-- all but the item of an id, counted
pub count_left : (p q : Item → Bool) (xs : List Item) → IsOnce q xs
    → count_by p xs ≡ count_by p (option_to_list (find q xs)) + count_by p (filter (λ x. not (q x)) xs)
count_left p q [] o = refl
count_left p q (x ∷ xs) o = by (q x) refl (count_left p q xs o.1)
  where
    by : (b : Bool) → q x ≡ b
        → count_by p xs ≡ count_by p (option_to_list (find q xs)) + count_by p (filter (λ y. not (q y)) xs)
        → count_by p (x ∷ xs) ≡ count_by p (option_to_list (cond b (Some x) (find q xs))) + count_by p
        (cond (not b) (x ∷ filter (λ y. not (q y)) xs) (filter (λ y. not (q y)) xs))
    by true t r =
        let start = count-cons p x xs in
        let alone = count-cons p x [] in
        let rest = ap (count_by p) (filter-none q xs (o.0 t)) in
        omega (arith, start, alone, rest)
    by false t r =
        let start = count-cons p x xs in
        let more = count-cons p x (filter (λ y. not (q y)) xs) in
        omega (arith, start, more, r)

-- what a removal by id leaves
pub left_by_id : (q : Item → Bool) (xs ys : List Item) → IsOnce q xs
    → IsPermutation xs (option_to_list (find q xs) ++ ys) → SameItems (filter (λ x. not (q x)) xs) ys
left_by_id q xs ys o h p =
    let a = count-permuted p xs (option_to_list (find q xs) ++ ys) h in
    let b = count-append p (option_to_list (find q xs)) ys in
    let c = count_left p q xs o in
    omega (arith, a, b, c)

-- what passes nowhere passes nowhere in what stays
pub none_left : {X : Type 0} (q g : X → Bool) (xs : List X) → list_any q xs ≡ false → list_any q (filter g xs) ≡ false
none_left q g [] h = refl
none_left q g (x ∷ xs) h = let o = or_false (q x) (list_any q xs) h in by (g x) o.0 (none_left q g xs o.1)
  where
    by : (b : Bool) → q x ≡ false → list_any q (filter g xs) ≡ false
        → list_any q (cond b (x ∷ filter g xs) (filter g xs)) ≡ false
    by true n r = rw n r
    by false n r = r
