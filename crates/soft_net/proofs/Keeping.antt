-- What a table keeps where an entry comes or goes.
use Rattle.std.proofs.Common.{◌≡◌, ◌∙◌, ℕ, ◌+◌, ◌<◌, ◌≤◌, ◌==◌, Bool, true, false, ◌||◌, ◌&&◌, not, List, [], ◌∷◌, ◌++◌}
use Rattle.std.proofs.Common.{map, filter, find, Some, None, Option, cond, refl, sym, ap, ap₂, subst, count_by}
use Rattle.std.proofs.Common.{arith, true≢false, eqb-true, eq-eqb, ne_eqb, option_to_list, Decides}
use Rattle.std.specs.BTreeMap.{insert_entry, is_at as is_at_key}
use Rattle.std.specs.List.{AllByRecursion, list_any}
use Rattle.std.specs.Map.{remove_entry}
use Rattle.std.specs.Ordering.{nat_cmp}
use Rattle.std.specs.Prelude.{IfSome, IsPermutation}
use Rattle.std.proofs.lemmas.Bool.Decides.{Decides-eqb, Decides-and, Decides-like}
use Rattle.of10_match.specs.Same.{same_match}
use Rattle.of10_match.proofs.Same.{match_decides}
use Rattle.match_index.specs.InsideGroups.{SameItems}
use Rattle.match_index.specs.Items.{has_id}
use Rattle.match_index.specs.declared.item.Item.{Item}
use Rattle.match_index.proofs.Counts.{one, count-cons, count-append, count-permuted}
use Rattle.soft_net.specs.Entries.{IsAsWritten, has_serial, is_at, item_of, key_of, same_key}
use Rattle.soft_net.specs.InsideTables.{AreRising, IsKeyed, IsListing, entries_in, under_serial}
use Rattle.soft_net.specs.declared.entry.Key.{Key}
use Rattle.soft_net.specs.declared.entry.SoftEntry.{SoftEntry}
use Rattle.soft_net.proofs.Listing.{all_filter, all_filtered, all_map, all_push, below_differ}
use Rattle.soft_net.proofs.Listing.{in_under, inserted_under, others_differ, removed_under, rising_filter, rising_push}

-- ---- what is counted

pub count_split : {X : Type 0} (h p : X → Bool) (xs : List X)
    → count_by p xs ≡ count_by (λ r. not (h r) && p r) xs + count_by (λ r. h r && p r) xs
count_split h p [] = refl
count_split h p (x ∷ xs) =
    let a = count-cons p x xs in
    let b = count-cons (λ r. not (h r) && p r) x xs in
    let c = count-cons (λ r. h r && p r) x xs in
    let d = count_split h p xs in
    let e = parts (h x) (p x) in
    omega (arith, a, b, c, d, e)
  where
    parts : (s t : Bool) → one t ≡ one (not s && t) + one (s && t)
    parts true true = refl
    parts true false = refl
    parts false true = refl
    parts false false = refl

pub count_fewer : {X : Type 0} (h p : X → Bool) (xs : List X) → count_by (λ r. h r && p r) xs ≤ count_by h xs
count_fewer h p [] = omega arith
count_fewer h p (x ∷ xs) =
    let a = count-cons h x xs in
    let b = count-cons (λ r. h r && p r) x xs in
    let c = count_fewer h p xs in
    let d = fewer (h x) (p x) in
    omega (arith, a, b, c, d)
  where
    fewer : (s t : Bool) → one (s && t) ≤ one s
    fewer true true = omega arith
    fewer true false = omega arith
    fewer false t = omega arith

-- none passes what each fails
pub count_no : {X : Type 0} (p : X → Bool) (xs : List X) → AllByRecursion (λ x. p x ≡ false) xs → count_by p xs ≡ 0
count_no p [] a = refl
count_no p (x ∷ xs) a =
    let c = count-cons p x xs in
    let n = ap one a.0 in
    let r = count_no p xs a.1 in
    omega (arith, c, n, r)

-- what the search for one finds
pub found_passes : {X : Type 0} (p : X → Bool) (xs : List X) (x : X) → find p xs ≡ Some x → p x ≡ true
found_passes p [] x e = absurd (cc)
found_passes {X = X} p (y ∷ ys) x e = by (p y) refl (found_passes p ys x)
  where
    some_is : (a b : X) → Some a ≡ Some b → a ≡ b
    some_is a b q = cc

    by : (b : Bool) → p y ≡ b → (find p ys ≡ Some x → p x ≡ true) → p x ≡ true
    by true t r = ap p (sym (some_is y x (sym (ap (λ b. cond b (Some y) (find p ys)) t) ∙ e))) ∙ t
    by false t r = r (sym (ap (λ b. cond b (Some y) (find p ys)) t) ∙ e)

pub found_none : {X : Type 0} (p : X → Bool) (xs : List X) → find p xs ≡ None → AllByRecursion (λ x. p x ≡ false) xs
found_none p [] e = tt
found_none p (y ∷ ys) e = by (p y) refl (λ f. found_none p ys f)
  where
    by : (b : Bool) → p y ≡ b → (find p ys ≡ None → AllByRecursion (λ x. p x ≡ false) ys)
        → AllByRecursion (λ x. p x ≡ false) (y ∷ ys)
    by true t r = let q : Some y ≡ None = sym (ap (λ b. cond b (Some y) (find p ys)) t) ∙ e in absurd (cc)
    by false t r = (t, r (sym (ap (λ b. cond b (Some y) (find p ys)) t) ∙ e))

-- what holds of each holds of what is found
pub found_each : {X : Type 0} (P : X → Type 0) (p : X → Bool) (xs : List X) (x : X) → AllByRecursion P xs
    → find p xs ≡ Some x → P x
found_each P p [] x a e = absurd (cc)
found_each {X = X} P p (y ∷ ys) x a e = by (p y) refl (λ f. found_each P p ys x a.1 f)
  where
    some_is : (a b : X) → Some a ≡ Some b → a ≡ b
    some_is a b q = cc

    by : (b : Bool) → p y ≡ b → (find p ys ≡ Some x → P x) → P x
    by true t r = subst P (some_is y x (sym (ap (λ b. cond b (Some y) (find p ys)) t) ∙ e)) a.0
    by false t r = r (sym (ap (λ b. cond b (Some y) (find p ys)) t) ∙ e)

-- of rising numbers one at most is this one
pub count_once : (s : ℕ) (es : List SoftEntry) → AreRising es → count_by (has_id s) (map item_of es) ≤ 1
count_once s [] r = omega arith
count_once s (e ∷ es) r = by (has_serial s e) refl (count_once s es r.1)
  where
    by : (b : Bool) → has_serial s e ≡ b → count_by (has_id s) (map item_of es) ≤ 1
        → count_by (has_id s) (map item_of (e ∷ es)) ≤ 1
    by true t m =
        let n = eqb-true s e.serial t in
        let D : ℕ → Type 0 = λ k. AllByRecursion (λ d. has_serial k d ≡ false) es in
        let none = count_no_items s es (subst D (sym n) (others_differ e es r.0)) in
        let c = count-cons (has_id s) (item_of e) (map item_of es) in
        let f = ap one t in
        omega (arith, none, c, f)
      where
        count_no_items : (k : ℕ) (ds : List SoftEntry) → AllByRecursion (λ d. has_serial k d ≡ false) ds
            → count_by (has_id k) (map item_of ds) ≡ 0
        count_no_items k [] a = refl
        count_no_items k (d ∷ ds) a =
            let c = count-cons (has_id k) (item_of d) (map item_of ds) in
            let f = ap one a.0 in
            let g = count_no_items k ds a.1 in
            omega (arith, c, f, g)
    by false t m =
        let c = count-cons (has_id s) (item_of e) (map item_of es) in
        let f = ap one t in
        omega (arith, m, c, f)

-- what is counted of the others
count_kept : (p : Item → Bool) (s : ℕ) (es : List SoftEntry)
    → count_by (λ r. not (has_id s r) && p r) (map item_of es)
    ≡ count_by p (map item_of (filter (λ e. not (has_serial s e)) es))
count_kept p s [] = refl
count_kept p s (e ∷ es) = by (has_serial s e) refl (count_kept p s es)
  where
    by : (b : Bool) → has_serial s e ≡ b
        → count_by (λ r. not (has_id s r) && p r) (map item_of es)
        ≡ count_by p (map item_of (filter (λ d. not (has_serial s d)) es))
        → count_by (λ r. not (has_id s r) && p r) (map item_of (e ∷ es))
        ≡ count_by p (map item_of (filter (λ d. not (has_serial s d)) (e ∷ es)))
    by true t m =
        let c = count-cons (λ r. not (has_id s r) && p r) (item_of e) (map item_of es) in
        let f : one (not (has_serial s e) && p (item_of e)) ≡ 0 = ap (λ b. one (not b && p (item_of e))) t in
        let g : count_by p (map item_of (filter (λ d. not (has_serial s d)) (e ∷ es)))
        ≡ count_by p (map item_of (filter (λ d. not (has_serial s d)) es)) =
        ap (λ b. count_by p (map item_of (cond (not b) (e ∷ filter (λ d. not (has_serial s d)) es)
        (filter (λ d. not (has_serial s d)) es)))) t in
        omega (arith, c, f, g, m)
    by false t m =
        let c = count-cons (λ r. not (has_id s r) && p r) (item_of e) (map item_of es) in
        let f : one (not (has_serial s e) && p (item_of e)) ≡ one (p (item_of e)) =
        ap (λ b. one (not b && p (item_of e))) t in
        let g : count_by p (map item_of (filter (λ d. not (has_serial s d)) (e ∷ es)))
        ≡ one (p (item_of e)) + count_by p (map item_of (filter (λ d. not (has_serial s d)) es)) =
        ap (λ b. count_by p (map item_of (cond (not b) (e ∷ filter (λ d. not (has_serial s d)) es)
        (filter (λ d. not (has_serial s d)) es)))) t
        ∙ count-cons p (item_of e) (map item_of (filter (λ d. not (has_serial s d)) es)) in
        omega (arith, c, f, g, m)

-- the index without an item follows the entries without theirs
ranked_less : (s : ℕ) (es : List SoftEntry) (items items' : List Item) → AreRising es
    → SameItems items (map item_of es) → IsPermutation items (option_to_list (find (has_id s) items) ++ items')
    → SameItems items' (map item_of (filter (λ e. not (has_serial s e)) es))
ranked_less s es items items' r same h p =
    let q : Item → Bool = λ x. not (has_id s x) && p x in
    let o = option_to_list (find (has_id s) items) in
    let a = count-permuted q items (o ++ items') h in
    let b = count-append q o items' in
    let c = same q in
    let d = count_kept p s es in
    let e = count_split (has_id s) p items' in
    let f = count_fewer (has_id s) p items' in
    let g = count-permuted (has_id s) items (o ++ items') h in
    let i = count-append (has_id s) o items' in
    let j = same (has_id s) in
    let k = count_once s es r in
    let l = alone (find (has_id s) items) refl in
    let m : count_by q o ≡ 0 = l.0 in
    let n : count_by (has_id s) items' ≡ 0 = l.1 (omega (arith, g, i, j, k)) in
    omega (arith, a, b, c, d, e, f, m, n)
  where
    alone : (o : Option Item) → find (has_id s) items ≡ o
        → (count_by (λ x. not (has_id s x) && p x) (option_to_list o) ≡ 0)
        × (count_by (has_id s) (option_to_list o) + count_by (has_id s) items' ≤ 1
        → count_by (has_id s) items' ≡ 0)
    alone None t =
        let z = count_no (has_id s) items (found_none (has_id s) items t) in
        let g = count-permuted (has_id s) items (option_to_list (find (has_id s) items) ++ items') h in
        let i = count-append (has_id s) (option_to_list (find (has_id s) items)) items' in
        (refl, λ le. omega (arith, z, g, i))
    alone (Some x) t =
        let y = found_passes (has_id s) items x t in
        let c = count-cons (λ z. not (has_id s z) && p z) x [] in
        let d : one (not (has_id s x) && p x) ≡ 0 = ap (λ b. one (not b && p x)) y in
        let f = count-cons (has_id s) x [] in
        let g = ap one y in
        (omega (arith, c, d), λ le. omega (arith, le, f, g))

map_push : {X Y : Type 0} (f : X → Y) (xs : List X) (x : X) → map f (xs ++ x ∷ []) ≡ map f xs ++ f x ∷ []
map_push f [] x = refl
map_push f (y ∷ ys) x = ap (λ zs. f y ∷ zs) (map_push f ys x)

-- ---- the listing

pub remove_listing : (s : ℕ) (pairs pairs' : List (ℕ × SoftEntry)) (items items' : List Item) (next : ℕ)
    → IsListing pairs items next → pairs' ≡ remove_entry (is_at_key (nat_cmp s)) pairs
    → IsPermutation items (option_to_list (find (has_id s) items) ++ items')
    → IsListing pairs' items' next × (entries_in pairs' ≡ filter (λ e. not (has_serial s e)) (entries_in pairs))
remove_listing s pairs pairs' items items' next l is h =
    let es = entries_in pairs in
    let g : SoftEntry → Bool = λ e. not (has_serial s e) in
    let left = filter g es in
    let moved : pairs' ≡ map under_serial left =
    is ∙ (ap (remove_entry (is_at_key (nat_cmp s))) l.listed ∙ removed_under s es l.rising) in
    let inside : entries_in pairs' ≡ left = ap entries_in moved ∙ in_under left in
    let B : List SoftEntry → Type 0 = λ xs. AllByRecursion (λ (e : SoftEntry). e.serial < next) xs in
    let R : List SoftEntry → Type 0 = λ xs. SameItems items' (map item_of xs) in
    let W : List SoftEntry → Type 0 = λ xs. AllByRecursion IsAsWritten xs in (
      record {
        listed = moved ∙ ap (map under_serial) (sym inside);
        rising = subst AreRising (sym inside) (rising_filter g es l.rising);
        below = subst B (sym inside) (all_filter (λ (e : SoftEntry). e.serial < next) g es l.below);
        ranked = subst R (sym inside) (ranked_less s es items items' l.rising l.ranked h);
        written = subst W (sym inside) (all_filter IsAsWritten g es l.written);
      },
      inside,
    )

pub push_listing : (new : SoftEntry) (pairs pairs' : List (ℕ × SoftEntry)) (items items' : List Item) (next : ℕ)
    → IsListing pairs items next → new.serial ≡ next → IsAsWritten new → pairs' ≡ insert_entry nat_cmp pairs next new
    → items' ≡ items ++ item_of new ∷ []
    → IsListing pairs' items' (next + 1) × (entries_in pairs' ≡ entries_in pairs ++ new ∷ [])
push_listing new pairs pairs' items items' next l serial written is more =
    let es = entries_in pairs in
    let all = es ++ new ∷ [] in
    let Below : ℕ → Type 0 = λ n. AllByRecursion (λ (e : SoftEntry). e.serial < n) es in
    let under : AllByRecursion (λ (e : SoftEntry). e.serial < new.serial) es = subst Below (sym serial) l.below in
    let moved : pairs' ≡ map under_serial all =
    is ∙ (ap₂ (λ ps k. insert_entry nat_cmp ps k new) l.listed (sym serial) ∙ inserted_under es new under) in
    let inside : entries_in pairs' ≡ all = ap entries_in moved ∙ in_under all in
    let B : List SoftEntry → Type 0 = λ xs. AllByRecursion (λ (e : SoftEntry). e.serial < next + 1) xs in
    let R : List SoftEntry → Type 0 = λ xs. SameItems items' (map item_of xs) in
    let W : List SoftEntry → Type 0 = λ xs. AllByRecursion IsAsWritten xs in (
      record {
        listed = moved ∙ ap (map under_serial) (sym inside);
        rising = subst AreRising (sym inside) (rising_push es new l.rising under);
        below = subst B (sym inside) (all_push (λ (e : SoftEntry). e.serial < next + 1) es new
            (all_map (λ (e : SoftEntry). e.serial < next) (λ (e : SoftEntry). e.serial < next + 1) es
            (λ e k. omega (arith, k)) l.below) (omega (arith, serial)));
        ranked = subst R (sym inside) (λ p. ap (count_by p) more ∙ (count-append p items (item_of new ∷ [])
            ∙ (ap (λ n. n + count_by p (item_of new ∷ [])) (l.ranked p)
            ∙ (sym (count-append p (map item_of es) (item_of new ∷ [])) ∙ ap (count_by p) (sym (map_push item_of es new))))));
        written = subst W (sym inside) (all_push IsAsWritten es new l.written written);
      },
      inside,
    )

-- ---- the keys

pub key_decides : (a b : Key) → Decides (same_key a b) (a ≡ b)
key_decides a b =
    Decides-like (same_key a b)
    (λ (t : (a.m ≡ b.m) × (a.priority ≡ b.priority)). λ i. record { m = t.0 i; priority = t.1 i })
    (λ e. (ap (λ (z : Key). z.m) e, ap (λ (z : Key). z.priority) e))
    (Decides-and (same_match a.m b.m) (a.priority == b.priority) (match_decides a.m b.m)
    (Decides-eqb a.priority b.priority))

-- two keys differ from either side
turned : (a b : Key) → same_key a b ≡ false → same_key b a ≡ false
turned a b f = by (same_key b a) refl
  where
    by : (c : Bool) → same_key b a ≡ c → same_key b a ≡ false
    by true t = absurd (true≢false (sym ((key_decides a b).1 (sym ((key_decides b a).0 t))) ∙ f))
    by false t = t

itself : (k : Key) → same_key k k ≡ true
itself k = (key_decides k k).1 refl

-- what passes and stays passes among those that stay
any_left : (p g : SoftEntry → Bool) (es : List SoftEntry) → AllByRecursion (λ e. p e ≡ true → g e ≡ true) es
    → list_any p es ≡ true → list_any p (filter g es) ≡ true
any_left p g [] a t = t
any_left p g (e ∷ es) a t = by (p e) refl (g e) refl (λ m. any_left p g es a.1 m)
  where
    by : (b : Bool) → p e ≡ b → (d : Bool) → g e ≡ d → (list_any p es ≡ true → list_any p (filter g es) ≡ true)
        → list_any p (filter g (e ∷ es)) ≡ true
    by true x true y r = ap (λ c. list_any p (cond c (e ∷ filter g es) (filter g es))) y
        ∙ ap (λ c. c || list_any p (filter g es)) x
    by true x false y r = absurd (true≢false (sym (a.0 x) ∙ y))
    by false x true y r =
        ap (λ c. list_any p (cond c (e ∷ filter g es) (filter g es))) y
        ∙ (ap (λ c. c || list_any p (filter g es)) x ∙ r (sym (ap (λ c. c || list_any p es) x) ∙ t))
    by false x false y r =
        ap (λ c. list_any p (cond c (e ∷ filter g es) (filter g es))) y
        ∙ r (sym (ap (λ c. c || list_any p es) x) ∙ t)

any_push : (p : SoftEntry → Bool) (es : List SoftEntry) (new : SoftEntry) → list_any p es ≡ true
    → list_any p (es ++ new ∷ []) ≡ true
any_push p [] new t = absurd (true≢false (sym t))
any_push p (e ∷ es) new t = by (p e) refl (λ m. any_push p es new m)
  where
    by : (b : Bool) → p e ≡ b → (list_any p es ≡ true → list_any p (es ++ new ∷ []) ≡ true)
        → list_any p (e ∷ (es ++ new ∷ [])) ≡ true
    by true x r = ap (λ c. c || list_any p (es ++ new ∷ [])) x
    by false x r = ap (λ c. c || list_any p (es ++ new ∷ [])) x ∙ r (sym (ap (λ c. c || list_any p es) x) ∙ t)

any_last : (p : SoftEntry → Bool) (es : List SoftEntry) (new : SoftEntry) → p new ≡ true
    → list_any p (es ++ new ∷ []) ≡ true
any_last p [] new t = ap (λ c. c || false) t
any_last p (e ∷ es) new t = by (p e) (any_last p es new t)
  where
    by : (b : Bool) → list_any p (es ++ new ∷ []) ≡ true → (b || list_any p (es ++ new ∷ [])) ≡ true
    by true m = refl
    by false m = m

-- what passes somewhere isn't refused everywhere
pub any_not_all : (p : SoftEntry → Bool) (es : List SoftEntry) → list_any p es ≡ true
    → AllByRecursion (λ e. p e ≡ false) es → ⊥
any_not_all p [] t a = true≢false (sym t)
any_not_all p (e ∷ es) t a = any_not_all p es (sym (ap (λ c. c || list_any p es) a.0) ∙ t) a.1

pub not_true : (b : Bool) → not b ≡ true → b ≡ false
not_true true e = sym e
not_true false e = refl

-- an entry goes, and its key with it
pub keyed_less : (number number' : Key → Option ℕ) (es : List SoftEntry) (s : ℕ) (e : SoftEntry)
    → ((k : Key) → IsKeyed (number k) k es) → find (has_serial s) es ≡ Some e
    → ((k : Key) → number' k ≡ cond (same_key (key_of e) k) None (number k))
    → (k : Key) → IsKeyed (number' k) k (filter (λ d. not (has_serial s d)) es)
keyed_less number number' es s e keyed found less k =
    let I : Option ℕ → Type 0 = λ o. IsKeyed o k (filter (λ d. not (has_serial s d)) es) in
    subst I (sym (less k)) (by (same_key (key_of e) k) refl (number k) refl (keyed k))
  where
    own : s ≡ e.serial
    own = eqb-true s e.serial (found_passes (has_serial s) es e found)

    by : (b : Bool) → same_key (key_of e) k ≡ b → (o : Option ℕ) → number k ≡ o → IsKeyed o k es
        → IsKeyed (cond b None o) k (filter (λ d. not (has_serial s d)) es)
    by true t None n a =
        let here : is_at k e ≡ true = (key_decides k (key_of e)).1 (sym ((key_decides (key_of e) k).0 t)) in
        absurd (true≢false (sym here ∙ found_each (λ d. is_at k d ≡ false) (has_serial s) es e a found))
    by true t (Some u) n a =
        let here : is_at k e ≡ true = (key_decides k (key_of e)).1 (sym ((key_decides (key_of e) k).0 t)) in
        let there : is_at k e ≡ has_serial u e = found_each (λ d. is_at k d ≡ has_serial u d) (has_serial s) es e a.0 found in
        let same : u ≡ s = eqb-true u e.serial (sym there ∙ here) ∙ sym own in
        all_filtered (λ d. is_at k d ≡ false) (λ d. not (has_serial s d)) es
        (all_map (λ d. is_at k d ≡ has_serial u d) (λ d. not (has_serial s d) ≡ true → is_at k d ≡ false) es
        (λ d m g. m ∙ (ap (λ v. has_serial v d) same ∙ not_true (has_serial s d) g)) a.0)
    by false t None n a = all_filter (λ d. is_at k d ≡ false) (λ d. not (has_serial s d)) es a
    by false t (Some u) n a =
        let other : u ≡ s → ⊥ = λ same.
        true≢false (sym (found_each (λ d. is_at k d ≡ has_serial u d) (has_serial s) es e a.0 found
        ∙ eq-eqb u e.serial (same ∙ own)) ∙ turned (key_of e) k t) in (
          all_filter (λ d. is_at k d ≡ has_serial u d) (λ d. not (has_serial s d)) es a.0,
          any_left (has_serial u) (λ d. not (has_serial s d)) es (each es other) a.1,
        )
      where
        each : (ds : List SoftEntry) → (u ≡ s → ⊥)
            → AllByRecursion (λ d. has_serial u d ≡ true → not (has_serial s d) ≡ true) ds
        each [] other = tt
        each (d ∷ ds) other =
            ((λ m. ap not (ne_eqb s d.serial (λ i. other (eqb-true u d.serial m ∙ sym i)))), each ds other)

-- an entry comes, and takes its key
pub keyed_more : (number number' : Key → Option ℕ) (es : List SoftEntry) (new : SoftEntry)
    → ((k : Key) → IsKeyed (number k) k es) → AllByRecursion (λ (e : SoftEntry). e.serial < new.serial) es
    → ((k : Key) → number' k ≡ cond (same_key (key_of new) k) (Some new.serial) (number k))
    → (k : Key) → IsKeyed (number' k) k (filter (λ d. not (is_at (key_of new) d)) es ++ new ∷ [])
keyed_more number number' es new keyed below more k =
    let I : Option ℕ → Type 0 = λ o. IsKeyed o k (filter (λ d. not (is_at (key_of new) d)) es ++ new ∷ []) in
    subst I (sym (more k)) (by (same_key (key_of new) k) refl (number k) (keyed k))
  where
    g : SoftEntry → Bool
    g d = not (is_at (key_of new) d)

    differ : AllByRecursion (λ d. has_serial new.serial d ≡ false) es
    differ = below_differ new.serial es below

    by : (b : Bool) → same_key (key_of new) k ≡ b → (o : Option ℕ) → IsKeyed o k es
        → IsKeyed (cond b (Some new.serial) o) k (filter g es ++ new ∷ [])
    by true t o a =
        let same : key_of new ≡ k = (key_decides (key_of new) k).0 t in
        let here : is_at k new ≡ true = (key_decides k (key_of new)).1 (sym same) in (
          all_push (λ d. is_at k d ≡ has_serial new.serial d) (filter g es) new
              (all_filtered (λ d. is_at k d ≡ has_serial new.serial d) g es
              (all_map (λ d. has_serial new.serial d ≡ false) (λ d. g d ≡ true → is_at k d ≡ has_serial new.serial d) es
              (λ d f m. ap (λ j. is_at j d) (sym same) ∙ (not_true (is_at (key_of new) d) m ∙ sym f)) differ))
              (here ∙ sym (eq-eqb new.serial new.serial refl)),
          any_last (has_serial new.serial) (filter g es) new (eq-eqb new.serial new.serial refl),
        )
    by false t None a =
        all_push (λ d. is_at k d ≡ false) (filter g es) new (all_filter (λ d. is_at k d ≡ false) g es a)
        (turned (key_of new) k t)
    by false t (Some u) a =
        let other : has_serial u new ≡ false = ne_eqb u new.serial (λ i. any_not_all (has_serial u) es a.1
        (subst (λ n. AllByRecursion (λ d. has_serial n d ≡ false) es) (sym i) differ)) in (
          all_push (λ d. is_at k d ≡ has_serial u d) (filter g es) new
              (all_filter (λ d. is_at k d ≡ has_serial u d) g es a.0) (turned (key_of new) k t ∙ sym other),
          any_push (has_serial u) (filter g es) new (any_left (has_serial u) g es
              (all_map (λ d. is_at k d ≡ has_serial u d) (λ d. has_serial u d ≡ true → g d ≡ true) es
              (λ d m p. ap not (moved d (m ∙ p))) a.0) a.1),
        )
      where
        moved : (d : SoftEntry) → is_at k d ≡ true → is_at (key_of new) d ≡ false
        moved d p =
            subst (λ j. same_key (key_of new) j ≡ false) ((key_decides k (key_of d)).0 p) t

pub if_found : (p : SoftEntry → Bool) (es : List SoftEntry) (o : Option SoftEntry) → find p es ≡ o
    → AllByRecursion IsAsWritten es → IfSome o IsAsWritten
if_found p es None e a = tt
if_found p es (Some x) e a = found_each IsAsWritten p es x a e
