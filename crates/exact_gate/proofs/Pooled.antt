-- What the indexes of a pool know of its candidates.
use Rattle.std.proofs.Common.{◌≡◌, ℕ, ◌+◌, ◌<◌, Bool, true, false, ◌&&◌, ◌||◌, List, [], ◌∷◌, ◌++◌, map, Some, None}
use Rattle.std.proofs.Common.{refl, sym, ap, ap₂, subst, ◌∙◌, arith, count_by, eqb-true, length, lt-ltb, not, slice_get}
use Rattle.std.specs.Prelude.{◌==◌, IsPermutation, filter, if◌then◌else◌, swap_remove}
use Rattle.std.specs.List.{All, list_any}
use Rattle.std.specs.Map.{lookup}
use Rattle.std.proofs.lemmas.List.Elements.{All-from_recursion, All-head, All-push, All-tail, All-weaker}
use Rattle.std.proofs.lemmas.List.Elements.{recursion_from_All}
use Rattle.std.proofs.lemmas.Bool.{ltb-true}
use Rattle.std.proofs.lemmas.List.Folds.{list_any-append}
use Rattle.std.proofs.lemmas.List.Sorted.{IsPermutation-map, IsPermutation-swap_remove, list_any-IsPermutation}
use Rattle.std.proofs.lemmas.Option.{slice_get_within, get_or_from_slice_get}
use Rattle.of10_match.specs.Fields.{MatchOf}
use Rattle.match_index.specs.Items.{AddsTo, has_id, same_item}
use Rattle.match_index.specs.declared.item.Item.{Item}
use Rattle.match_index.proofs.Counts.{any_count, count-append, count-cons, count-permuted, item_decides, same_any}
use Rattle.switch_meaning.specs.Keys.{passes_over}
use Rattle.switch_meaning.specs.declared.entry.PhysEntry.{PhysEntry}
use Rattle.switch_meaning.proofs.Items.{fails}
use Rattle.switch_meaning.proofs.Members.{IsIn, all-in, any-passes, in-all, passes-any, here, there}
use Rattle.exact_gate.specs.Finding.{Reaches, is_over, key_of_item, tops}
use Rattle.exact_gate.specs.InsideBuckets.{AreBuckets, AreKnown, BucketOf, IsBucket, in_buckets, item_of}
use Rattle.exact_gate.specs.Standing.{key_of, one_key, standing, stands_in}
use Rattle.exact_gate.specs.declared.key.Key.{Key}
use Rattle.exact_gate.proofs.Bucketed.{asked_in, bucket_entries}
use Rattle.exact_gate.proofs.Standing.{bool-same, key_decides, stands-append, stands-in}

-- what is asked of match and priority alone is answered alike by all candidates of a bucket
module _ (t : MatchOf → ℕ → Bool) where
  abbrev asked : PhysEntry → Bool
  asked d = t d.m d.priority

  abbrev of_key : Key → Bool
  of_key k = t k.m k.priority

  none_of : (k : Key) (es : List PhysEntry) → All (λ (e : PhysEntry). key_of e ≡ k) es → of_key k ≡ false
      → list_any asked es ≡ false
  none_of k es a n =
      fails (list_any asked es) (λ s.
      let p = any-passes asked es s in
      let is : key_of p.item ≡ k = in-all (λ (e : PhysEntry). key_of e ≡ k) p.stands
      (recursion_from_All (λ (e : PhysEntry). key_of e ≡ k) es a) in
      let same : asked p.item ≡ of_key k = ap of_key is in
      let passes = p.passes in cc)

  some_of : (k : Key) (es : List PhysEntry) → (length es == 0) ≡ false → All (λ (e : PhysEntry). key_of e ≡ k) es
      → of_key k ≡ true → list_any asked es ≡ true
  some_of k [] n a s = cc
  some_of k (e ∷ es) n a s = ap (λ b. b || list_any asked es)
      (ap of_key (All-head (λ (d : PhysEntry). key_of d ≡ k) e es a) ∙ s)

  bucket_asked : (b : Key × BucketOf) → IsBucket b → list_any asked b.1.entries ≡ of_key b.0
  bucket_asked b i =
      bool-same (list_any asked b.1.entries) (of_key b.0)
      (λ s. by (of_key b.0) refl s)
      (λ s. some_of b.0 b.1.entries i.some i.of_key s)
    where
      by : (r : Bool) → of_key b.0 ≡ r → list_any asked b.1.entries ≡ true → of_key b.0 ≡ true
      by true f s = f
      by false f s = let n = none_of b.0 b.1.entries i.of_key f in cc

  -- so the items of buckets answer for their candidates
  pub items_asked : (bs : List (Key × BucketOf)) → All IsBucket bs
      → list_any (λ (i : Item). t i.normal i.rank) (map item_of bs) ≡ list_any asked (in_buckets bs)
  items_asked [] a = refl
  items_asked (b ∷ bs) a =
      ap₂ (λ x y. x || y) (sym (bucket_asked b (All-head IsBucket b bs a))) (items_asked bs (All-tail IsBucket b bs a))
      ∙ sym (list_any-append asked b.1.entries (in_buckets bs))

-- the item of a candidate's bucket
pub record ItemOf (bs : List (Key × BucketOf)) (e : PhysEntry) : Type 0 where
  pub item : Item
  pub there : IsIn item (map item_of bs)
  pub m : item.normal ≡ e.m
  pub rank : item.rank ≡ e.priority

either : (a b : Bool) (P : Type 0) → (a || b) ≡ true → (a ≡ true → P) → (b ≡ true → P) → P
either true b P e f g = f refl
either false b P e f g = g e

pub item_in : (bs : List (Key × BucketOf)) (e : PhysEntry) → All IsBucket bs → stands_in (in_buckets bs) e ≡ true
    → ItemOf bs e
item_in [] e a s = cc
item_in (b ∷ bs) e a s =
    either (stands_in b.1.entries e) (stands_in (in_buckets bs) e) (ItemOf (b ∷ bs) e)
    (sym (stands-append b.1.entries (in_buckets bs) e) ∙ s)
    (λ t.
    let of = (All-head IsBucket b bs a).of_key in
    let is : key_of e ≡ b.0 = in-all (λ (d : PhysEntry). key_of d ≡ b.0) (stands-in b.1.entries e t)
    (recursion_from_All (λ (d : PhysEntry). key_of d ≡ b.0) b.1.entries of) in
    record {
      item = item_of b;
      there = here;
      m = ap (λ (k : Key). k.m) (sym is);
      rank = ap (λ (k : Key). k.priority) (sym is);
    })
    (λ t. let r = item_in bs e (All-tail IsBucket b bs a) t in
    record { item = r.item; there = there r.there; m = r.m; rank = r.rank })

-- the items of a pool answer for its candidates
pub known_asked : (bs : List (Key × BucketOf)) (items : List Item) (next : ℕ) (t : MatchOf → ℕ → Bool) → AreBuckets bs
    → AreKnown bs items next
    → list_any (λ (i : Item). t i.normal i.rank) items ≡ list_any (λ (d : PhysEntry). t d.m d.priority) (in_buckets bs)
known_asked bs items next t a k = same_any items (map item_of bs) k.same (λ (i : Item). t i.normal i.rank)
    ∙ items_asked t bs a.each

-- no candidate of a bucket passes, or each does
module _ (all : List PhysEntry) (k : Key) where
  abbrev passes : PhysEntry → Bool
  passes e = not (list_any (λ (d : PhysEntry). passes_over d e) all)

  filter-filter : (p q : PhysEntry → Bool) (xs : List PhysEntry)
      → filter p (filter q xs) ≡ filter (λ (e : PhysEntry). q e && p e) xs
  filter-filter p q [] = refl
  filter-filter p q (x ∷ xs) = by (q x) (filter-filter p q xs)
    where
      by : (b : Bool) → filter p (filter q xs) ≡ filter (λ (e : PhysEntry). q e && p e) xs
          → filter p (if b then x ∷ filter q xs else filter q xs)
          ≡ (if b && p x then x ∷ filter (λ (e : PhysEntry). q e && p e) xs
          else filter (λ (e : PhysEntry). q e && p e) xs)
      by true e = ap (λ ys. if p x then x ∷ ys else ys) e
      by false e = e

  -- the candidates of a key that pass stand in its bucket
  pub standing_in : (bs : List (Key × BucketOf)) → all ≡ in_buckets bs → AreBuckets bs
      → standing all k ≡ filter (λ (e : PhysEntry). passes e && one_key k (key_of e))
      (bucket_entries (lookup (one_key k) bs))
  standing_in bs is a =
      filter-filter (λ (e : PhysEntry). one_key k (key_of e)) passes all
      ∙ (ap (filter (λ (e : PhysEntry). passes e && one_key k (key_of e))) is
      ∙ asked_in (λ (e : PhysEntry). passes e && one_key k (key_of e)) k
      (λ e t. sym ((key_decides k (key_of e)).0 (and_second (passes e) (one_key k (key_of e)) t))) bs a.each a.once)
    where
      and_second : (x y : Bool) → (x && y) ≡ true → y ≡ true
      and_second true y e = e
      and_second false y e = cc

  pub none_standing : (es : List PhysEntry) → All (λ (e : PhysEntry). key_of e ≡ k) es
      → list_any (λ (d : PhysEntry). tops d.m d.priority k.m k.priority) all ≡ true
      → filter (λ (e : PhysEntry). passes e && one_key k (key_of e)) es ≡ []
  none_standing [] a s = refl
  none_standing (e ∷ es) a s =
      let is = All-head (λ (d : PhysEntry). key_of d ≡ k) e es a in
      let out : passes e ≡ false =
      ap not (ap (λ (l : Key). list_any (λ (d : PhysEntry). tops d.m d.priority l.m l.priority) all) is ∙ s) in
      ap (λ b. if b && one_key k (key_of e) then e ∷ filter (λ (d : PhysEntry). passes d && one_key k (key_of d)) es
      else filter (λ (d : PhysEntry). passes d && one_key k (key_of d)) es) out
      ∙ none_standing es (All-tail (λ (d : PhysEntry). key_of d ≡ k) e es a) s

  pub all_standing : (es : List PhysEntry) → All (λ (e : PhysEntry). key_of e ≡ k) es
      → list_any (λ (d : PhysEntry). tops d.m d.priority k.m k.priority) all ≡ false
      → filter (λ (e : PhysEntry). passes e && one_key k (key_of e)) es ≡ es
  all_standing [] a s = refl
  all_standing (e ∷ es) a s =
      let is = All-head (λ (d : PhysEntry). key_of d ≡ k) e es a in
      let in_ : passes e ≡ true =
      ap not (ap (λ (l : Key). list_any (λ (d : PhysEntry). tops d.m d.priority l.m l.priority) all) is ∙ s) in
      let own : one_key k (key_of e) ≡ true = (key_decides k (key_of e)).1 (sym is) in
      ap₂ (λ b c. if b && c then e ∷ filter (λ (d : PhysEntry). passes d && one_key k (key_of d)) es
      else filter (λ (d : PhysEntry). passes d && one_key k (key_of d)) es) in_ own
      ∙ ap (λ xs. e ∷ xs) (all_standing es (All-tail (λ (d : PhysEntry). key_of d ≡ k) e es a) s)

-- the bucket that is found is one of them
pub found_bucket : (bs : List (Key × BucketOf)) (k : Key) (b : BucketOf) → All IsBucket bs
    → lookup (one_key k) bs ≡ Some b → IsBucket (k, b)
found_bucket [] k b a e = cc
found_bucket (c ∷ bs) k b a e = by (one_key k c.0) refl (found_bucket bs k b (All-tail IsBucket c bs a)) e
  where
    by : (r : Bool) → one_key k c.0 ≡ r → (lookup (one_key k) bs ≡ Some b → IsBucket (k, b))
        → (if r then Some c.1 else lookup (one_key k) bs) ≡ Some b → IsBucket (k, b)
    by true t r f =
        let key : c.0 ≡ k = sym ((key_decides k c.0).0 t) in
        let own : c.1 ≡ b = cc in
        subst IsBucket (λ i. (key i, own i)) (All-head IsBucket c bs a)
    by false t r f = r f

-- a new bucket has a number of its own
pub new_id : (items : List Item) (next : ℕ) → All (λ (i : Item). i.id < next) items
    → list_any (has_id next) items ≡ false
new_id items next a =
    fails (list_any (has_id next) items) (λ t.
    let p = any-passes (has_id next) items t in
    let lt : p.item.id < next = in-all (λ (i : Item). i.id < next) p.stands
    (recursion_from_All (λ (i : Item). i.id < next) items a) in
    let is : next ≡ p.item.id = eqb-true next p.item.id p.passes in
    omega arith)

-- one bucket more
pub known_pushed : (bs : List (Key × BucketOf)) (items : List Item) (next : ℕ) (b : Key × BucketOf)
    → AreKnown bs items next → b.1.id ≡ next → AreKnown (bs ++ b ∷ []) (items ++ item_of b ∷ []) (next + 1)
known_pushed bs items next b k e = record {
  same = λ p.
      let s = k.same p in
      let c = count-append p items (item_of b ∷ []) in
      let d = count-append p (map item_of bs) (item_of b ∷ []) in
      let m : count_by p (map item_of (bs ++ b ∷ [])) ≡ count_by p (map item_of bs ++ item_of b ∷ []) =
      ap (count_by p) (map-push bs) in
      omega (arith, s, c, d, m);
  below = All-push (λ (i : Item). i.id < next + 1) items (item_of b)
      (All-weaker (λ (i : Item). i.id < next) (λ (i : Item). i.id < next + 1) (λ i lt. omega arith) items k.below)
      (omega (arith, e));
}
  where
    map-push : (cs : List (Key × BucketOf)) → map item_of (cs ++ b ∷ []) ≡ map item_of cs ++ item_of b ∷ []
    map-push [] = refl
    map-push (c ∷ cs) = ap (λ xs. item_of c ∷ xs) (map-push cs)

-- one bucket less
module _ (bs : List (Key × BucketOf)) (i : ℕ) (b : Key × BucketOf) (at : slice_get bs i ≡ Some b) (items : List Item)
    (next : ℕ) (k : AreKnown bs items next) where
  moved : IsPermutation bs (b ∷ swap_remove bs i b)
  moved = IsPermutation-swap_remove bs i b (slice_get_within bs i b at) (sym (get_or_from_slice_get bs i b b at))

  -- the indexes know it
  pub known_there : list_any (same_item (item_of b)) items ≡ true
  known_there =
      same_any items (map item_of bs) k.same (same_item (item_of b))
      ∙ (list_any-IsPermutation (same_item (item_of b)) (map item_of bs) (map item_of (b ∷ swap_remove bs i b))
      (IsPermutation-map item_of bs (b ∷ swap_remove bs i b) moved)
      ∙ ap (λ t. t || list_any (same_item (item_of b)) (map item_of (swap_remove bs i b)))
      ((item_decides (item_of b) (item_of b)).1 refl))

  left_below : (items' : List Item) → AddsTo (item_of b) items' items → (j : Item) → IsIn j items' → j.id < next
  left_below items' m j s =
      let c = m (same_item j) in
      let some : list_any (same_item j) items' ≡ true = passes-any (same_item j) s ((item_decides j j).1 refl) in
      let one_there : 0 < count_by (same_item j) items' =
      ltb-true 0 (count_by (same_item j) items') (sym (any_count (same_item j) items') ∙ some) in
      let more : 0 < count_by (same_item j) items = omega (arith, c, one_there) in
      let p = any-passes (same_item j) items (any_count (same_item j) items
      ∙ lt-ltb 0 (count_by (same_item j) items) more) in
      let is : j ≡ p.item = (item_decides j p.item).0 p.passes in
      subst (λ (x : Item). x.id < next) (sym is)
      (in-all (λ (x : Item). x.id < next) p.stands (recursion_from_All (λ (x : Item). x.id < next) items k.below))

  pub known_removed : (items' : List Item) → AddsTo (item_of b) items' items
      → AreKnown (swap_remove bs i b) items' next
  known_removed items' m = record {
    same = λ p.
        let s = k.same p in
        let c = m p in
        let d = count-permuted p (map item_of bs) (map item_of (b ∷ swap_remove bs i b))
        (IsPermutation-map item_of bs (b ∷ swap_remove bs i b) moved) in
        let e = count-cons p (item_of b) (map item_of (swap_remove bs i b)) in
        omega (arith, s, c, d, e);
    below = All-from_recursion (λ (x : Item). x.id < next) items'
        (all-in (λ (x : Item). x.id < next) items' (left_below items' m));
  }

-- the keys that are reached are among those of candidates that are passed over
pub pool_reaches : (k : Key) (bs : List (Key × BucketOf)) (items : List Item) (next : ℕ) (keys : List Key)
    → AreBuckets bs → AreKnown bs items next → Reaches k items keys
    → (e : PhysEntry) → stands_in (in_buckets bs) e ≡ true → tops k.m k.priority e.m e.priority ≡ true
    → list_any (one_key (key_of e)) keys ≡ true
pool_reaches k bs items next keys a n r e s t =
    let i = item_in bs e a.each s in
    let there : list_any (same_item i.item) items ≡ true = same_any items (map item_of bs) n.same (same_item i.item)
    ∙ passes-any (same_item i.item) i.there ((item_decides i.item i.item).1 refl) in
    let under : tops k.m k.priority i.item.normal i.item.rank ≡ true = ap₂ (λ m p. tops k.m k.priority m p) i.m i.rank
    ∙ t in
    let key : key_of_item i.item ≡ key_of e = λ j. record { m = i.m j; priority = i.rank j } in
    ap (λ (l : Key). list_any (one_key l) keys) (sym key) ∙ r i.item there under

-- the candidates of a key that pass, by what is found
module _ (k : Key) (bs : List (Key × BucketOf)) (items : List Item) (next : ℕ) (a : AreBuckets bs)
    (n : AreKnown bs items next) where
  passed_is : list_any (is_over k) items ≡ list_any (λ (d : PhysEntry). tops d.m d.priority k.m k.priority)
      (in_buckets bs)
  passed_is = known_asked bs items next (λ m p. tops m p k.m k.priority) a n

  keys_are : (b : BucketOf) → Some b ≡ lookup (one_key k) bs → All (λ (e : PhysEntry). key_of e ≡ k) b.entries
  keys_are b f = (found_bucket bs k b a.each (sym f)).of_key

  pub none_found : None ≡ lookup (one_key k) bs → standing (in_buckets bs) k ≡ []
  none_found f = standing_in (in_buckets bs) k bs refl a
      ∙ ap (λ o. filter (λ (e : PhysEntry). passes (in_buckets bs) k e && one_key k (key_of e)) (bucket_entries o))
      (sym f)

  pub none_passes : (b : BucketOf) → Some b ≡ lookup (one_key k) bs → list_any (is_over k) items ≡ true
      → standing (in_buckets bs) k ≡ []
  none_passes b f t =
      standing_in (in_buckets bs) k bs refl a
      ∙ (ap (λ o. filter (λ (e : PhysEntry). passes (in_buckets bs) k e && one_key k (key_of e)) (bucket_entries o))
      (sym f) ∙ none_standing (in_buckets bs) k b.entries (keys_are b f) (sym passed_is ∙ t))

  pub each_passes : (b : BucketOf) → Some b ≡ lookup (one_key k) bs → list_any (is_over k) items ≡ false
      → standing (in_buckets bs) k ≡ b.entries
  each_passes b f t =
      standing_in (in_buckets bs) k bs refl a
      ∙ (ap (λ o. filter (λ (e : PhysEntry). passes (in_buckets bs) k e && one_key k (key_of e)) (bucket_entries o))
      (sym f) ∙ all_standing (in_buckets bs) k b.entries (keys_are b f) (sym passed_is ∙ t))
