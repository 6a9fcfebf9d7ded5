-- A table with an entry more or less.
use Rattle.std.proofs.Common.{◌≡◌, ◌∙◌, ℕ, ◌+◌, ◌<◌, Bool, true, false, ◌||◌, not, map, List, [], ◌∷◌, ◌++◌, filter, find, Some, None}
use Rattle.std.proofs.Common.{Option, cond, refl, sym, ap, subst, option_to_list, ne_eqb}
use Rattle.std.specs.BTreeMap.{insert_entry, is_at as is_at_key}
use Rattle.std.specs.List.{AllByRecursion, list_any}
use Rattle.std.specs.Map.{lookup, remove_entry}
use Rattle.std.specs.Ordering.{nat_cmp}
use Rattle.std.specs.Prelude.{IsPermutation}
use Rattle.match_index.specs.InsideGroups.{SameItems}
use Rattle.match_index.specs.Items.{has_id}
use Rattle.match_index.proofs.Counts.{same_any}
use Rattle.match_index.specs.declared.item.Item.{Item}
use Rattle.soft_net.specs.Entries.{IsAsWritten, has_serial, is_at, item_of, key_of, same_key}
use Rattle.soft_net.specs.InsideTables.{HasLess, IsKept, IsKeyed, IsListing, entries_in, less_entries}
use Rattle.soft_net.specs.declared.entry.Key.{Key}
use Rattle.soft_net.specs.declared.entry.SoftEntry.{SoftEntry}
use Rattle.soft_net.proofs.Keeping.{any_not_all, keyed_less, keyed_more, push_listing, remove_listing}
use Rattle.soft_net.proofs.Listing.{all_map, below_differ, filter_all, filter_same}

filter_push : (g : SoftEntry → Bool) (es : List SoftEntry) (new : SoftEntry) → g new ≡ true
    → filter g (es ++ new ∷ []) ≡ filter g es ++ new ∷ []
filter_push g [] new t = ap (λ b. cond b (new ∷ []) []) t
filter_push g (e ∷ es) new t = by (g e) (filter_push g es new t)
  where
    by : (b : Bool) → filter g (es ++ new ∷ []) ≡ filter g es ++ new ∷ []
        → cond b (e ∷ filter g (es ++ new ∷ [])) (filter g (es ++ new ∷ []))
        ≡ cond b (e ∷ filter g es) (filter g es) ++ new ∷ []
    by true m = ap (λ xs. e ∷ xs) m
    by false m = m

pub take_kept : (s : ℕ) (pairs pairs' : List (ℕ × SoftEntry)) (number number' : Key → Option ℕ) (items items' : List Item)
    (next : ℕ) (e : SoftEntry) → IsKept pairs number items next → find (has_serial s) (entries_in pairs) ≡ Some e
    → pairs' ≡ remove_entry (is_at_key (nat_cmp s)) pairs
    → IsPermutation items (option_to_list (find (has_id s) items) ++ items')
    → ((k : Key) → number' k ≡ cond (same_key (key_of e) k) None (number k))
    → IsKept pairs' number' items' next × (entries_in pairs' ≡ filter (λ d. not (has_serial s d)) (entries_in pairs))
take_kept s pairs pairs' number number' items items' next e k found is h less =
    let r = remove_listing s pairs pairs' items items' next k.listing is h in
    let K : List SoftEntry → Type 0 = λ xs. (q : Key) → IsKeyed (number' q) q xs in (
      record {
        listing = r.0;
        keyed = subst K (sym r.1) (keyed_less number number' (entries_in pairs) s e k.keyed found less);
      },
      r.1,
    )

module _ (new : SoftEntry) (pairs pairs1 pairs' : List (ℕ × SoftEntry)) (number number' : Key → Option ℕ)
    (items items1 items' : List Item) (next : ℕ) (k : IsKept pairs number items next) (serial : new.serial ≡ next) where
  abbrev es : List SoftEntry
  es = entries_in pairs

  abbrev others : List SoftEntry
  others = filter (λ d. not (is_at (key_of new) d)) es

  under : AllByRecursion (λ (e : SoftEntry). e.serial < new.serial) es
  under = let B : ℕ → Type 0 = λ n. AllByRecursion (λ (e : SoftEntry). e.serial < n) es in subst B (sym serial) k.listing.below

  exchanged : (o : Option ℕ) → o ≡ number (key_of new) → pairs' ≡ less_entries o pairs1 → HasLess o items1 items'
      → IsListing pairs1 items1 (next + 1) → entries_in pairs1 ≡ es ++ new ∷ []
      → IsListing pairs' items' (next + 1) × (entries_in pairs' ≡ others ++ new ∷ [])
  exchanged None was less fewer l all =
      let I : Option ℕ → Type 0 = λ o. IsKeyed o (key_of new) es in
      let a = subst I (sym was) (k.keyed (key_of new)) in
      let same : others ≡ es = filter_all (λ d. not (is_at (key_of new) d)) es
      (all_map (λ d. is_at (key_of new) d ≡ false) (λ d. not (is_at (key_of new) d) ≡ true) es (λ d f. ap not f) a) in
      let L : List (ℕ × SoftEntry) → Type 0 = λ ps. IsListing ps items' (next + 1) in
      let M : List Item → Type 0 = λ xs. IsListing pairs1 xs (next + 1) in
      (subst L (sym less) (subst M (sym fewer) l), ap entries_in less ∙ (all ∙ ap (λ xs. xs ++ new ∷ []) (sym same)))
  exchanged (Some s) was less fewer l all =
      let I : Option ℕ → Type 0 = λ o. IsKeyed o (key_of new) es in
      let a = subst I (sym was) (k.keyed (key_of new)) in
      let r = remove_listing s pairs1 pairs' items1 items' (next + 1) l less fewer in
      let g : SoftEntry → Bool = λ d. not (has_serial s d) in
      let D : ℕ → Type 0 = λ n. AllByRecursion (λ d. has_serial n d ≡ false) es in
      let apart : has_serial s new ≡ false = ne_eqb s new.serial (λ i. any_not_all (has_serial s) es a.1
      (subst D (sym i) (below_differ new.serial es under))) in
      let same : filter g es ≡ others = filter_same g (λ d. not (is_at (key_of new) d)) es
      (all_map (λ d. is_at (key_of new) d ≡ has_serial s d) (λ d. g d ≡ not (is_at (key_of new) d)) es
      (λ d m. ap not (sym m)) a.0) in
      (r.0, r.1 ∙ (ap (filter g) all ∙ (filter_push g es new (ap not apart) ∙ ap (λ xs. xs ++ new ∷ []) same)))

  pub put_kept : (old : Option ℕ) → IsAsWritten new → pairs1 ≡ insert_entry nat_cmp pairs next new
      → items1 ≡ items ++ item_of new ∷ [] → old ≡ number (key_of new)
      → ((q : Key) → number' q ≡ cond (same_key (key_of new) q) (Some next) (number q))
      → pairs' ≡ less_entries old pairs1 → HasLess old items1 items'
      → IsKept pairs' number' items' (next + 1) × (entries_in pairs' ≡ others ++ new ∷ [])
  put_kept old written is more was keyed less fewer =
      let pushed = push_listing new pairs pairs1 items items1 next k.listing serial written is more in
      let both = exchanged old was less fewer pushed.0 pushed.1 in
      let K : List SoftEntry → Type 0 = λ xs. (q : Key) → IsKeyed (number' q) q xs in (
        record {
          listing = both.0;
          keyed = subst K (sym both.1) (keyed_more number number' es new k.keyed under
              (λ q. keyed q ∙ ap (λ n. cond (same_key (key_of new) q) (Some n) (number q)) (sym serial)));
        },
        both.1,
      )

-- what has the same entries, numbers of keys and items is kept too
pub kept_moved : (pairs pairs' : List (ℕ × SoftEntry)) (ks ks' : List (Key × ℕ)) (items items' : List Item) (next : ℕ)
    → pairs' ≡ pairs → ks' ≡ ks → items' ≡ items → IsKept pairs (λ k. lookup (same_key k) ks) items next
    → IsKept pairs' (λ k. lookup (same_key k) ks') items' next
kept_moved pairs pairs' ks ks' items items' next p q r k =
    let P : List (ℕ × SoftEntry) → Type 0 = λ ps. IsKept ps (λ j. lookup (same_key j) ks') items' next in
    let Q : List (Key × ℕ) → Type 0 = λ js. IsKept pairs (λ j. lookup (same_key j) js) items' next in
    let R : List Item → Type 0 = λ xs. IsKept pairs (λ j. lookup (same_key j) ks) xs next in
    subst P (sym p) (subst Q (sym q) (subst R (sym r) k))

-- the next number is no item's
pub fresh : (next : ℕ) (items : List Item) (es : List SoftEntry) → SameItems items (map item_of es)
    → AllByRecursion (λ (e : SoftEntry). e.serial < next) es → list_any (has_id next) items ≡ false
fresh next items es same below =
    same_any items (map item_of es) same (has_id next) ∙ none es (below_differ next es below)
  where
    none : (ds : List SoftEntry) → AllByRecursion (λ d. has_serial next d ≡ false) ds
        → list_any (has_id next) (map item_of ds) ≡ false
    none [] a = refl
    none (d ∷ ds) a = ap (λ b. b || list_any (has_id next) (map item_of ds)) a.0 ∙ none ds a.1
