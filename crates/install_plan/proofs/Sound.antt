-- What stands is one entry of each key.
use Rattle.std.proofs.Common.{◌≡◌, ◌⊎◌, inl, inr, Bool, true, false, List, [], ◌∷◌, ◌++◌, refl, sym, ap, subst, ◌∙◌}
use Rattle.std.proofs.Common.{map, true≢false}
use Rattle.std.specs.Prelude.{◌==◌, not, filter, flat_map, option_to_list, Some, if◌then◌else◌}
use Rattle.std.specs.List.{AllByRecursion, list_any}
use Rattle.std.specs.List.Sorted.{IsStrictlySortedBy}
use Rattle.std.specs.Ordering.{is_lt, ordering_reverse, ordering_then}
use Rattle.std.specs.declared.cmp.Ordering.{Ordering}
use Rattle.std.specs.declared.cmp.Ordering.TheVariants.{Less, Equal}
use Rattle.std.proofs.lemmas.Cmp.{tied_itself}
use Rattle.std.proofs.lemmas.Bool.Decides.{Decides-and, Decides-eqb}
use Rattle.cv_io.specs.Leaves.{ancestry_cmp}
use Rattle.of10_match.specs.Ranges.{IsMatch}
use Rattle.of10_match.specs.Same.{same_match}
use Rattle.of10_match.specs.Wildcards.{match_bytes}
use Rattle.of10_match.proofs.ReadingBack.{match_bytes-injective}
use Rattle.of10_match.proofs.Same.{match_decides}
use Rattle.switch_meaning.specs.Keys.{displaces, one_per_key, same_key}
use Rattle.switch_meaning.specs.declared.entry.PhysEntry.{PhysEntry}
use Rattle.switch_meaning.proofs.Items.{fails, join_and, split_and}
use Rattle.switch_meaning.proofs.Members.{IsIn, all-in, any-passes, here, in-all, in-either, passes-any, there}
use Rattle.install_plan.specs.Tables.{IsTable, entry_of, place_cmp}
use Rattle.install_plan.specs.InsideSlots.{Fits, Slots, by_ancestry, first, key_of, order, slot_at, table_by, top}
use Rattle.install_plan.specs.declared.key.Key.{Key}
use Rattle.install_plan.specs.declared.slot.Slot.{Slot}
use Rattle.install_plan.proofs.Ancestries.{by_ancestry_total}
use Rattle.install_plan.proofs.Flat.{filter-flat, map-flat}
use Rattle.install_plan.proofs.Keyed.{Rise, first-or-later, flat-alike, flat-in, in-flat, in-found, key-above}
use Rattle.install_plan.proofs.Keyed.{order_total}

-- two slots of one key are one
pub one-slot : (slots : Slots) → Rise slots → (p q : Key × Slot) → IsIn p slots → IsIn q slots → p.0 ≡ q.0 → p ≡ q
one-slot slots r p q i j e =
    let f = in-found p.0 p.1 slots r i in
    let g = in-found q.0 q.1 slots r j in
    let same : Some p.1 ≡ Some q.1 = sym f ∙ (ap (λ (k : Key). slot_at k slots) e ∙ g) in
    let s : p.1 ≡ q.1 = cc in
    λ k. (e k, s k)

module _ {A : Type 0} (c : A → A → Ordering) where
  -- lists in order of which all of one is below all of the other
  pub sorted-append : (xs ys : List A) → IsStrictlySortedBy c xs → IsStrictlySortedBy c ys
      → ((x y : A) → IsIn x xs → IsIn y ys → c x y ≡ Less) → IsStrictlySortedBy c (xs ++ ys)
  unfolding IsStrictlySortedBy
  sorted-append [] ys r s b = s
  sorted-append (x ∷ xs) ys r s b = (
    all-in (λ y. c x y ≡ Less) (xs ++ ys) (λ y i. by y (in-either xs ys i)),
    sorted-append xs ys r.1 s (λ u v i j. b u v (there i) j),
  )
    where
      by : (y : A) → IsIn y xs ⊎ IsIn y ys → c x y ≡ Less
      by y (inl i) = in-all (λ z. c x z ≡ Less) i r.0
      by y (inr j) = b x y here j

-- entries of one key rise as their ancestries do
pub within : (k : Key) (es : List PhysEntry) → AllByRecursion (λ (e : PhysEntry). (key_of e ≡ k) × IsMatch e.m) es
    → IsStrictlySortedBy by_ancestry es → IsStrictlySortedBy place_cmp es
unfolding IsStrictlySortedBy
within k [] a r = tt
within k (e ∷ es) a r = (all-in (λ (d : PhysEntry). place_cmp e d ≡ Less) es (λ d i. less d i), within k es a.1 r.1)
  where
    less : (d : PhysEntry) → IsIn d es → place_cmp e d ≡ Less
    less d i =
        let keys : key_of e ≡ key_of d = a.0.0
        ∙ sym (in-all (λ (d : PhysEntry). (key_of d ≡ k) × IsMatch d.m) i a.1).0 in
        let tied : order (key_of e) (key_of d) ≡ Equal = ap (λ (z : Key). order (key_of e) z) (sym keys)
        ∙ tied_itself order_total (key_of e) in
        ap (λ r. ordering_then r (by_ancestry e d)) tied ∙ in-all (λ (d : PhysEntry). by_ancestry e d ≡ Less) i r.0

module _ (f : Key × Slot → Slot) (slots : Slots) (rise : Rise slots)
    (fit : AllByRecursion (λ (p : Key × Slot). Fits (p.0, f p)) slots) where
  abbrev pub entries_of : Key × Slot → List PhysEntry
  entries_of p = (f p).entries

  pub fits-in : (p : Key × Slot) → IsIn p slots → Fits (p.0, f p)
  fits-in p i = in-all (λ (p : Key × Slot). Fits (p.0, f p)) i fit

  pub key-in : (p : Key × Slot) (e : PhysEntry) → IsIn p slots → IsIn e (entries_of p) → (key_of e ≡ p.0) × IsMatch e.m
  key-in p e i j = in-all (λ (e : PhysEntry). (key_of e ≡ p.0) × IsMatch e.m) j (fits-in p i).keys

  -- an entry of a key stands in the key's slot
  pub in-slot : (p : Key × Slot) (e : PhysEntry) → IsIn p slots → IsIn e (flat_map entries_of slots) → key_of e ≡ p.0
      → IsIn e (entries_of p)
  in-slot p e i j k =
      let s = flat-in entries_of e slots j in
      let same = one-slot slots rise s.from p s.stands i (sym (key-in s.from e s.stands s.has).0 ∙ k) in
      subst (λ (q : Key × Slot). IsIn e (entries_of q)) same s.has

  abbrev all : List PhysEntry
  all = flat_map entries_of slots

  abbrev is_kept : PhysEntry → Bool
  is_kept e = not (list_any (λ (d : PhysEntry). displaces d e) all)

  keys-same : (d e : PhysEntry) → same_key d e ≡ true → key_of d ≡ key_of e
  keys-same d e t =
      let s =
      (Decides-and (same_match d.m e.m) (d.priority == e.priority) (match_decides d.m e.m)
      (Decides-eqb d.priority e.priority)).0 t in
      λ i. record { priority = s.1 i; bytes = match_bytes (s.0 i) }

  same-keys : (d e : PhysEntry) → key_of d ≡ key_of e → IsMatch d.m → IsMatch e.m → same_key d e ≡ true
  same-keys d e k m n =
      let s = match_bytes-injective d.m e.m m n (ap (λ (z : Key). z.bytes) k) in
      (Decides-and (same_match d.m e.m) (d.priority == e.priority) (match_decides d.m e.m)
      (Decides-eqb d.priority e.priority)).1 (s, ap (λ (z : Key). z.priority) k)

  -- the first of a slot is kept
  kept-first : (p : Key × Slot) → IsIn p slots → (e : PhysEntry) (es : List PhysEntry) → entries_of p ≡ e ∷ es
      → is_kept e ≡ true
  unfolding IsStrictlySortedBy
  kept-first p i e es h =
      ap not (fails (list_any (λ (d : PhysEntry). displaces d e) all)
      (λ t. none (any-passes (λ (d : PhysEntry). displaces d e) all t).item
      (any-passes (λ (d : PhysEntry). displaces d e) all t).stands
      (any-passes (λ (d : PhysEntry). displaces d e) all t).passes))
    where
      rising : IsStrictlySortedBy by_ancestry (e ∷ es)
      rising = subst (IsStrictlySortedBy by_ancestry) h (fits-in p i).rising

      later : (d : PhysEntry) → IsIn d es → by_ancestry e d ≡ Less
      later d j = in-all (λ (d : PhysEntry). by_ancestry e d ≡ Less) j rising.0

      below : (d : PhysEntry) → (d ≡ e) ⊎ IsIn d es → is_lt (ancestry_cmp d.ancestry e.ancestry) ≡ true → ⊥
      below d (inl s) t =
          true≢false (sym t ∙ ap is_lt (ap (λ (z : PhysEntry). by_ancestry z e) s ∙ tied_itself by_ancestry_total e))
      below d (inr j) t =
          true≢false (sym t ∙ ap is_lt (by_ancestry_total.antisymm d e ∙ ap ordering_reverse (later d j)))

      none : (d : PhysEntry) → IsIn d all → displaces d e ≡ true → ⊥
      none d j t =
          let s = split_and (same_key d e) (is_lt (ancestry_cmp d.ancestry e.ancestry)) t in
          let k = keys-same d e s.0 ∙ (key-in p e i (subst (IsIn e) (sym h) here)).0 in
          below d (first-or-later (subst (IsIn d) h (in-slot p d i j k))) s.1

  -- the others aren't
  dropped-later : (p : Key × Slot) → IsIn p slots → (e : PhysEntry) (es : List PhysEntry) → entries_of p ≡ e ∷ es
      → (d : PhysEntry) → IsIn d es → is_kept d ≡ false
  unfolding IsStrictlySortedBy
  dropped-later p i e es h d j =
      let first = subst (IsIn e) (sym h) here in
      let other = subst (IsIn d) (sym h) (there j) in
      let k = key-in p e i first in
      let l = key-in p d i other in
      ap not (passes-any (λ (c : PhysEntry). displaces c d) (in-all-slots first)
      (join_and (same_key e d) (is_lt (ancestry_cmp e.ancestry d.ancestry)) (same-keys e d (k.0 ∙ sym l.0) k.1 l.1)
      (ap is_lt later)))
    where
      in-all-slots : IsIn e (entries_of p) → IsIn e all
      in-all-slots m = in-flat entries_of i m

      rising : IsStrictlySortedBy by_ancestry (e ∷ es)
      rising = subst (IsStrictlySortedBy by_ancestry) h (fits-in p i).rising

      later : by_ancestry e d ≡ Less
      later = in-all (λ (d : PhysEntry). by_ancestry e d ≡ Less) j rising.0

  none-kept : (ds : List PhysEntry) → ((d : PhysEntry) → IsIn d ds → is_kept d ≡ false) → filter is_kept ds ≡ []
  none-kept [] n = refl
  none-kept (d ∷ ds) n = ap (λ b. if b then d ∷ filter is_kept ds else filter is_kept ds) (n d here)
      ∙ none-kept ds (λ c i. n c (there i))

  -- of a slot the first is kept
  kept-of : (p : Key × Slot) → IsIn p slots → (es : List PhysEntry) → entries_of p ≡ es
      → map entry_of (option_to_list (first es (f p).cookie)) ≡ filter is_kept es
  kept-of p i [] h = refl
  kept-of p i (e ∷ es) h =
      sym (ap (λ b. if b then e ∷ filter is_kept es else filter is_kept es) (kept-first p i e es h)
      ∙ ap (λ ds. e ∷ ds) (none-kept es (λ d j. dropped-later p i e es h d j)))

  pub stands-one-per-key : map entry_of (table_by f slots).standing ≡ one_per_key (table_by f slots).entries
  stands-one-per-key =
      map-flat (λ (p : Key × Slot). option_to_list (top (f p))) entry_of slots
      ∙ (flat-alike (λ (p : Key × Slot). map entry_of (option_to_list (top (f p))))
      (λ (p : Key × Slot). filter is_kept (entries_of p)) slots
      (all-in (λ (p : Key × Slot). map entry_of (option_to_list (top (f p))) ≡ filter is_kept (entries_of p)) slots
      (λ p i. kept-of p i (entries_of p) refl))
      ∙ sym (filter-flat entries_of is_kept slots))

-- all entries rise
pub entries-rise : (f : Key × Slot → Slot) (slots : Slots) → Rise slots
    → AllByRecursion (λ (p : Key × Slot). Fits (p.0, f p)) slots
    → IsStrictlySortedBy place_cmp (table_by f slots).entries
unfolding IsStrictlySortedBy
entries-rise f [] r a = tt
entries-rise f (p ∷ ps) r a =
    sorted-append place_cmp (f p).entries (flat_map (λ q. (f q).entries) ps)
    (within p.0 (f p).entries a.0.keys a.0.rising) (entries-rise f ps r.1 a.1) below
  where
    below : (x y : PhysEntry) → IsIn x (f p).entries → IsIn y (flat_map (λ q. (f q).entries) ps) → place_cmp x y ≡ Less
    below x y i j =
        let s = flat-in (λ (q : Key × Slot). (f q).entries) y ps j in
        let kx = (in-all (λ (e : PhysEntry). (key_of e ≡ p.0) × IsMatch e.m) i a.0.keys).0 in
        let fq = in-all (λ (q : Key × Slot). Fits (q.0, f q)) s.stands a.1 in
        let ky = (in-all (λ (e : PhysEntry). (key_of e ≡ s.from.0) × IsMatch e.m) s.has fq.keys).0 in
        let less : order (key_of x) (key_of y) ≡ Less = λ-path kx ky (key-above p.0 s.from s.stands r.0) in
        ap (λ o. ordering_then o (by_ancestry x y)) less
      where
        λ-path : {a b c d : Key} → a ≡ b → c ≡ d → order b d ≡ Less → order a c ≡ Less
        λ-path u v e = (λ i. order (u i) (v i)) ∙ e

pub is-table : (f : Key × Slot → Slot) (slots : Slots) → Rise slots
    → AllByRecursion (λ (p : Key × Slot). Fits (p.0, f p)) slots → IsTable (table_by f slots)
is-table f slots r a = record { rising = entries-rise f slots r a; standing = stands-one-per-key f slots r a }
