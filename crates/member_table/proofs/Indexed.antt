-- The maps find the entries, also after one goes, comes or changes.
use Rattle.std.proofs.Common.{◌≡◌, ℕ, zero, suc, Bool, true, false, not, cond, ◌==◌, List, [], ◌∷◌, map, filter}
use Rattle.std.proofs.Common.{filter_map, find, position, slice_get, refl, sym, ap, ap₂, subst, ◌∙◌, if◌then◌else◌}
use Rattle.std.proofs.Common.{true≢false, Option, Some, None, is_some, option_map, nat_eq, eqb-true, nat_lt, length}
use Rattle.std.proofs.Common.{ltb-false, ◌≤◌}
use Rattle.std.specs.List.{list_any, position_or_len, AllByRecursion, IsDistinct}
use Rattle.std.specs.Option.{option_and_then, option_map_or}
use Rattle.std.specs.Map.{keys_of, values_of, lookup}
use Rattle.indexmap.specs.IndexMap.{set_value_at}
use Rattle.member_table.specs.Changes.{is_number}
use Rattle.std.proofs.lemmas.Bool.Decides.{Decides-eqb}
use Rattle.std.proofs.lemmas.List.{length-map, map-append, map-set}
use Rattle.member_table.specs.Entries.{identity_of, has_serial, is_at, put, same_identity}
use Rattle.member_table.specs.InsideOrders.{IsIndexed, IsInStep, listed, numbered, numbered_at, unnumbered}
use Rattle.member_table.specs.InsideOrders.{unnumbered_at}
use Rattle.member_table.specs.Timeouts.{serials_of}
use Rattle.member_table.specs.declared.entry.Entry.{Entry}
use Rattle.member_table.specs.declared.entry.Identity.{Identity}
use Rattle.member_table.proofs.Keyed.{each_found, find_put, find_without, flipped, keys_map, once_filter, once_key}
use Rattle.member_table.proofs.Keyed.{once_put}
use Rattle.member_table.proofs.Lists.{IsFirst, IsFirst-map, IsFirst-position, IsOnce, any_find, each_false}
use Rattle.member_table.proofs.Lists.{filter-first, filter-none, find_kept, find_map, found_has, found_passes}
use Rattle.member_table.proofs.Lists.{list_any-map, map-remove, only_one, position-any, same_first, slice_past}
use Rattle.member_table.proofs.Lists.{each_weaker}
use Rattle.member_table.proofs.Sounds.{either_way}
use Rattle.member_table.proofs.Steps.{identity_decides, put-first, put-none}

abbrev serial : Entry → ℕ
serial e = e.serial

-- what the numbers of some entries list, where each entry is found
pub listed_is : (entry : ℕ → Option Entry) (number : Identity → Option ℕ) (serials : List ℕ) (es : List Entry)
    → serials ≡ map serial es → IsIndexed entry number es → listed entry serials ≡ es
listed_is entry number serials es n i =
    ap (filter_map entry) n
    ∙ by es (each_weaker (λ e. find (has_serial e.serial) es ≡ Some e) (λ e. entry e.serial ≡ Some e)
    (λ e f. i.found e.serial ∙ f) es (each_found ◌==◌ Decides-eqb serial es i.serials_once))
  where
    by : (xs : List Entry) → AllByRecursion (λ e. entry e.serial ≡ Some e) xs → filter_map entry (map serial xs) ≡ xs
    by [] a = refl
    by (x ∷ xs) a = rw a.0 (ap (λ ys. x ∷ ys) (by xs a.1))

pub in_step : (entry : ℕ → Option Entry) (number : Identity → Option ℕ) (serials : List ℕ) (es : List Entry)
    → serials ≡ map serial es → IsIndexed entry number es → IsInStep serials entry number
in_step entry number serials es n i =
    let e = listed_is entry number serials es n i in
    let I : List Entry → Type 0 = IsIndexed entry number in
    record { numbers = n ∙ ap (map serial) (sym e); indexed = subst I (sym e) i }

module _ (entry : ℕ → Option Entry) (number : Identity
    → Option ℕ) (es : List Entry) (i : IsIndexed entry number es) where
  once_serial : (s : ℕ) → IsOnce (has_serial s) es
  once_serial s = once_key ◌==◌ Decides-eqb serial s es i.serials_once

  once_identity : (k : Identity) → IsOnce (is_at k) es
  once_identity k = once_key same_identity identity_decides identity_of k es i.identities_once

  -- an entry that is found is found by its number, and by its identity
  pub own_serial : (p : Entry → Bool) (e : Entry) → find p es ≡ Some e → find (has_serial e.serial) es ≡ Some e
  own_serial p e f = found_has (λ x. find (has_serial x.serial) es ≡ Some x) p es e
      (each_found ◌==◌ Decides-eqb serial es i.serials_once) f

  own_identity : (p : Entry → Bool) (e : Entry) → find p es ≡ Some e → find (is_at (identity_of e)) es ≡ Some e
  own_identity p e f = found_has (λ x. find (is_at (identity_of x)) es ≡ Some x) p es e
      (each_found same_identity identity_decides identity_of es i.identities_once) f

  pub alone_serial : (s : ℕ) (e : Entry) → find (has_serial s) es ≡ Some e
      → AllByRecursion (λ x. has_serial s x ≡ true → x ≡ e) es
  alone_serial s e f = only_one (has_serial s) es e (once_serial s) f

  alone_identity : (k : Identity) (e : Entry) → find (is_at k) es ≡ Some e
      → AllByRecursion (λ x. is_at k x ≡ true → x ≡ e) es
  alone_identity k e f = only_one (is_at k) es e (once_identity k) f

  -- one goes
  pub indexed_remove : (s : ℕ) (e : Entry) (entry' : ℕ → Option Entry) (number' : Identity → Option ℕ)
      → find (has_serial s) es ≡ Some e
      → ((q : ℕ) → entry' q ≡ cond (nat_eq s q) None (entry q))
      → ((k : Identity) → number' k ≡ cond (same_identity (identity_of e) k) None (number k))
      → IsIndexed entry' number' (filter (λ x. not (has_serial s x)) es)
  indexed_remove s e entry' number' f a b = record {
    found = λ q. a q ∙ (ap (cond (nat_eq s q) None) (i.found q) ∙ sym (by_serial q));
    named = λ k. b k ∙ (ap (cond (same_identity (identity_of e) k) None) (i.named k)
        ∙ (pushed (same_identity (identity_of e) k) (find (is_at k) es)
        ∙ ap (option_map serial) (sym (by_identity k))));
    serials_once = once_filter ◌==◌ Decides-eqb serial (λ x. not (has_serial s x)) es i.serials_once;
    identities_once = once_filter same_identity identity_decides identity_of (λ x. not (has_serial s x)) es
        i.identities_once;
  }
    where
      passes : has_serial s e ≡ true
      passes = found_passes (has_serial s) es e f

      its_number : s ≡ e.serial
      its_number = eqb-true s e.serial passes

      its_own : AllByRecursion (λ x. has_serial e.serial x ≡ true → x ≡ e) es
      its_own = alone_serial e.serial e (own_serial (has_serial s) e f)

      by_serial : (q : ℕ) → find (has_serial q) (filter (λ x. not (has_serial s x)) es)
          ≡ cond (s == q) None (find (has_serial q) es)
      by_serial q = find_without ◌==◌ Decides-eqb serial (has_serial s) e es (alone_serial s e f) passes its_own q
          ∙ ap (λ j. cond (j == q) None (find (has_serial q) es)) (sym its_number)

      by_identity : (k : Identity) → find (is_at k) (filter (λ x. not (has_serial s x)) es)
          ≡ cond (same_identity (identity_of e) k) None (find (is_at k) es)
      by_identity k = find_without same_identity identity_decides identity_of (has_serial s) e es (alone_serial s e f)
          passes (alone_identity (identity_of e) e (own_identity (has_serial s) e f)) k

      pushed : (c : Bool) (o : Option Entry) → cond c None (option_map serial o) ≡ option_map serial (cond c None o)
      pushed true o = refl
      pushed false o = refl

  -- one comes
  pub indexed_put : (new : Entry) (entry' : ℕ → Option Entry) (number' : Identity → Option ℕ)
      → list_any (has_serial new.serial) es ≡ false
      → ((q : ℕ) → entry' q ≡ cond (nat_eq new.serial q) (Some new)
      (cond (is_number (option_map serial (find (is_at (identity_of new)) es)) q) None (entry q)))
      → ((k : Identity) → number' k ≡ cond (same_identity (identity_of new) k) (Some new.serial) (number k))
      → IsIndexed entry' number' (put new es)
  indexed_put new entry' number' n a b = record {
    found = λ q. a q ∙ (ap (cond (nat_eq new.serial q) (Some new)) (left (find (is_at here) es) refl q)
        ∙ sym (find_put ◌==◌ Decides-eqb serial new es (once_identity here) fresh q));
    named = λ k. b k ∙ (renamed k (same_identity here k) refl
        ∙ ap (option_map serial)
        (sym (find_put same_identity identity_decides identity_of new es (once_identity here) other k)));
    serials_once = once_put ◌==◌ Decides-eqb serial new es (once_identity here) fresh i.serials_once;
    identities_once = once_put same_identity identity_decides identity_of new es (once_identity here) other
        i.identities_once;
  }
    where
      here : Identity
      here = identity_of new

      fresh : AllByRecursion (λ x. is_at here x ≡ false → (new.serial == x.serial) ≡ false) es
      fresh = each_weaker (λ x. has_serial new.serial x ≡ false) (λ x. is_at here x ≡ false
          → (new.serial == x.serial) ≡ false) (λ x h _. h) es (each_false (has_serial new.serial) es n)

      all_other : (xs : List Entry)
          → AllByRecursion (λ x. is_at here x ≡ false → same_identity here (identity_of x) ≡ false) xs
      all_other [] = tt
      all_other (x ∷ xs) = (λ h. h, all_other xs)

      other : AllByRecursion (λ x. is_at here x ≡ false → same_identity here (identity_of x) ≡ false) es
      other = all_other es

      left : (o : Option Entry) → find (is_at here) es ≡ o → (q : ℕ)
          → cond (is_number (option_map serial o) q) None (entry q)
          ≡ find (has_serial q) (filter (λ x. not (is_at here x)) es)
      left None f q = i.found q
          ∙ ap (find (has_serial q)) (sym (filter-none (is_at here) es (any_find (is_at here) es ∙ ap is_some f)))
      left (Some e) f q =
          ap (cond (e.serial == q) None) (i.found q)
          ∙ sym (find_without ◌==◌ Decides-eqb serial (is_at here) e es (alone_identity here e f)
          (found_passes (is_at here) es e f) (alone_serial e.serial e (own_serial (is_at here) e f)) q)

      apart : (k : Identity) → same_identity here k ≡ false → (xs : List Entry)
          → AllByRecursion (λ x. is_at here x ≡ true → is_at k x ≡ false) xs
      apart k d [] = tt
      apart k d (x ∷ xs) = (
        λ t. ap (same_identity k) (sym ((identity_decides here (identity_of x)).0 t))
            ∙ (flipped same_identity identity_decides identity_of k here ∙ d),
        apart k d xs,
      )

      renamed : (k : Identity) (c : Bool) → same_identity here k ≡ c
          → cond c (Some new.serial) (number k) ≡ option_map serial
          (cond c (Some new) (find (is_at k) (filter (λ x. not (is_at here x)) es)))
      renamed k true t = refl
      renamed k false t = i.named k ∙ ap (option_map serial) (sym (find_kept (is_at k) (is_at here) es (apart k t es)))

  -- and its number
  place_of_serial : (s : ℕ) (e : Entry) → find (has_serial s) es ≡ Some e
      → position (nat_eq s) (map serial es) ≡ Some (position_or_len (nat_eq s) (map serial es))
  place_of_serial s e f = position-any (nat_eq s) (map serial es)
      (list_any-map (nat_eq s) serial es ∙ (any_find (has_serial s) es ∙ ap is_some f))

  first_of_serial : (s : ℕ) (e : Entry) → find (has_serial s) es ≡ Some e
      → IsFirst (has_serial s) es (position_or_len (nat_eq s) (map serial es))
  first_of_serial s e f = IsFirst-map (nat_eq s) serial es _
      (IsFirst-position (nat_eq s) (map serial es) _ (place_of_serial s e f))

  pub numbers_remove : (s : ℕ) (e : Entry) → find (has_serial s) es ≡ Some e
      → unnumbered s (map serial es) ≡ map serial (filter (λ x. not (has_serial s x)) es)
  numbers_remove s e f =
      ap (λ p. unnumbered_at p (map serial es)) (place_of_serial s e f)
      ∙ (sym (map-remove serial es _)
      ∙ ap (map serial) (sym (filter-first (has_serial s) es _ (once_serial s) (first_of_serial s e f))))

  pub numbers_put : (new : Entry) (o : Option Entry) → find (is_at (identity_of new)) es ≡ o
      → numbered (option_map serial o) new.serial (map serial es) ≡ map serial (put new es)
  numbers_put new None f =
      sym (map-append serial es (new ∷ []))
      ∙ ap (map serial) (sym (put-none new es (any_find (is_at (identity_of new)) es ∙ ap is_some f)))
  numbers_put new (Some e) f =
      ap (λ p. numbered_at p new.serial (map serial es)) (place_of_serial e.serial e own)
      ∙ (sym (map-set serial es (position_or_len (nat_eq e.serial) (map serial es)) new)
      ∙ ap (map serial) (sym (put-first new es (position_or_len (nat_eq e.serial) (map serial es)) first)))
    where
      own : find (has_serial e.serial) es ≡ Some e
      own = own_serial (is_at (identity_of new)) e f

      first : IsFirst (is_at (identity_of new)) es (position_or_len (nat_eq e.serial) (map serial es))
      first = same_first (is_at (identity_of new)) (has_serial e.serial) e es
          (position_or_len (nat_eq e.serial) (map serial es)) (alone_serial e.serial e own)
          (alone_identity (identity_of new) e f)
          ((Decides-eqb e.serial e.serial).1 refl) (found_passes (is_at (identity_of new)) es e f)
          (first_of_serial e.serial e own)

  -- one changes in all but its number and identity
  pub indexed_set : (s : ℕ) (f : Entry → Entry) → ((e : Entry) → (f e).serial ≡ e.serial)
      → ((e : Entry) → identity_of (f e) ≡ identity_of e) → (e : Entry) (entry' : ℕ → Option Entry)
      → find (has_serial s) es ≡ Some e
      → ((q : ℕ) → entry' q ≡ cond (nat_eq s q) (Some (f e)) (entry q))
      → IsIndexed entry' number (map (λ x. if has_serial s x then f x else x) es)
  indexed_set s f numbers identities e entry' h a = record {
    found = λ q. a q
        ∙ (there q (s == q) refl ∙ sym (find_map (has_serial q) changed (λ x. ap (nat_eq q) (same_number x)) es));
    named = λ k. i.named k
        ∙ (same_names (find (is_at k) es)
        ∙ ap (option_map serial) (sym (find_map (is_at k) changed (λ x. ap (same_identity k) (same_name x)) es)));
    serials_once = (let D : List ℕ → Type 0 = IsDistinct ◌==◌ in
        subst D (sym (keys_map ◌==◌ Decides-eqb serial changed same_number es)) i.serials_once);
    identities_once = (let D : List Identity
        → Type 0 = IsDistinct same_identity in
        subst D (sym (keys_map same_identity identity_decides identity_of changed same_name es)) i.identities_once);
  }
    where
      changed : Entry → Entry
      changed x = if has_serial s x then f x else x

      same_number : (x : Entry) → serial (changed x) ≡ serial x
      same_number x = either_way serial (has_serial s x) (f x) x (numbers x)

      same_name : (x : Entry) → identity_of (changed x) ≡ identity_of x
      same_name x = either_way identity_of (has_serial s x) (f x) x (identities x)

      same_names : (o : Option Entry) → option_map serial o ≡ option_map serial (option_map changed o)
      same_names None = refl
      same_names (Some x) = ap Some (sym (same_number x))

      unchanged : (q : ℕ) → (s == q) ≡ false → (o : Option Entry) → find (has_serial q) es ≡ o
          → o ≡ option_map changed o
      unchanged q d None g = refl
      unchanged q d (Some x) g =
          ap Some
          (sym (ap (λ b. if b then f x else x)
          (ap (nat_eq s) (sym (eqb-true q x.serial (found_passes (has_serial q) es x g))) ∙ d)))

      there : (q : ℕ) (b : Bool) → (s == q) ≡ b
          → cond b (Some (f e)) (entry q) ≡ option_map changed (find (has_serial q) es)
      there q true t =
          ap Some (sym (ap (λ b. if b then f e else e) (found_passes (has_serial s) es e h)))
          ∙ ap (option_map changed) (sym (ap (λ j. find (has_serial j) es) (sym (eqb-true s q t)) ∙ h))
      there q false t = i.found q ∙ unchanged q t (find (has_serial q) es) refl

-- the order and the maps after one goes
pub in_step_remove : (serials serials' : List ℕ) (entry entry' : ℕ → Option Entry) (number number' : Identity
    → Option ℕ) (s : ℕ) (e : Entry) (k : Identity) → IsInStep serials entry number → Some e ≡ entry s
    → k ≡ identity_of e
    → ((q : ℕ) → entry' q ≡ cond (nat_eq s q) None (entry q))
    → ((j : Identity) → number' j ≡ cond (same_identity k j) None (number j)) → serials' ≡ unnumbered s serials
    → IsInStep serials' entry' number'
    × (listed entry' serials' ≡ filter (λ x. not (has_serial s x)) (listed entry serials))
in_step_remove serials serials' entry entry' number number' s e k i f w a b n =
    let es = listed entry serials in
    let found = sym (i.indexed.found s) ∙ sym f in
    let indexed = indexed_remove entry number es i.indexed s e entry' number' found a
    (λ j. b j ∙ ap (λ z. cond (same_identity z j) None (number j)) w) in
    let numbers = n ∙ (ap (unnumbered s) i.numbers ∙ numbers_remove entry number es i.indexed s e found) in (
      in_step entry' number' serials' (filter (λ x. not (has_serial s x)) es) numbers indexed,
      listed_is entry' number' serials' (filter (λ x. not (has_serial s x)) es) numbers indexed,
    )

-- after one comes
pub in_step_put : (serials serials' : List ℕ) (entry taken entry' : ℕ → Option Entry) (number number' : Identity
    → Option ℕ) (new : Entry) (k : Identity) (replaced : Option ℕ) → IsInStep serials entry number → k ≡ identity_of new
    → list_any (has_serial new.serial) (listed entry serials) ≡ false → replaced ≡ number k
    → ((q : ℕ) → taken q ≡ cond (is_number replaced q) None (entry q))
    → ((q : ℕ) → entry' q ≡ cond (nat_eq new.serial q) (Some new) (taken q))
    → ((j : Identity) → number' j ≡ cond (same_identity k j) (Some new.serial) (number j))
    → serials' ≡ numbered replaced new.serial serials
    → IsInStep serials' entry' number' × (listed entry' serials' ≡ put new (listed entry serials))
in_step_put serials serials' entry taken entry' number number' new k replaced i w fresh r t a b n =
    let es = listed entry serials in
    let old : replaced ≡ option_map serial (find (is_at (identity_of new)) es) = r
    ∙ (ap number w ∙ i.indexed.named (identity_of new)) in
    let indexed = indexed_put entry number es i.indexed new entry' number' fresh
    (λ q. a q ∙ ap (cond (nat_eq new.serial q) (Some new))
    (t q ∙ ap (λ o. cond (is_number o q) None (entry q)) old))
    (λ j. b j ∙ ap (λ z. cond (same_identity z j) (Some new.serial) (number j)) w) in
    let numbers = n ∙ (ap₂ (λ o ns. numbered o new.serial ns) old i.numbers
    ∙ numbers_put entry number es i.indexed new (find (is_at (identity_of new)) es) refl) in (
      in_step entry' number' serials' (put new es) numbers indexed,
      listed_is entry' number' serials' (put new es) numbers indexed,
    )

-- what it replaces
pub replaced_is : (serials : List ℕ) (entry : ℕ → Option Entry) (number : Identity → Option ℕ) (k : Identity)
    → IsInStep serials entry number → option_and_then entry (number k) ≡ find (is_at k) (listed entry serials)
replaced_is serials entry number k i = ap (option_and_then entry) (i.indexed.named k)
    ∙ by (find (is_at k) (listed entry serials)) refl
  where
    by : (o : Option Entry) → find (is_at k) (listed entry serials) ≡ o
        → option_and_then entry (option_map serial o) ≡ o
    by None f = refl
    by (Some e) f = i.indexed.found e.serial ∙ own_serial entry number (listed entry serials) i.indexed (is_at k) e f

-- what a map finds after another value is put at the first place of a key
pub lookup_first : (s : ℕ) (pairs : List (ℕ × Entry)) (at : ℕ) → IsFirst (nat_eq s) (keys_of pairs) at
    → lookup (nat_eq s) pairs ≡ slice_get (values_of pairs) at
lookup_first s [] at h = absurd h
lookup_first s (p ∷ ps) zero h = rw h refl
lookup_first s (p ∷ ps) (suc at) h = rw h.0 (lookup_first s ps at h.1)

pub lookup_set : (s : ℕ) (pairs : List (ℕ × Entry)) (at : ℕ) (w : Entry) → IsFirst (nat_eq s) (keys_of pairs) at
    → (q : ℕ) → lookup (nat_eq q) (set_value_at pairs at w) ≡ cond (nat_eq s q) (Some w) (lookup (nat_eq q) pairs)
lookup_set s [] at w h q = absurd h
lookup_set s (p ∷ ps) zero w h q = by (s == q) refl (q == p.0) refl
  where
    same : s ≡ p.0
    same = eqb-true s p.0 h

    by : (b : Bool) → (s == q) ≡ b → (c : Bool) → (q == p.0) ≡ c
        → cond c (Some w) (lookup (nat_eq q) ps) ≡ cond b (Some w) (cond c (Some p.1) (lookup (nat_eq q) ps))
    by true t true u = refl
    by true t false u = absurd (true≢false (sym (ap (λ j. j == p.0) (sym (eqb-true s q t)) ∙ h) ∙ u))
    by false t true u = absurd (true≢false (sym ((Decides-eqb s q).1 (same ∙ sym (eqb-true q p.0 u))) ∙ t))
    by false t false u = refl
lookup_set s (p ∷ ps) (suc at) w h q = by (s == q) refl (q == p.0) refl (lookup_set s ps at w h.1 q)
  where
    by : (b : Bool) → (s == q) ≡ b → (c : Bool) → (q == p.0) ≡ c
        → lookup (nat_eq q) (set_value_at ps at w) ≡ cond b (Some w) (lookup (nat_eq q) ps)
        → cond c (Some p.1) (lookup (nat_eq q) (set_value_at ps at w))
        ≡ cond b (Some w) (cond c (Some p.1) (lookup (nat_eq q) ps))
    by true t true u r = absurd (true≢false (sym ((Decides-eqb s p.0).1 (eqb-true s q t ∙ eqb-true q p.0 u)) ∙ h.0))
    by true t false u r = r
    by false t true u r = refl
    by false t false u r = r

-- after one changes in all but its number and identity
pub in_step_set : (serials : List ℕ) (entry entry' : ℕ → Option Entry) (number : Identity → Option ℕ) (s : ℕ) (f : Entry
    → Entry) (e : Entry) → IsInStep serials entry number
    → ((x : Entry) → (f x).serial ≡ x.serial) → ((x : Entry) → identity_of (f x) ≡ identity_of x) → Some e ≡ entry s
    → ((q : ℕ) → entry' q ≡ cond (nat_eq s q) (Some (f e)) (entry q))
    → IsInStep serials entry' number
    × (listed entry' serials ≡ map (λ x. if has_serial s x then f x else x) (listed entry serials))
in_step_set serials entry entry' number s f e i numbers identities h a =
    let es = listed entry serials in
    let indexed = indexed_set entry number es i.indexed s f numbers identities e entry'
    (sym (i.indexed.found s) ∙ sym h) a in
    let same = i.numbers
    ∙ sym (keys_map ◌==◌ Decides-eqb serial (λ x. if has_serial s x then f x else x)
    (λ x. either_way serial (has_serial s x) (f x) x (numbers x)) es) in (
      in_step entry' number serials (map (λ x. if has_serial s x then f x else x) es) same indexed,
      listed_is entry' number serials (map (λ x. if has_serial s x then f x else x) es) same indexed,
    )

-- the same, at the place where its number stands
pub in_step_set_at : (serials : List ℕ) (pairs : List (ℕ × Entry)) (number : Identity → Option ℕ) (s at : ℕ) (f : Entry
    → Entry) (e : Entry) → IsInStep serials (λ q. lookup (nat_eq q) pairs) number
    → ((x : Entry) → (f x).serial ≡ x.serial) → ((x : Entry) → identity_of (f x) ≡ identity_of x)
    → Some at ≡ position (nat_eq s) (keys_of pairs) → slice_get (values_of pairs) at ≡ Some e
    → IsInStep serials (λ q. lookup (nat_eq q) (set_value_at pairs at (f e))) number
    × (listed (λ q. lookup (nat_eq q) (set_value_at pairs at (f e))) serials
    ≡ map (λ x. if has_serial s x then f x else x) (listed (λ q. lookup (nat_eq q) pairs) serials))
in_step_set_at serials pairs number s at f e i numbers identities h g =
    let first = IsFirst-position (nat_eq s) (keys_of pairs) at (sym h) in
    in_step_set serials (λ q. lookup (nat_eq q) pairs) (λ q. lookup (nat_eq q) (set_value_at pairs at (f e))) number s f
    e i numbers identities (sym g ∙ sym (lookup_first s pairs at first)) (lookup_set s pairs at (f e) first)

-- a number that finds nothing
pub unlisted : (serials : List ℕ) (entry : ℕ → Option Entry) (number : Identity → Option ℕ) (s : ℕ)
    → IsInStep serials entry number → false ≡ is_some (entry s) → list_any (has_serial s) (listed entry serials) ≡ false
unlisted serials entry number s i n = any_find (has_serial s) (listed entry serials)
    ∙ (ap is_some (sym (i.indexed.found s)) ∙ sym n)

pub is_listed : (serials : List ℕ) (entry : ℕ → Option Entry) (number : Identity → Option ℕ) (s : ℕ) (e : Entry)
    → IsInStep serials entry number → entry s ≡ Some e → list_any (has_serial s) (listed entry serials) ≡ true
is_listed serials entry number s e i n = any_find (has_serial s) (listed entry serials)
    ∙ ap is_some (sym (i.indexed.found s) ∙ n)

-- each entry is found by its number, so what is known of entries is known of numbers
each_entry : (serials : List ℕ) (entry : ℕ → Option Entry) (number : Identity → Option ℕ)
    → IsInStep serials entry number → AllByRecursion (λ e. entry e.serial ≡ Some e) (listed entry serials)
each_entry serials entry number i =
    let es = listed entry serials in
    each_weaker (λ e. find (has_serial e.serial) es ≡ Some e) (λ e. entry e.serial ≡ Some e)
    (λ e f. i.indexed.found e.serial ∙ f) es (each_found ◌==◌ Decides-eqb serial es i.indexed.serials_once)

pub wanted_numbers : (serials : List ℕ) (entry : ℕ → Option Entry) (number : Identity → Option ℕ) (test : Entry → Bool)
    → IsInStep serials entry number
    → filter (λ s. option_map_or test (find (has_serial s) (listed entry serials)) false) serials
    ≡ serials_of test (listed entry serials)
wanted_numbers serials entry number test i =
    let es = listed entry serials in
    ap (filter (λ s. option_map_or test (find (has_serial s) es) false)) i.numbers
    ∙ by es es (each_found ◌==◌ Decides-eqb serial es i.indexed.serials_once)
  where
    by : (es xs : List Entry) → AllByRecursion (λ e. find (has_serial e.serial) es ≡ Some e) xs
        → filter (λ s. option_map_or test (find (has_serial s) es) false) (map serial xs) ≡ serials_of test xs
    by es [] a = refl
    by es (x ∷ xs) a = rw a.0 (with_first (test x) (by es xs a.1))
      where
        with_first : (b : Bool) → filter (λ s. option_map_or test (find (has_serial s) es) false) (map serial xs)
            ≡ serials_of test xs
            → cond b (x.serial ∷ filter (λ s. option_map_or test (find (has_serial s) es) false) (map serial xs))
            (filter (λ s. option_map_or test (find (has_serial s) es) false) (map serial xs))
            ≡ map serial (cond b (x ∷ filter test xs) (filter test xs))
        with_first true r = ap (λ ns. x.serial ∷ ns) r
        with_first false r = r

-- the entry at a place of the order
pub listed_at : (serials : List ℕ) (entry : ℕ → Option Entry) (number : Identity → Option ℕ) (place s : ℕ)
    → IsInStep serials entry number → slice_get serials place ≡ Some s
    → entry s ≡ slice_get (listed entry serials) place
listed_at serials entry number place s i e =
    by (listed entry serials) place (each_entry serials entry number i)
    (ap (λ ns. slice_get ns place) (sym i.numbers) ∙ e)
  where
    by : (xs : List Entry) (at : ℕ) → AllByRecursion (λ x. entry x.serial ≡ Some x) xs
        → slice_get (map serial xs) at ≡ Some s → entry s ≡ slice_get xs at
    by [] zero a e = absurd (cc)
    by [] (suc at) a e = absurd (cc)
    by (x ∷ xs) zero a e = let n : x.serial ≡ s = cc in ap entry (sym n) ∙ a.0
    by (x ∷ xs) (suc at) a e = by xs at a.1 e

pub listed_past : (serials : List ℕ) (entry : ℕ → Option Entry) (number : Identity → Option ℕ) (place : ℕ)
    → IsInStep serials entry number → false ≡ nat_lt place (length serials)
    → slice_get (listed entry serials) place ≡ None
listed_past serials entry number place i b =
    let as_many = ap length i.numbers ∙ length-map (listed entry serials) serial in
    slice_past (listed entry serials) place (subst (λ n. n ≤ place) as_many (ltb-false place (length serials) (sym b)))
