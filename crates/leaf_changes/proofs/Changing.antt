-- What stays and what comes of the entries of a table that changes.
use Rattle.std.proofs.Common.{◌≡◌, ◌∙◌, ℕ, ◌==◌, Bool, true, false, not, ◌&&◌, ◌||◌, List, [], ◌∷◌, ◌++◌, map, filter}
use Rattle.std.proofs.Common.{find, Option, Some, None, option_map, refl, sym, ap, ap₂, subst, eq-eqb, eqb-true}
use Rattle.std.proofs.Common.{true≢false}
use Rattle.std.specs.Prelude.{IsPermutation, filter_map, if◌then◌else◌, option_to_list}
use Rattle.std.specs.List.{AllByRecursion, IsDistinct, cons_option}
use Rattle.std.proofs.lemmas.List.Sorted.{IsPermutation-append_comm, IsPermutation-append_right, IsPermutation-cons}
use Rattle.std.proofs.lemmas.List.Sorted.{IsPermutation-middle, IsPermutation-refl, IsPermutation-sym}
use Rattle.std.proofs.lemmas.List.Sorted.{IsPermutation-trans}
use Rattle.member_table.specs.Changes.{changed_by, is_among, is_number, replaced, stays, with_added}
use Rattle.member_table.specs.Entries.{has_serial, identity_of, is_at, put, same_identity}
use Rattle.member_table.specs.Tables.{with_actions}
use Rattle.member_table.specs.declared.change.Modified.{Modified}
use Rattle.member_table.specs.declared.entry.Entry.{Entry}
use Rattle.leaf_changes.proofs.Lists.{all_among, all_passing, by-equation, filter_mapped, filter_no, filter_yes}
use Rattle.leaf_changes.proofs.Lists.{left_out}
use Rattle.leaf_changes.proofs.Lists.{map_unchanged, to_front, weaker}

-- tests -------------------------------------------------------------------------------------------------------------

or_false_right : (b : Bool) → (b || false) ≡ b
or_false_right true = refl
or_false_right false = refl

or_true_right : (b : Bool) → (b || true) ≡ true
or_true_right true = refl
or_true_right false = refl

and_false_right : (b : Bool) → (b && false) ≡ false
and_false_right true = refl
and_false_right false = refl

and_true_right : (b : Bool) → (b && true) ≡ b
and_true_right true = refl
and_true_right false = refl

pub both_false : (a b : Bool) → (a || b) ≡ false → (a ≡ false) × (b ≡ false)
both_false true b h = absurd (true≢false h)
both_false false b h = (refl, h)

flipped : (a b : ℕ) → (a == b) ≡ (b == a)
flipped a b = by (a == b) refl (b == a) refl
  where
    by : (x : Bool) → (a == b) ≡ x → (y : Bool) → (b == a) ≡ y → x ≡ y
    by true s true t = refl
    by true s false t = absurd (true≢false (sym (eq-eqb b a (sym (eqb-true a b s))) ∙ t))
    by false s true t = absurd (true≢false (sym (eq-eqb a b (sym (eqb-true b a t))) ∙ s))
    by false s false t = refl

filter_twice : {X : Type 0} (p q : X → Bool) (xs : List X) → filter q (filter p xs) ≡ filter (λ x. p x && q x) xs
filter_twice p q [] = refl
filter_twice p q (x ∷ xs) = by (p x) (filter_twice p q xs)
  where
    by : (b : Bool) → filter q (filter p xs) ≡ filter (λ y. p y && q y) xs
        → filter q (if b then x ∷ filter p xs else filter p xs)
        ≡ (if b && q x then x ∷ filter (λ y. p y && q y) xs else filter (λ y. p y && q y) xs)
    by true h = ap (λ ys. if q x then x ∷ ys else ys) h
    by false h = h

filter_within : {X : Type 0} (p q : X → Bool) (xs : List X) → AllByRecursion (λ x. p x ≡ q x) xs
    → filter p xs ≡ filter q xs
filter_within p q [] h = refl
filter_within p q (x ∷ xs) h = ap₂ (λ b ys. if b then x ∷ ys else ys) h.0 (filter_within p q xs h.1)

filter_same : {X : Type 0} (p q : X → Bool) → ((x : X) → p x ≡ q x) → (xs : List X) → filter p xs ≡ filter q xs
filter_same p q h [] = refl
filter_same p q h (x ∷ xs) = ap₂ (λ b ys. if b then x ∷ ys else ys) (h x) (filter_same p q h xs)

-- other actions -----------------------------------------------------------------------------------------------------

abbrev pub numbers : List Entry → List ℕ
numbers es = map (λ (e : Entry). e.serial) es

abbrev pub numbers_of : List Modified → List ℕ
numbers_of ms = map (λ (m : Modified). m.serial) ms

-- an entry with other actions keeps its number and its identity
pub changed_serial : (ms : List Modified) (e : Entry) → (changed_by ms e).serial ≡ e.serial
changed_serial [] e = refl
changed_serial (m ∷ ms) e = by (m.serial == e.serial) (changed_serial ms e)
  where
    by : (b : Bool) → (changed_by ms e).serial ≡ e.serial
        → (if b then with_actions m.actions e else changed_by ms e).serial ≡ e.serial
    by true h = refl
    by false h = h

changed_identity : (ms : List Modified) (e : Entry) → identity_of (changed_by ms e) ≡ identity_of e
changed_identity [] e = refl
changed_identity (m ∷ ms) e = by (m.serial == e.serial) (changed_identity ms e)
  where
    by : (b : Bool) → identity_of (changed_by ms e) ≡ identity_of e
        → identity_of (if b then with_actions m.actions e else changed_by ms e) ≡ identity_of e
    by true h = refl
    by false h = h

-- an entry that gets none is as it was
changed_none : (ms : List Modified) (e : Entry) → is_among (numbers_of ms) e.serial ≡ false → changed_by ms e ≡ e
changed_none [] e h = refl
changed_none (m ∷ ms) e h =
    let s = both_false (m.serial == e.serial) (is_among (numbers_of ms) e.serial) h in
    ap (λ b. if b then with_actions m.actions e else changed_by ms e) s.0 ∙ changed_none ms e s.1

-- the entry that comes ----------------------------------------------------------------------------------------------

-- entries with one in their midst, if there is one
pub record HasWithin (some : Option Entry) (zs ws : List Entry) : Type 0 where
  pub front : List Entry
  pub back : List Entry
  pub is : zs ≡ front ++ (option_to_list some ++ back)
  pub rest : front ++ back ≡ ws

-- not among those that go
abbrev pub is_left : List ℕ → Entry → Bool
is_left removed e = not (is_among removed e.serial)

module _ (removed : List ℕ) (mods : List Modified) (new : Entry) where
  abbrev is_same : Entry → Bool
  is_same e = is_at (identity_of new) e

  abbrev place_among : List Entry → Option ℕ
  place_among es = option_map (λ (e : Entry). e.serial) (find is_same es)

  abbrev made : List Entry → List Entry
  made es = map (changed_by mods) es

  same_changed : (e : Entry) → is_same (changed_by mods e) ≡ is_same e
  same_changed e = ap (same_identity (identity_of new)) (changed_identity mods e)

  -- the number of another entry isn't that of the place
  other_place : (n : ℕ) (es : List Entry) → AllByRecursion (λ y. (n == y) ≡ false) (numbers es)
      → is_number (place_among es) n ≡ false
  other_place n [] a = refl
  other_place n (e ∷ es) a = by (is_same e) (other_place n es a.1)
    where
      by : (b : Bool) → is_number (place_among es) n ≡ false
          → is_number (option_map (λ (x : Entry). x.serial) (if b then Some e else find is_same es)) n ≡ false
      by true h = flipped e.serial n ∙ a.0
      by false h = h

  others_left : (n : ℕ) (es : List Entry) → AllByRecursion (λ y. (n == y) ≡ false) (numbers es)
      → filter (stays removed (Some n)) es ≡ filter (is_left removed) es
  others_left n [] a = refl
  others_left n (e ∷ es) a =
      ap₂ (λ b ys. if b then e ∷ ys else ys)
      (ap (λ c. is_left removed e || c) a.0 ∙ or_false_right (is_left removed e)) (others_left n es a.1)

  abbrev IsPut : Option ℕ → List Entry → Type 0
  IsPut place es =
      HasWithin (Some new) (put new (made (filter (stays removed place) es))) (made (filter (is_left removed) es))

  -- it takes the place of the identical one, which is among those that go, or is the last
  put_within : (place : Option ℕ) (es : List Entry) → place ≡ place_among es → IsDistinct ◌==◌ (numbers es)
      → ((n : ℕ) → place ≡ Some n → is_among removed n ≡ true)
      → IsPut place es
  unfolding IsDistinct
  put_within place [] e d named = record { front = []; back = []; is = refl; rest = refl }
  put_within place (x ∷ es) e d named =
      by (is_same x) refl d.0 (λ g. put_within place es g d.1 named) e
    where
      taken : is_same x ≡ true → AllByRecursion (λ y. (x.serial == y) ≡ false) (numbers es) → place ≡ Some x.serial
          → IsPut place (x ∷ es)
      taken t a g =
          let stay : stays removed place x ≡ true
          = ap (λ o. is_left removed x || is_number o x.serial) g
          ∙ (ap (λ b. is_left removed x || b) (eq-eqb x.serial x.serial refl)
          ∙ or_true_right (is_left removed x)) in
          let gone : is_left removed x ≡ false = ap not (named x.serial g) in
          record {
            front = [];
            back = made (filter (is_left removed) es);
            is = ap (λ zs. put new (made zs))
                (filter_yes (stays removed place) x es stay
                ∙ ap (λ zs. x ∷ zs) (ap (λ o. filter (stays removed o) es) g ∙ others_left x.serial es a))
                ∙ ap (λ b. if b then new ∷ made (filter (is_left removed) es) else changed_by mods x ∷ put new
                (made (filter (is_left removed) es))) (same_changed x ∙ t);
            rest = sym (ap made (filter_no (is_left removed) x es gone));
          }

      next : (b : Bool) → is_left removed x ≡ b → stays removed place x ≡ is_left removed x → is_same x ≡ false
          → IsPut place es → IsPut place (x ∷ es)
      next true t alike f more = record {
        front = changed_by mods x ∷ more.front;
        back = more.back;
        is = ap (λ zs. put new (made zs)) (filter_yes (stays removed place) x es (alike ∙ t))
            ∙ (ap (λ b. if b then new ∷ made (filter (stays removed place) es) else changed_by mods x ∷ put new
            (made (filter (stays removed place) es))) (same_changed x ∙ f)
            ∙ ap (λ zs. changed_by mods x ∷ zs) more.is);
        rest = ap (λ zs. changed_by mods x ∷ zs) more.rest ∙ sym (ap made (filter_yes (is_left removed) x es t));
      }
      next false t alike f more = record {
        front = more.front;
        back = more.back;
        is = ap (λ zs. put new (made zs)) (filter_no (stays removed place) x es (alike ∙ t)) ∙ more.is;
        rest = more.rest ∙ sym (ap made (filter_no (is_left removed) x es t));
      }

      by : (b : Bool) → is_same x ≡ b → AllByRecursion (λ y. (x.serial == y) ≡ false) (numbers es)
          → (place ≡ place_among es → IsPut place es)
          → place ≡ option_map (λ (y : Entry). y.serial) (if b then Some x else find is_same es)
          → IsPut place (x ∷ es)
      by true t a more g = taken t a g
      by false t a more g =
          next (is_left removed x) refl
          (ap (λ o. is_left removed x || is_number o x.serial) g
          ∙ (ap (λ b. is_left removed x || b) (other_place x.serial es a) ∙ or_false_right (is_left removed x))) t
          (more g)

pub comes_within : (removed : List ℕ) (mods : List Modified) (added : Option Entry) (es : List Entry)
    → IsDistinct ◌==◌ (numbers es) → ((n : ℕ) → replaced added es ≡ Some n → is_among removed n ≡ true)
    → HasWithin added
    (with_added added (map (changed_by mods) (filter (stays removed (replaced added es)) es)))
    (map (changed_by mods) (filter (is_left removed) es))
comes_within removed mods None es d named = record {
  front = [];
  back = map (changed_by mods) (filter (stays removed None) es);
  is = refl;
  rest = ap (map (changed_by mods))
      (filter_same (stays removed None) (is_left removed) (λ e. or_false_right (is_left removed e)) es);
}
comes_within removed mods (Some new) es d named =
    put_within removed mods new (replaced (Some new) es) es refl d named

-- those that get other actions --------------------------------------------------------------------------------------

module _ (goes : ℕ → Bool) where
  -- the entry of these with its new actions, if it is there and stays
  abbrev pub changed_at : List Entry → Modified → Option Entry
  changed_at es m = if goes m.serial then None else option_map (with_actions m.actions) (find (has_serial m.serial) es)

  -- it stays, and gets other actions
  abbrev pub is_changed : List Modified → Entry → Bool
  is_changed ms e = not (goes e.serial) && is_among (numbers_of ms) e.serial

  -- one entry of all, where it is so
  abbrev alone : List Modified → Entry → List Entry
  alone ms e = if is_changed ms e then changed_by ms e ∷ [] else []

  -- others don't see it
  not_seen : (e : Entry) (es : List Entry) (m : Modified) → (m.serial == e.serial) ≡ false
      → changed_at (e ∷ es) m ≡ changed_at es m
  not_seen e es m h =
      ap (λ b. if goes m.serial then None else option_map (with_actions m.actions) (if b then Some e else find
      (has_serial m.serial) es)) h

  none_seen : (e : Entry) (es : List Entry) (ms : List Modified)
      → AllByRecursion (λ y. (e.serial == y) ≡ false) (numbers_of ms)
      → filter_map (changed_at (e ∷ es)) ms ≡ filter_map (changed_at es) ms
  none_seen e es [] a = refl
  none_seen e es (m ∷ ms) a =
      ap₂ cons_option (not_seen e es m (flipped m.serial e.serial ∙ a.0)) (none_seen e es ms a.1)

  none_among : (n : ℕ) (ns : List ℕ) → AllByRecursion (λ y. (n == y) ≡ false) ns → is_among ns n ≡ false
  none_among n [] a = refl
  none_among n (k ∷ ks) a = ap₂ (λ b c. b || c) (flipped k n ∙ a.0) (none_among n ks a.1)

  not_found : (n : ℕ) (es : List Entry) → AllByRecursion (λ y. (n == y) ≡ false) (numbers es)
      → find (has_serial n) es ≡ None
  not_found n [] a = refl
  not_found n (e ∷ es) a = ap (λ b. if b then Some e else find (has_serial n) es) a.0 ∙ not_found n es a.1

  -- with one entry more one more comes, if it gets other actions
  one_more : (e : Entry) (es : List Entry) → AllByRecursion (λ y. (e.serial == y) ≡ false) (numbers es)
      → (ms : List Modified) → IsDistinct ◌==◌ (numbers_of ms)
      → IsPermutation (filter_map (changed_at (e ∷ es)) ms) (alone ms e ++ filter_map (changed_at es) ms)
  unfolding IsDistinct
  one_more e es a [] d = by (goes e.serial)
    where
      by : (b : Bool) → IsPermutation [] ((if not b && false then e ∷ [] else []) ++ [])
      by true = IsPermutation-refl []
      by false = IsPermutation-refl []
  one_more e es a (m ∷ ms) d = by (m.serial == e.serial) refl d.0 (one_more e es a ms d.1)
    where
      -- this one gets other actions
      mine : (m.serial == e.serial) ≡ true → AllByRecursion (λ y. (m.serial == y) ≡ false) (numbers_of ms)
          → (out : Bool)
          → cons_option (if out then None else Some (with_actions m.actions e)) (filter_map (changed_at (e ∷ es)) ms)
          ≡ (if not out && true then with_actions m.actions e ∷ [] else [])
          ++ cons_option (if out then None else option_map (with_actions m.actions) (find (has_serial m.serial) es))
          (filter_map (changed_at es) ms)
      mine t b true =
          none_seen e es ms (subst (λ n. AllByRecursion (λ y. (n == y) ≡ false) (numbers_of ms))
          (eqb-true m.serial e.serial t) b)
      mine t b false =
          ap (λ ys. with_actions m.actions e ∷ ys)
          (none_seen e es ms (subst (λ n. AllByRecursion (λ y. (n == y) ≡ false) (numbers_of ms))
          (eqb-true m.serial e.serial t) b)
          ∙ sym (ap (λ o. cons_option (option_map (with_actions m.actions) o) (filter_map (changed_at es) ms))
          (not_found m.serial es (subst (λ n. AllByRecursion (λ y. (n == y) ≡ false) (numbers es))
          (sym (eqb-true m.serial e.serial t)) a))))

      same_out : (m.serial == e.serial) ≡ true → goes e.serial ≡ goes m.serial
      same_out t = ap goes (sym (eqb-true m.serial e.serial t))

      -- another one does
      skipped : (o : Option Entry)
          → IsPermutation (filter_map (changed_at (e ∷ es)) ms) (alone ms e ++ (filter_map (changed_at es) ms))
          → IsPermutation (cons_option o (filter_map (changed_at (e ∷ es)) ms))
          (alone ms e ++ cons_option o (filter_map (changed_at es) ms))
      skipped None p = p
      skipped (Some y) p =
          IsPermutation-trans (y ∷ filter_map (changed_at (e ∷ es)) ms)
          (y ∷ (alone ms e ++ (filter_map (changed_at es) ms)))
          (alone ms e ++ y ∷ (filter_map (changed_at es) ms))
          (IsPermutation-cons y (filter_map (changed_at (e ∷ es)) ms) (alone ms e ++ (filter_map (changed_at es) ms)) p)
          (IsPermutation-sym (alone ms e ++ y ∷ (filter_map (changed_at es) ms))
          (y ∷ (alone ms e ++ (filter_map (changed_at es) ms)))
          (IsPermutation-middle (alone ms e) y (filter_map (changed_at es) ms)))

      by : (seen : Bool) → (m.serial == e.serial) ≡ seen
          → AllByRecursion (λ y. (m.serial == y) ≡ false) (numbers_of ms)
          → IsPermutation (filter_map (changed_at (e ∷ es)) ms) (alone ms e ++ (filter_map (changed_at es) ms))
          → IsPermutation
          (cons_option (if goes m.serial then None else option_map (with_actions m.actions) (if seen then Some e else
          find (has_serial m.serial) es)) (filter_map (changed_at (e ∷ es)) ms))
          ((if not (goes e.serial) && (seen || is_among (numbers_of ms) e.serial) then (if seen then with_actions
          m.actions e else changed_by ms e) ∷ [] else [])
          ++ cons_option (changed_at es m) (filter_map (changed_at es) ms))
      by true t b p = by-equation _ _ (mine t b (goes m.serial)
          ∙ ap (λ out. (if not out && true then with_actions m.actions e ∷ [] else []) ++ cons_option (changed_at es m)
          (filter_map (changed_at es) ms)) (sym (same_out t)))
      by false t b p = skipped (changed_at es m) p

  -- those that come with other actions are those of the entries that get some
  pub changed_come : (ms : List Modified) → IsDistinct ◌==◌ (numbers_of ms) → (es : List Entry)
      → IsDistinct ◌==◌ (numbers es)
      → IsPermutation (filter_map (changed_at es) ms) (map (changed_by ms) (filter (is_changed ms) es))
  unfolding IsDistinct
  changed_come ms once [] d = by-equation (filter_map (changed_at []) ms) [] (none ms)
    where
      nothing : (b : Bool) (ns : List Modified) → filter_map (changed_at []) ns ≡ []
          → cons_option (if b then None else None) (filter_map (changed_at []) ns) ≡ []
      nothing true ns h = h
      nothing false ns h = h

      none : (ns : List Modified) → filter_map (changed_at []) ns ≡ []
      none [] = refl
      none (n ∷ ns) = nothing (goes n.serial) ns (none ns)
  changed_come ms once (e ∷ es) d =
      IsPermutation-trans (filter_map (changed_at (e ∷ es)) ms) (alone ms e ++ filter_map (changed_at es) ms)
      (map (changed_by ms) (filter (is_changed ms) (e ∷ es))) (one_more e es d.0 ms once)
      (subst (λ ys. IsPermutation (alone ms e ++ filter_map (changed_at es) ms) ys) (sym (by (is_changed ms e)))
      (IsPermutation-append_right (alone ms e) (filter_map (changed_at es) ms)
      (map (changed_by ms) (filter (is_changed ms) es)) (changed_come ms once es d.1)))
    where
      by : (b : Bool) → map (changed_by ms) (if b then e ∷ filter (is_changed ms) es else filter (is_changed ms) es)
          ≡ (if b then changed_by ms e ∷ [] else []) ++ map (changed_by ms) (filter (is_changed ms) es)
      by true = refl
      by false = refl

-- the whole change --------------------------------------------------------------------------------------------------

-- the number is none of those that are touched
pub record IsUntouched (removed dropped : List ℕ) (mods : List Modified) (n : ℕ) : Type 0 where
  pub stays : is_among removed n ≡ false
  pub left : is_among dropped n ≡ false
  pub same : is_among (numbers_of mods) n ≡ false

-- an entry that comes, if it isn't among those that go afterwards
abbrev pub staying_of : List ℕ → Option Entry → Option Entry
staying_of dropped None = None
staying_of dropped (Some e) = if is_among dropped e.serial then None else Some e

module _ (removed dropped : List ℕ) (mods : List Modified) (added : Option Entry) (q : ℕ → Bool) (es : List Entry)
    (once : IsDistinct ◌==◌ (numbers es))
    (named : (n : ℕ) → replaced added es ≡ Some n → is_among removed n ≡ true)
    (comes : (e : Entry) → added ≡ Some e → q e.serial ≡ true) where
  abbrev put_in : List Entry
  put_in = with_added added (map (changed_by mods) (filter (stays removed (replaced added es)) es))

  -- the entries after the change
  abbrev pub then_there : List Entry
  then_there = filter (is_left dropped) put_in

  abbrev is_apart : Entry → Bool
  is_apart e = not (q e.serial)

  abbrev is_met : Entry → Bool
  is_met e = q e.serial

  within : HasWithin added put_in (map (changed_by mods) (filter (is_left removed) es))
  within = comes_within removed mods added es once named

  -- tests of numbers don't see other actions
  unseen : (t : ℕ → Bool) → filter (λ (e : Entry). not (is_among dropped e.serial) && t e.serial)
      (map (changed_by mods) (filter (is_left removed) es))
      ≡ map (changed_by mods) (filter (λ e. is_left removed e && (is_left dropped e && t e.serial)) es)
  unseen t =
      filter_mapped (changed_by mods) (λ (e : Entry). is_left dropped e && t e.serial) (filter (is_left removed) es)
      ∙ ap (map (changed_by mods))
      (filter_same (λ e. is_left dropped (changed_by mods e) && t (changed_by mods e).serial)
      (λ e. is_left dropped e && t e.serial)
      (λ e. ap (λ n. not (is_among dropped n) && t n) (changed_serial mods e)) (filter (is_left removed) es)
      ∙ filter_twice (is_left removed) (λ e. is_left dropped e && t e.serial) es)

  -- entries of other numbers are as they were
  pub apart_same : AllByRecursion (λ (e : Entry). q e.serial ≡ false → IsUntouched removed dropped mods e.serial) es
      → filter is_apart then_there ≡ filter is_apart es
  apart_same covers =
      filter_twice (is_left dropped) is_apart put_in
      ∙ (ap (filter (λ e. is_left dropped e && is_apart e)) within.is
      ∙ (left_out (λ e. is_left dropped e && is_apart e) within.front (option_to_list added) within.back
      (none added comes)
      ∙ (ap (filter (λ e. is_left dropped e && is_apart e)) within.rest
      ∙ (unseen (λ n. not (q n))
      ∙ (ap (map (changed_by mods))
      (filter_within (λ e. is_left removed e && (is_left dropped e && is_apart e)) is_apart es
      (weaker _ (λ e. (is_left removed e && (is_left dropped e && is_apart e)) ≡ is_apart e) alike es covers))
      ∙ map_unchanged (changed_by mods) (filter is_apart es)
      (all_passing (λ e. changed_by mods e ≡ e) is_apart es
      (weaker _ (λ e. is_apart e ≡ true → changed_by mods e ≡ e) unchanged es covers)))))))
    where
      none : (o : Option Entry) → ((e : Entry) → o ≡ Some e → q e.serial ≡ true)
          → filter (λ e. is_left dropped e && is_apart e) (option_to_list o) ≡ []
      none None c = refl
      none (Some e) c =
          filter_no (λ x. is_left dropped x && is_apart x) e []
          (ap (λ b. is_left dropped e && not b) (c e refl) ∙ and_false_right (is_left dropped e))

      alike : (e : Entry) → (q e.serial ≡ false → IsUntouched removed dropped mods e.serial)
          → (is_left removed e && (is_left dropped e && is_apart e)) ≡ is_apart e
      alike e h = by (q e.serial) h
        where
          by : (b : Bool) → (b ≡ false → IsUntouched removed dropped mods e.serial)
              → (is_left removed e && (is_left dropped e && not b)) ≡ not b
          by true g =
              ap (λ c. is_left removed e && c) (and_false_right (is_left dropped e))
              ∙ and_false_right (is_left removed e)
          by false g =
              ap₂ (λ a b. not a && (not b && true)) (g refl).stays (g refl).left

      unchanged : (e : Entry) → (q e.serial ≡ false → IsUntouched removed dropped mods e.serial)
          → is_apart e ≡ true → changed_by mods e ≡ e
      unchanged e h t = changed_none mods e (h (by (q e.serial) t)).same
        where
          by : (b : Bool) → not b ≡ true → b ≡ false
          by true g = absurd (true≢false (sym g))
          by false g = refl

  abbrev is_out : ℕ → Bool
  is_out n = is_among removed n || is_among dropped n

  -- those of the numbers are what comes
  pub met_come : IsDistinct ◌==◌ (numbers_of mods)
      → AllByRecursion (λ (e : Entry). q e.serial ≡ (is_out e.serial || is_among (numbers_of mods) e.serial)) es
      → IsPermutation (filter_map (changed_at is_out es) mods ++ option_to_list (staying_of dropped added))
      (filter is_met then_there)
  met_come single exact =
      subst (λ ys. IsPermutation (filter_map (changed_at is_out es) mods ++ option_to_list (staying_of dropped added))
      ys)
      (sym (filter_twice (is_left dropped) is_met put_in ∙ ap (filter (λ e. is_left dropped e && is_met e)) within.is))
      (IsPermutation-trans _ _ _
      (IsPermutation-append_comm (filter_map (changed_at is_out es) mods) (option_to_list (staying_of dropped added)))
      (IsPermutation-trans _ _ _
      (IsPermutation-append_right (option_to_list (staying_of dropped added)) (filter_map (changed_at is_out es) mods)
      (map (changed_by mods) (filter (is_changed is_out mods) es)) (changed_come is_out mods single es once))
      (subst (λ ys. IsPermutation ys (filter (λ e. is_left dropped e && is_met e)
      (within.front ++ (option_to_list added ++ within.back))))
      (ap₂ (λ xs ys. xs ++ ys) (some added comes) inside)
      (IsPermutation-sym _ _
      (to_front (λ e. is_left dropped e && is_met e) within.front (option_to_list added) within.back)))))
    where
      some : (o : Option Entry) → ((e : Entry) → o ≡ Some e → q e.serial ≡ true)
          → filter (λ e. is_left dropped e && is_met e) (option_to_list o) ≡ option_to_list (staying_of dropped o)
      some None c = refl
      some (Some e) c =
          ap (λ b. if b then e ∷ [] else []) (ap (λ b. is_left dropped e && b) (c e refl)
          ∙ and_true_right (is_left dropped e))
          ∙ by (is_among dropped e.serial)
        where
          by : (b : Bool) → (if not b then e ∷ [] else []) ≡ option_to_list (if b then None else Some e)
          by true = refl
          by false = refl

      alike : (e : Entry) → q e.serial ≡ (is_out e.serial || is_among (numbers_of mods) e.serial)
          → (is_left removed e && (is_left dropped e && is_met e)) ≡ is_changed is_out mods e
      alike e h =
          ap (λ b. is_left removed e && (is_left dropped e && b)) h
          ∙ by (is_among removed e.serial) (is_among dropped e.serial) (is_among (numbers_of mods) e.serial)
        where
          by : (a b c : Bool) → (not a && (not b && ((a || b) || c))) ≡ (not (a || b) && c)
          by true b c = refl
          by false true c = refl
          by false false c = refl

      inside : filter (λ e. is_left dropped e && is_met e) (within.front ++ within.back)
          ≡ map (changed_by mods) (filter (is_changed is_out mods) es)
      inside =
          ap (filter (λ e. is_left dropped e && is_met e)) within.rest
          ∙ (unseen q
          ∙ ap (map (changed_by mods))
          (filter_within (λ e. is_left removed e && (is_left dropped e && is_met e)) (is_changed is_out mods) es
          (weaker _ (λ e. (is_left removed e && (is_left dropped e && is_met e)) ≡ is_changed is_out mods e) alike es
          exact)))

  -- where all numbers are named, all entries are those of the numbers
  pub all_met : AllByRecursion (λ (e : Entry). q e.serial ≡ true) es → filter is_met then_there ≡ then_there
  all_met named_all =
      all_among is_met then_there
      (apart_same (weaker _ (λ (e : Entry). q e.serial ≡ false → IsUntouched removed dropped mods e.serial)
      (λ e t f. absurd (true≢false (sym t ∙ f))) es named_all)
      ∙ gone es named_all)
    where
      gone : (xs : List Entry) → AllByRecursion (λ (e : Entry). q e.serial ≡ true) xs → filter is_apart xs ≡ []
      gone [] a = refl
      gone (x ∷ xs) a = filter_no is_apart x xs (ap not a.0) ∙ gone xs a.1
