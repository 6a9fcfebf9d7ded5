-- Steps of loops over rows and places.
use Rattle.std.proofs.Common.{◌≡◌, ℕ, zero, suc, ◌+◌, ◌-◌, ◌<◌, ◌≤◌, Bool, true, false, cond, ◌||◌, ◌&&◌, Option, Some}
use Rattle.std.proofs.Common.{None, List, [], ◌∷◌, ◌++◌, append-nil, length, get_or, take, drop, map, refl, sym, ap}
use Rattle.std.proofs.Common.{◌∙◌, subst, arith}
use Rattle.std.specs.Prelude.{flat_map, filter_map, option_map, slice_get, option_to_list}
use Rattle.std.specs.List.{cons_option}
use Rattle.std.proofs.lemmas.List.Elements.{filter_map-append}
use Rattle.std.specs.List.{enumerate_from, list_any}
use Rattle.std.specs.Map.{lookup}
use Rattle.std.proofs.lemmas.Cmp.{nat_eq_equiv, nat_list_eq_equiv}
use Rattle.std.proofs.lemmas.List.{get_or_default, take_all, take_more, drop_more, map_more}
use Rattle.std.proofs.lemmas.Grind.{flat_map-append}
use Rattle.std.proofs.lemmas.List.Folds.{list_any-append}
use Rattle.std.proofs.lemmas.List.FromFn.{length-enumerate_from, get_or-enumerate_from}
use Rattle.virtual_topology.specs.declared.uses.Role.{Role}
use Rattle.virtual_topology.specs.declared.uses.Role.TheVariants.{Physical, Virtual, Link}
use denote.Enum.Bare.{sameb}
use Rattle.virtual_topology.specs.contracts.uses.Role.{the_type}
use Rattle.virtual_topology.specs.contracts.uses.UsePartialEq.TheImpl.{ghosts as derived_use}
use Rattle.virtual_topology.specs.Faults.{first_again}
use Rattle.virtual_topology.specs.Rows.{Spot}
use Rattle.virtual_topology.specs.Shown.{shown, shown_row, same_shown}
use Rattle.virtual_topology.specs.declared.uses.Use.{Use}
use Rattle.virtual_topology.specs.Places.{PlaceUse, same_place, same_role, same_use}

-- a map from which rows on are found, after the row before them is put in
pub look_step : {K V : Type 0} (eq : K → K → Bool) → ((a b : K) → eq a b ≡ eq b a)
    → (rows : List (K × V)) (left : ℕ) (d e : K × V) → 0 < left → left ≤ length rows
    → (old new : K → Option V) → ((q : K) → old q ≡ lookup (eq q) (drop left rows))
    → ((q : K) → new q ≡ cond (eq (get_or rows (left - 1) d).0 q) (Some (get_or rows (left - 1) e).1) (old q)) → (q : K)
    → new q ≡ lookup (eq q) (drop (left - 1) rows)
look_step {K} {V} eq symm rows left d e low high old new before put q =
    let lt : left - 1 < length rows = omega arith in
    let there : drop (left - 1) rows ≡ get_or rows (left - 1) d ∷ drop ((left - 1) + 1) rows =
    drop_more rows (left - 1) d lt in
    let on : (left - 1) + 1 ≡ left = omega arith in
    let row = get_or rows (left - 1) d in
    let value = (get_or rows (left - 1) e).1 in
    put q ∙ (ap (λ b. cond b (Some value) (old q)) (symm row.0 q) ∙ (ap (cond (eq q row.0) (Some value)) (before q)
    ∙ (ap (λ (r : K × V). cond (eq q row.0) (Some r.1) (lookup (eq q) (drop left rows)))
    (get_or_default rows (left - 1) e d lt)
    ∙ sym (ap (lookup (eq q)) (there ∙ ap (λ n. row ∷ drop n rows) on)))))

-- the items of a list with their numbers, from one on
pub numbered_at : {X : Type 0} (xs : List X) (i : ℕ) (x : X) → i < length xs → x ≡ get_or xs i x
    → drop i (enumerate_from 0 xs) ≡ (i, x) ∷ drop (i + 1) (enumerate_from 0 xs)
numbered_at xs i x lt item =
    let within : i < length (enumerate_from 0 xs) = omega (arith, length-enumerate_from 0 xs) in
    let here : get_or (enumerate_from 0 xs) i (i, x) ≡ (0 + i, get_or xs i x) =
    get_or-enumerate_from 0 xs i (i, x) lt in
    let number : 0 + i ≡ i = omega arith in
    drop_more (enumerate_from 0 xs) i (i, x) within
    ∙ ap (λ p. p ∷ drop (i + 1) (enumerate_from 0 xs)) (here ∙ (λ j. (number j, sym item j)))

pub numbered_more : {X A : Type 0} (f : ℕ × X → List A) (xs : List X) (i : ℕ) (x : X) → i < length xs
    → x ≡ get_or xs i x
    → flat_map f (take (i + 1) (enumerate_from 0 xs)) ≡ flat_map f (take i (enumerate_from 0 xs)) ++ f (i, x)
numbered_more f xs i x lt item =
    let within : i < length (enumerate_from 0 xs) = omega (arith, length-enumerate_from 0 xs) in
    let here : get_or (enumerate_from 0 xs) i (i, x) ≡ (0 + i, get_or xs i x) =
    get_or-enumerate_from 0 xs i (i, x) lt in
    let number : 0 + i ≡ i = omega arith in
    ap (flat_map f) (take_more (enumerate_from 0 xs) i (i, x) within
    ∙ ap (λ p. take i (enumerate_from 0 xs) ++ p ∷ []) (here ∙ (λ j. (number j, sym item j))))
    ∙ (flat_map-append f (take i (enumerate_from 0 xs)) ((i, x) ∷ [])
    ∙ ap (λ ys. flat_map f (take i (enumerate_from 0 xs)) ++ ys) (append-nil (f (i, x))))

-- which of two uses is named first doesn't matter
same_role_turned : (a b : Role) → same_role a b ≡ same_role b a
same_role_turned Physical Physical = refl
same_role_turned Physical Virtual = refl
same_role_turned Physical Link = refl
same_role_turned Virtual Physical = refl
same_role_turned Virtual Virtual = refl
same_role_turned Virtual Link = refl
same_role_turned Link Physical = refl
same_role_turned Link Virtual = refl
same_role_turned Link Link = refl

pub same_use_turned : (a b : PlaceUse) → same_use a b ≡ same_use b a
same_use_turned a b = λ i. same_role_turned a.role b.role i &&
    (nat_list_eq_equiv.symm a.place.name b.place.name i && nat_eq_equiv.symm a.place.port b.place.port i)

-- the first place that stands again, one place further on
pub again_step : (us : List PlaceUse) (i : ℕ) (u : PlaceUse) → i < length us → u ≡ get_or us i u
    → list_any (same_use u) (take i us) ≡ false
    → first_again same_use (take (i + 1) us) (drop (i + 1) us) ≡ first_again same_use (take i us) (drop i us)
again_step us i u lt item new =
    let there : drop i us ≡ u ∷ drop (i + 1) us = drop_more us i u lt ∙ ap (λ x. x ∷ drop (i + 1) us) (sym item) in
    let more : take (i + 1) us ≡ take i us ++ u ∷ [] = take_more us i u lt ∙ ap (λ x. take i us ++ x ∷ []) (sym item) in
    ap (λ seen. first_again same_use seen (drop (i + 1) us)) more
    ∙ sym (ap (first_again same_use (take i us)) there
    ∙ ap (λ b. cond b (Some u) (first_again same_use (take i us ++ u ∷ []) (drop (i + 1) us))) new)

-- the first place that stands again is this one
pub again_here : (us : List PlaceUse) (i : ℕ) (u : PlaceUse) → i < length us → u ≡ get_or us i u
    → list_any (same_use u) (take i us) ≡ true
    → first_again same_use (take i us) (drop i us) ≡ Some u
again_here us i u lt item old =
    let there : drop i us ≡ u ∷ drop (i + 1) us = drop_more us i u lt ∙ ap (λ x. x ∷ drop (i + 1) us) (sym item) in
    ap (first_again same_use (take i us)) there
    ∙ ap (λ b. cond b (Some u) (first_again same_use (take i us ++ u ∷ []) (drop (i + 1) us))) old

-- a set that has a place more
pub among_step : (us : List PlaceUse) (i : ℕ) (u q : PlaceUse) → i < length us → u ≡ get_or us i u → (old new : Bool)
    → old ≡ list_any (same_use q) (take i us) → new ≡ cond (same_use u q) true old
    → new ≡ list_any (same_use q) (take (i + 1) us)
among_step us i u q lt item old new before put =
    let more : take (i + 1) us ≡ take i us ++ u ∷ [] = take_more us i u lt ∙ ap (λ x. take i us ++ x ∷ []) (sym item) in
    put ∙ (ap (λ b. cond b true old) (same_use_turned u q)
    ∙ (by (same_use q u) old ∙ (ap (λ b. b || (same_use q u || false)) before
    ∙ sym (ap (list_any (same_use q)) more ∙ list_any-append (same_use q) (take i us) (u ∷ [])))))
  where
    by : (b old : Bool) → cond b true old ≡ (old || (b || false))
    by true true = refl
    by true false = refl
    by false true = refl
    by false false = refl

-- all items with their numbers
pub numbered_all : {X : Type 0} (xs : List X) (n : ℕ) → length xs ≤ n
    → take n (enumerate_from 0 xs) ≡ enumerate_from 0 xs
numbered_all xs n all = take_all n (enumerate_from 0 xs) (subst (λ k. k ≤ n) (sym (length-enumerate_from 0 xs)) all)

-- items of the code, and what they stand for
pub as_many_mapped : {X Y : Type 0} (f : X → Y) (xs : List X) → length (map f xs) ≡ length xs
as_many_mapped f [] = refl
as_many_mapped f (x ∷ xs) = ap suc (as_many_mapped f xs)

pub mapped_at : {X Y : Type 0} (f : X → Y) (xs : List X) (i : ℕ) (x : X) → i < length xs → x ≡ get_or xs i x
    → f x ≡ get_or (map f xs) i (f x)
mapped_at {X} {Y} f xs i x lt item = ap f item ∙ by xs i lt
  where
    by : (xs : List X) (i : ℕ) → i < length xs → f (get_or xs i x) ≡ get_or (map f xs) i (f x)
    by [] i lt = refl
    by (y ∷ xs) zero lt = refl
    by (y ∷ xs) (suc i) lt = by xs i (omega arith)

-- the derived equality of uses
derived_role : (a b : Role) → sameb the_type a b ≡ same_role a b
derived_role Physical Physical = refl
derived_role Physical Virtual = refl
derived_role Physical Link = refl
derived_role Virtual Physical = refl
derived_role Virtual Virtual = refl
derived_role Virtual Link = refl
derived_role Link Physical = refl
derived_role Link Virtual = refl
derived_role Link Link = refl

pub derived_is : derived_use.eq ≡ same_shown
derived_is = λ i a b. derived_role a.role b.role i && same_place (shown a).place (shown b).place

pub lookup_shown : (u : Use) (rs : List (Use × Spot))
    → lookup (derived_use.eq u) rs ≡ lookup (same_use (shown u)) (map shown_row rs)
lookup_shown u [] = refl
lookup_shown u (r ∷ rs) = λ i. cond (derived_is i u r.0) (Some r.1) (lookup_shown u rs i)

-- loops that append what a function gives of each item, if it gives something
listed : {Y : Type 0} (o : Option Y) → cons_option o [] ≡ option_to_list o
listed None = refl
listed (Some y) = refl

pub pushed_some : {X Y : Type 0} (f : X → Option Y) (xs : List X) (i : ℕ) (x : X) (out new : List Y) (o : Option Y)
    → i < length xs → x ≡ get_or xs i x
    → out ≡ filter_map f (take i xs) → o ≡ f x → new ≡ out ++ option_to_list o → new ≡ filter_map f (take (i + 1) xs)
pushed_some f xs i x out new o lt item so is added =
    added ∙ ((λ j. so j ++ option_to_list (is j))
    ∙ sym (ap (filter_map f) (take_more xs i x lt ∙ ap (λ y. take i xs ++ y ∷ []) (sym item))
    ∙ (filter_map-append f (take i xs) (x ∷ []) ∙ ap (λ zs. filter_map f (take i xs) ++ zs) (listed (f x)))))

pub numbered_mapped : {X Y : Type 0} (f : ℕ × X → Y) (xs : List X) (i : ℕ) (x : X) → i < length xs → x ≡ get_or xs i x
    → map f (take (i + 1) (enumerate_from 0 xs)) ≡ map f (take i (enumerate_from 0 xs)) ++ f (i, x) ∷ []
numbered_mapped f xs i x lt item =
    let within : i < length (enumerate_from 0 xs) = omega (arith, length-enumerate_from 0 xs) in
    let here : get_or (enumerate_from 0 xs) i (i, x) ≡ (0 + i, get_or xs i x) =
    get_or-enumerate_from 0 xs i (i, x) lt in
    let number : 0 + i ≡ i = omega arith in
    map_more f (enumerate_from 0 xs) i (i, x) within
    ∙ ap (λ p. map f (take i (enumerate_from 0 xs)) ++ f p ∷ []) (here ∙ (λ j. (number j, sym item j)))

-- what a function gives of the item of a number
pub numbered_get : {X Y : Type 0} (f : ℕ × X → Y) (m : ℕ) (xs : List X) (v : ℕ)
    → slice_get (map f (enumerate_from m xs)) v ≡ option_map (λ x. f (m + v, x)) (slice_get xs v)
numbered_get f m [] zero = refl
numbered_get f m [] (suc v) = refl
numbered_get f m (x ∷ xs) zero = let same : m ≡ m + 0 = omega arith in ap (λ n. Some (f (n, x))) same
numbered_get f m (x ∷ xs) (suc v) = let same : (m + 1) + v ≡ m + suc v = omega arith in numbered_get f (m + 1) xs v
    ∙ ap (λ n. option_map (λ x. f (n, x)) (slice_get xs v)) same
