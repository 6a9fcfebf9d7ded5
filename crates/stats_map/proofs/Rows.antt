-- Cookies in their places.
use Rattle.std.proofs.Common.{◌≡◌, Bool, true, false, List, refl, sym, ap, ◌∙◌, arith, true≢false}
use Rattle.std.specs.Prelude.{Option, Some, None, is_some, option_map, unwrap_or}
use Rattle.std.specs.BTreeMap.{insert_entry, is_at}
use Rattle.std.specs.List.{AllByRecursion}
use Rattle.std.specs.List.Sorted.{IsStrictlySortedBy}
use Rattle.std.specs.Map.{keys_of, lookup, remove_entry, set_value, values_of}
use Rattle.std.specs.Cmp.{IsTotalOrder, nat_cmp_total, on_total, then_total}
use Rattle.std.proofs.lemmas.List.Elements.{All-from_recursion, recursion_from_All}
use Rattle.std.proofs.lemmas.Map.Entries.{sum_by-insert_entry, sum_by-remove_entry, sum_by-set_value}
use Rattle.std.proofs.lemmas.Map.Views.{All-map-remove_entry, All-values-insert_entry, All-values-set_value}
use Rattle.cv_io.specs.declared.leaf.Leaf.{Leaf}
use Rattle.switch_meaning.specs.Counts.{Cookie, Numbers}
use Rattle.stats_map.specs.Counting.{Cookies, CountsOf, Place, cookie_at, installed, installed_at, place_cmp}
use Rattle.stats_map.specs.InsideSums.{HasNumbers, Sums, forgotten_in, seen, sum_at, total_in}
use Rattle.stats_map.proofs.Summing.{Gains}

pub place_total : IsTotalOrder place_cmp
place_total = then_total (on_total (λ (p : Place). p.0) nat_cmp_total) (on_total (λ (p : Place). p.1) nat_cmp_total)

abbrev pub at : Place → Place → Bool
at place = is_at (place_cmp place)

module _ (place : Place) (live : Cookies) where
  pub gains-installed : (c : Cookie) → IsStrictlySortedBy place_cmp (keys_of live) → lookup (at place) live ≡ None
      → Gains c (values_of live) (values_of (insert_entry place_cmp live place c))
  gains-installed c r n f =
      let s = sum_by-insert_entry f place_total live place c r in
      let z : unwrap_or (option_map f (lookup (at place) live)) 0 ≡ 0 =
      ap (λ (o : Option Cookie). unwrap_or (option_map f o) 0) n in
      omega (arith, s, z)

  module _ (c : Cookie) (found : lookup (at place) live ≡ Some c) where
    pub gains-removed : Gains c (values_of (remove_entry (at place) live)) (values_of live)
    gains-removed f =
        let s = sum_by-remove_entry f (at place) live in
        let z : unwrap_or (option_map f (lookup (at place) live)) 0 ≡ f c =
        ap (λ (o : Option Cookie). unwrap_or (option_map f o) 0) found in
        omega (arith, s, z)

    pub gains-written : (w : Cookie)
        → Gains w (values_of (remove_entry (at place) live)) (values_of (set_value (at place) live w))
    gains-written w f =
        let s = sum_by-set_value f (at place) live c w found in
        let r = gains-removed f in
        omega (arith, s, r)

  pub numbers-installed : (c : Cookie) → AllByRecursion HasNumbers (values_of live) → HasNumbers c
      → AllByRecursion HasNumbers (values_of (insert_entry place_cmp live place c))
  numbers-installed c a p = recursion_from_All HasNumbers _
      (All-values-insert_entry place_cmp place c HasNumbers live (All-from_recursion HasNumbers (values_of live) a) p)

  pub numbers-written : (w : Cookie) → AllByRecursion HasNumbers (values_of live) → HasNumbers w
      → AllByRecursion HasNumbers (values_of (set_value (at place) live w))
  numbers-written w a p = recursion_from_All HasNumbers _
      (All-values-set_value (at place) HasNumbers live w (All-from_recursion HasNumbers (values_of live) a) p)

  pub numbers-removed : AllByRecursion HasNumbers (values_of live)
      → AllByRecursion HasNumbers (values_of (remove_entry (at place) live))
  numbers-removed a = recursion_from_All HasNumbers _
      (All-map-remove_entry (at place) (λ (e : Place × Cookie). e.1) HasNumbers live
      (All-from_recursion HasNumbers (values_of live) a))

-- counts whose totals are told alike
pub seen-as : (live live' : Cookies) (sums' : Sums) (t : Leaf → Numbers) (f : Leaf → Bool) → live' ≡ live
    → ((leaf : Leaf) → (total_in (sum_at leaf sums') ≡ t leaf) × (forgotten_in (sum_at leaf sums') ≡ f leaf))
    → seen live' sums' ≡ record { live = live; totals = t; forgotten = f }
seen-as live live' sums' t f e h =
    λ i. record { live = e i; totals = λ leaf. (h leaf).0 i; forgotten = λ leaf. (h leaf).1 i }

-- nothing was found
pub nothing : (o : Option Cookie) (r : Bool) → r ≡ is_some o → r ≡ false → o ≡ None
nothing None r e t = refl
nothing (Some s) r e t = absurd (true≢false (sym e ∙ t))

-- a cookie that is there stays as it is
pub installed-already : (place : Place) (ancestry : List Leaf) (s : CountsOf) → is_some (cookie_at place s) ≡ true
    → s ≡ installed place ancestry s
installed-already place ancestry s t = by (cookie_at place s) t
  where
    by : (o : Option Cookie) → is_some o ≡ true → s ≡ installed_at o place ancestry s
    by None u = absurd (true≢false (sym u))
    by (Some c) u = refl

pub installed-new : (place : Place) (ancestry : List Leaf) (s : CountsOf) → cookie_at place s ≡ None
    → record {
      live = insert_entry place_cmp s.live place
          (record { ancestry = ancestry; numbers = record { packets = 0; bytes = 0 } });
      totals = s.totals;
      forgotten = s.forgotten;
    } ≡ installed place ancestry s
installed-new place ancestry s n = sym (ap (λ (o : Option Cookie). installed_at o place ancestry s) n)
