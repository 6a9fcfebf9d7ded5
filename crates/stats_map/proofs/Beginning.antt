-- A cookie is written to a place that has none.
use Rattle.std.proofs.Common.{◌≡◌, ◌<◌, ◌^◌, true, List, length, refl, sym, ap, subst, ◌∙◌, arith}
use Rattle.std.specs.Prelude.{None, IsSome}
use Rattle.std.specs.BTreeMap.{insert_entry}
use Rattle.std.specs.List.{list_any}
use Rattle.std.specs.List.Sorted.{IsStrictlySortedBy}
use Rattle.std.specs.Map.{keys_of, lookup, values_of}
use Rattle.std.proofs.lemmas.Map.Entries.{length-values_of}
use Rattle.cv_io.specs.Leaves.{same_leaf}
use Rattle.cv_io.specs.declared.leaf.Leaf.{Leaf}
use Rattle.switch_meaning.specs.Counts.{Cookie}
use Rattle.stats_map.specs.Counting.{Cookies, Place, installed, place_cmp}
use Rattle.stats_map.specs.InsideSums.{AllowsEach, AreSums, HappenedTo, HaveMore, Sums, forgotten_in, seen, sum_at}
use Rattle.stats_map.specs.InsideSums.{total_in}
use Rattle.stats_map.specs.declared.sum.Event.TheVariants.{Begun}
use Rattle.stats_map.proofs.Moving.{allows-begun}
use Rattle.stats_map.proofs.Rows.{at, gains-installed, installed-new, numbers-installed, seen-as}
use Rattle.stats_map.proofs.Summing.{sums-added, sums-begun, total-added, total-begun}

module _ (live : Cookies) (sums sums1 : Sums) (more : HaveMore sums sums1) where
  -- sums of more leaves tell the same
  pub more-seen : (live' : Cookies) → live' ≡ live → seen live' sums1 ≡ seen live sums
  more-seen live' is = seen-as live live' sums1 (seen live sums).totals (seen live sums).forgotten is
      (total-added sums sums1 more.kept more.fresh)

  pub more-sums : (live' : Cookies) → live' ≡ live → AreSums (values_of live) sums → AreSums (values_of live') sums1
  more-sums live' is a = subst (λ (es : Cookies). AreSums (values_of es) sums1) (sym is)
      (sums-added (values_of live) sums sums1 more.kept more.fresh a)

  pub begin-allowed : (leaves : List Leaf) → length live < 2 ^ 63 → AreSums (values_of live) sums
      → AllowsEach Begun leaves sums1
  begin-allowed leaves small a =
      allows-begun leaves (values_of live) sums1 (subst (λ k. k < 2 ^ 63) (sym (length-values_of live)) small)
      (sums-added (values_of live) sums sums1 more.kept more.fresh a)

  module _ (place : Place) (w : Cookie) (leaves ancestry : List Leaf)
      (new-is : w ≡ record { ancestry = ancestry; numbers = record { packets = 0; bytes = 0 } })
      (slice : leaves ≡ ancestry) (rise : IsStrictlySortedBy place_cmp (keys_of live))
      (none : lookup (at place) live ≡ None)
      (there : (leaf : Leaf) → list_any (same_leaf leaf) ancestry ≡ true
      → IsSome (sum_at leaf sums1)) (a : AreSums (values_of live) sums)
      (live' : Cookies) (sums2 : Sums) (is : live' ≡ insert_entry place_cmp live place w)
      (happened : HappenedTo Begun leaves sums1 sums2) where
    abbrev fresh : Cookie
    fresh = record { ancestry = ancestry; numbers = record { packets = 0; bytes = 0 } }

    abbrev after : Cookies
    after = insert_entry place_cmp live place fresh

    written : live' ≡ after
    written = is ∙ ap (insert_entry place_cmp live place) new-is

    begun-all : HappenedTo Begun ancestry sums1 sums2
    begun-all = subst (λ (xs : List Leaf). HappenedTo Begun xs sums1 sums2) slice happened

    pub begin-sums : AreSums (values_of live') sums2
    begin-sums =
        subst (λ (es : Cookies). AreSums (values_of es) sums2) (sym written)
        (sums-begun fresh (values_of live) (values_of after) sums1 sums2 (refl, refl)
        (gains-installed place live fresh rise none)
        (numbers-installed place live fresh a.numbers (omega arith, omega arith)) begun-all there
        (sums-added (values_of live) sums sums1 more.kept more.fresh a))

    same : (leaf : Leaf) → (total_in (sum_at leaf sums2) ≡ total_in (sum_at leaf sums))
        × (forgotten_in (sum_at leaf sums2) ≡ forgotten_in (sum_at leaf sums))
    same leaf =
        let x = total-begun fresh sums1 sums2 begun-all leaf in
        let y = total-added sums sums1 more.kept more.fresh leaf in
        (x.0 ∙ y.0, x.1 ∙ y.1)

    pub begin-seen : seen live' sums2 ≡ installed place ancestry (seen live sums)
    begin-seen = seen-as after live' sums2 (seen live sums).totals (seen live sums).forgotten written same
        ∙ installed-new place ancestry (seen live sums) none
