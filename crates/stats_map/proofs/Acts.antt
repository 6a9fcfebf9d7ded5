-- A cookie of a place ends, or has other numbers.
use Rattle.std.proofs.Common.{◌≡◌, ◌<◌, ◌^◌, List, length, sym, ap, subst, ◌∙◌}
use Rattle.std.specs.Prelude.{Some}
use Rattle.std.specs.Map.{lookup, remove_entry, set_value, values_of}
use Rattle.std.proofs.lemmas.Map.Entries.{length-values_of}
use Rattle.cv_io.specs.declared.leaf.Leaf.{Leaf}
use Rattle.switch_meaning.specs.Counts.{Cookie, Numbers}
use Rattle.stats_map.specs.Counting.{Cookies, Place, ended, renumbered, with_numbers}
use Rattle.stats_map.specs.InsideSums.{AllowsEach, AreSums, HappenedTo, Sums, seen}
use Rattle.stats_map.specs.declared.sum.Event.TheVariants.{Moved, Ended}
use Rattle.stats_map.specs.declared.sum.Tally.{Tally}
use Rattle.stats_map.proofs.Ending.{sums-ended, total-ended}
use Rattle.stats_map.proofs.Moving.{allows-ended, allows-moved, sums-moved, tally, total-moved}
use Rattle.stats_map.proofs.Rows.{at, gains-removed, gains-written, numbers-removed, numbers-written, seen-as}
use Rattle.stats_map.proofs.Summing.{Gains}

module _ (place : Place) (live : Cookies) (sums : Sums) (c : Cookie) (n : Tally) (leaves : List Leaf)
    (found : lookup (at place) live ≡ Some c)
    (p : n.packets ≡ c.numbers.packets) (b : n.bytes ≡ c.numbers.bytes) (l : leaves ≡ c.ancestry)
    (a : AreSums (values_of live) sums) where
  abbrev rest : Cookies
  rest = remove_entry (at place) live

  gains : Gains c (values_of rest) (values_of live)
  gains = gains-removed place live c found

  told-tally : n ≡ tally c
  told-tally = λ i. record { packets = p i; bytes = b i }

  pub end-allowed : AllowsEach (Ended n) leaves sums
  end-allowed =
      subst (λ (m : Tally). AllowsEach (Ended m) leaves sums) (sym told-tally)
      (subst (λ (xs : List Leaf). AllowsEach (Ended (tally c)) xs sums) (sym l)
      (allows-ended c (values_of rest) (values_of live) sums gains a))

  module _ (live' : Cookies) (sums' : Sums) (is : live' ≡ remove_entry (at place) live)
      (happened : HappenedTo (Ended n) leaves sums sums') where
    ended-all : HappenedTo (Ended (tally c)) c.ancestry sums sums'
    ended-all =
        subst (λ (m : Tally). HappenedTo (Ended m) c.ancestry sums sums') told-tally
        (subst (λ (xs : List Leaf). HappenedTo (Ended n) xs sums sums') l happened)

    pub end-sums : AreSums (values_of live') sums'
    end-sums =
        subst (λ (es : Cookies). AreSums (values_of es) sums') (sym is)
        (sums-ended c (values_of rest) (values_of live) sums sums' gains a (numbers-removed place live a.numbers)
        ended-all)

    pub end-seen : seen live' sums' ≡ ended place c (seen live sums)
    end-seen =
        seen-as rest live' sums' (ended place c (seen live sums)).totals (ended place c (seen live sums)).forgotten is
        (total-ended c (values_of rest) (values_of live) sums sums' gains a (numbers-removed place live a.numbers)
        ended-all)

  module _ (new : Tally) where
    pub move-allowed : length live < 2 ^ 63 → new.packets < 2 ^ 64 → new.bytes < 2 ^ 64
        → AllowsEach (Moved n new) leaves sums
    move-allowed small q r =
        let few : length (values_of live) < 2 ^ 63 = subst (λ k. k < 2 ^ 63) (sym (length-values_of live)) small in
        subst (λ (m : Tally). AllowsEach (Moved m new) leaves sums) (sym told-tally)
        (subst (λ (xs : List Leaf). AllowsEach (Moved (tally c) new) xs sums) (sym l)
        (allows-moved c (values_of rest) (values_of live) sums gains a new few q r))

    module _ (live' : Cookies) (sums' : Sums) (q : new.packets < 2 ^ 64) (r : new.bytes < 2 ^ 64) (w : Cookie)
        (new-is : w ≡ with_numbers (record { packets = new.packets; bytes = new.bytes }) c)
        (is : live' ≡ set_value (at place) live w)
        (happened : HappenedTo (Moved n new) leaves sums sums') where
      abbrev ns : Numbers
      ns = record { packets = new.packets; bytes = new.bytes }

      abbrev after : Cookies
      after = set_value (at place) live (with_numbers ns c)

      written : live' ≡ after
      written = is ∙ ap (set_value (at place) live) new-is

      moved-all : HappenedTo (Moved (tally c) new) c.ancestry sums sums'
      moved-all =
          subst (λ (m : Tally). HappenedTo (Moved m new) c.ancestry sums sums') told-tally
          (subst (λ (xs : List Leaf). HappenedTo (Moved n new) xs sums sums') l happened)

      pub move-sums : AreSums (values_of live') sums'
      move-sums =
          subst (λ (es : Cookies). AreSums (values_of es) sums') (sym written)
          (sums-moved c (values_of rest) (values_of live) sums gains a ns (values_of after) sums'
          (gains-written place live c found (with_numbers ns c))
          (numbers-written place live (with_numbers ns c) a.numbers (q, r)) moved-all)

      pub move-seen : seen live' sums' ≡ renumbered place (with_numbers ns c) (seen live sums)
      move-seen =
          seen-as after live' sums' (seen live sums).totals (seen live sums).forgotten written
          (total-moved c (values_of rest) (values_of live) sums gains a ns (values_of after) sums'
          (gains-written place live c found (with_numbers ns c))
          (numbers-written place live (with_numbers ns c) a.numbers (q, r)) moved-all)
