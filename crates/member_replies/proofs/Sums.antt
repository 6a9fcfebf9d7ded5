-- Sums over more entries.
use Rattle.std.proofs.Common.{◌≡◌, ℕ, ◌+◌, ◌-◌, ◌^◌, List, [], ◌∷◌, ◌++◌, length, take, ap, sym, refl, ◌∙◌, arith}
use Rattle.std.specs.Prelude.{option_to_list, sum_by}
use Rattle.std.specs.List.{slice_get}
use Rattle.std.proofs.lemmas.List.{length-append}
use Rattle.std.proofs.lemmas.List.Sums.{sum_by-append}
use Rattle.switch_meaning.specs.Counts.{Numbers}
use Rattle.member_table.specs.declared.entry.Entry.{Entry}
use Rattle.member_replies.specs.Filters.{listed}
use Rattle.member_replies.specs.InsideSums.{sums_of, sums_with}
use Rattle.member_replies.specs.declared.filter.Filter.{Filter}
use Rattle.member_replies.specs.declared.flows.Sums.{Sums}
use Rattle.member_replies.proofs.Entries.{listed_more}

pub sums-append : (count : ℕ → Numbers) (s : Sums) (xs ys : List Entry)
    → sums_with count (sums_with count s xs) ys ≡ sums_with count s (xs ++ ys)
sums-append count s xs ys =
    let packets = sum_by-append (λ (e : Entry). (count e.serial).packets) xs ys in
    let bytes = sum_by-append (λ (e : Entry). (count e.serial).bytes) xs ys in
    let flows = length-append xs ys in
    let e0 : (sums_with count (sums_with count s xs) ys).packets ≡ (sums_with count s (xs ++ ys)).packets =
    omega (arith, packets) in
    let e1 : (sums_with count (sums_with count s xs) ys).bytes ≡ (sums_with count s (xs ++ ys)).bytes =
    omega (arith, bytes) in
    let e2 : (sums_with count (sums_with count s xs) ys).flows ≡ (sums_with count s (xs ++ ys)).flows =
    omega (arith, flows) in
    λ i. record { packets = e0 i; bytes = e1 i; flows = e2 i }

-- one more place
pub sums_more : (count : ℕ → Numbers) (f : Filter) (es : List Entry) (n : ℕ) (so_far next : Sums)
    → so_far ≡ sums_of count (listed f (take n es))
    → next ≡ sums_with count so_far (listed f (option_to_list (slice_get es n)))
    → next ≡ sums_of count (listed f (take (n + 1) es))
sums_more count f es n so_far next before more =
    let here = listed f (option_to_list (slice_get es n)) in
    let nothing : Sums = record { packets = 0; bytes = 0; flows = 0 } in
    more ∙ (ap (λ (s : Sums). sums_with count s here) before
    ∙ (sums-append count nothing (listed f (take n es)) here ∙ ap (sums_of count) (sym (listed_more f es n))))
