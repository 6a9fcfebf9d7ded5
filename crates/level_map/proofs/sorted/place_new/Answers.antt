use Rattle.std.proofs.Common.{◌≡◌, ◌∙◌, ◌+◌, ◌-◌, ◌/◌, ◌++◌, List, ℕ, length, take, drop, ap, arith}
use Rattle.std.proofs.Math.Seq.{take-append_seam}
use Rattle.level_map.specs.declared.ranked.Ranked.{Ranked}
use Rattle.level_map.proofs.Placing.{gap_levels, inserted_rising, longer, renumbered_rising, placing_without_gap}
use Rattle.level_map.proofs.sorted.place_new.Goals as goal

-- what a slice's writes leave of the whole vector
written : (n : ℕ) (xs ys : List Ranked) → n ≡ length xs → take n (xs ++ drop (length xs) ys) ≡ xs
written n xs ys whole = rw whole (take-append_seam xs (drop (length xs) ys))

pub overflow_sub-above : goal.overflow_sub-above
overflow_sub-above c =
    let rs = c.args.ranked.now.items in
    rw (c.gap_at-below.ensures.below, c.gap_at-below.ensures.above, c.deref.ensures.value)
    (gap_levels c.args.size c.args.rank c.args.at rs c.requires.rising c.requires.gap
    (omega (arith, c.requires.room)))

pub returns-in_ok-insert-clause-rising : goal.returns-in_ok-insert-clause-rising
returns-in_ok-insert-clause-rising c =
    let level = c.gap_at-below.result.0 + (c.gap_at-below.result.1 - c.gap_at-below.result.0) / 2 in
    let below = rw c.deref.ensures.value at c.gap_at-below.ensures.below in
    let above = rw c.deref.ensures.value at c.gap_at-below.ensures.above in
    rw c.in_ok-insert.ensures.items
    (inserted_rising c.args.size c.args.rank c.args.at c.args.ranked.now.items c.requires.rising c.requires.gap
    level (omega (arith, below)) (omega (arith, above)))

pub returns-in_ok-insert-2-clause-placed : goal.returns-in_ok-insert-2-clause-placed
returns-in_ok-insert-2-clause-placed c =
    let rs = c.args.ranked.now.items in
    let below = rw c.deref.ensures.value at c.gap_at-below.ensures.below in
    let above = rw c.deref.ensures.value at c.gap_at-below.ensures.above in
    let whole = written c.insert-else-above-below-ge2.new.self.len c.renumber.new.ranked
    c.insert-else-above-below-ge2.new.self.items (omega arith) in
    let after = whole ∙ rw (c.deref_mut.ensures.value, c.in_ok-insert-2.ensures.items) at c.renumber.ensures in
    let counted : c.len-count.result
    ≡ length (longer c.args.size c.args.rank c.args.at rs c.requires.rising c.requires.gap 0) =
    omega (arith, c.insert-else-above-below-ge2.new.self.ok.0, ap length c.in_ok-insert-2.ensures.items) in
    let level_is = rw counted at c.level_of_place.ensures in
    placing_without_gap c.args.size c.args.rank c.args.at rs c.requires.rising c.requires.gap _ _
    (omega (arith, below, above)) level_is after

pub returns-in_ok-insert-2-clause-rising : goal.returns-in_ok-insert-2-clause-rising
returns-in_ok-insert-2-clause-rising c =
    let whole = written c.insert-else-above-below-ge2.new.self.len c.renumber.new.ranked
    c.insert-else-above-below-ge2.new.self.items (omega arith) in
    let after = rw (c.deref_mut.ensures.value, c.in_ok-insert-2.ensures.items) at c.renumber.ensures in
    rw (whole, after) (renumbered_rising c.args.size c.args.rank c.args.at c.args.ranked.now.items c.requires.rising
    c.requires.gap c.requires.room)
