use Rattle.std.proofs.Common.{◌≡◌, ◌∙◌, ◌-◌, drop, length, rules, take, true, false}
use Rattle.std.proofs.lemmas.List.Sorted.{IsPartitionPoint-from_clause}
use Rattle.install_plan.proofs.Ancestries.{each-drop, each-take}
use Rattle.told_batches.proofs.Sought.{before_parted, is_before, is_up_to, looked_up, rest_is, rest_parted}
use Rattle.told_batches.proofs.entries.has.Goals as goal

pub returns : goal.returns
returns c up =
    let e = c.args.entry.now in
    let xs = c.args.sorted.now in
    let n = c.partition_point-before.result in
    let k = c.partition_point-many.result in
    let rest = take (length xs - n) (drop n xs) in
    let low = IsPartitionPoint-from_clause (is_before e) xs n c.partition_point-before.ensures.partitioned
    (before_parted e xs up) (λ a r q h. search rules) in
    let high = IsPartitionPoint-from_clause (is_up_to e) rest k c.partition_point-many.ensures.partitioned
    (rest_parted e xs n up) (λ a r q h. search rules) in
    c.is_among.ensures
    ∙ looked_up e xs rest n k (rest_is xs n)
    (each-take (λ d. is_before e d ≡ true) xs n c.partition_point-before.ensures.bound low.0)
    (each-drop (λ d. is_up_to e d ≡ false) rest k high.1)
