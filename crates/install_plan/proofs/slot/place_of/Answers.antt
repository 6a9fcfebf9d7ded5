use Rattle.std.proofs.Common.{rules, ◌≡◌, true, false}
use Rattle.std.proofs.lemmas.List.Sorted.{IsPartitionPoint-from_clause}
use Rattle.install_plan.proofs.Ancestries.{each-drop, each-take, is_before, parted}
use Rattle.install_plan.proofs.slot.place_of.Goals as goal

pub returns-clause-before : goal.returns-clause-before
returns-clause-before c =
    let point = IsPartitionPoint-from_clause (is_before c.args.ancestry.now) _ _ c.partition_point.ensures.partitioned
    (parted c.args.entries.now c.args.ancestry.now c.requires) (λ a r q k. search rules) in
    each-take (λ d. is_before c.args.ancestry.now d ≡ true) c.args.entries.now c.partition_point.result
    c.partition_point.ensures.bound point.0

pub returns-clause-after : goal.returns-clause-after
returns-clause-after c =
    let point = IsPartitionPoint-from_clause (is_before c.args.ancestry.now) _ _ c.partition_point.ensures.partitioned
    (parted c.args.entries.now c.args.ancestry.now c.requires) (λ a r q k. search rules) in
    each-drop (λ d. is_before c.args.ancestry.now d ≡ false) c.args.entries.now c.partition_point.result point.1
