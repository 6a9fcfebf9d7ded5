use Rattle.std.proofs.Common.{◌≡◌, not, true, false, rules}
use Rattle.std.proofs.lemmas.List.Sorted.{IsPartitionPoint-from_clause}
use Rattle.install_plan.proofs.Ancestries.{each-drop, each-take}
use Rattle.install_plan.specs.declared.written.Written.{Written}
use Rattle.policy_meaning.proofs.Lists.{all-map}
use Rattle.shared_rows.specs.Rows.{is_past}
use Rattle.shared_rows.proofs.Counting.{rows_parted}
use Rattle.shared_rows.proofs.Lists.{not_false, not_true, parted_pairs}
use Rattle.shared_rows.proofs.runs.count_up_to.Goals as goal

pub returns-clause-before : goal.returns-clause-before
returns-clause-before c rise =
    let e = c.args.entry.now in
    let rows = c.args.rows.now in
    let up : Written → _ = λ w. not (is_past e w) in
    let point = IsPartitionPoint-from_clause up _ _ c.partition_point.ensures.partitioned
    (parted_pairs up rows (rows_parted e rows rise)) (λ a r q k. search rules) in
    all-map (λ w. up w ≡ true) (λ w. is_past e w ≡ false) _ (λ w t. not_true (is_past e w) t)
    (each-take (λ w. up w ≡ true) rows c.partition_point.result c.partition_point.ensures.bound point.0)

pub returns-clause-behind : goal.returns-clause-behind
returns-clause-behind c rise =
    let e = c.args.entry.now in
    let rows = c.args.rows.now in
    let up : Written → _ = λ w. not (is_past e w) in
    let point = IsPartitionPoint-from_clause up _ _ c.partition_point.ensures.partitioned
    (parted_pairs up rows (rows_parted e rows rise)) (λ a r q k. search rules) in
    all-map (λ w. up w ≡ false) (λ w. is_past e w ≡ true) _ (λ w t. not_false (is_past e w) t)
    (each-drop (λ w. up w ≡ false) rows c.partition_point.result point.1)
