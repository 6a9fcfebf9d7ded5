use Rattle.std.proofs.Common.{◌≡◌, ◌+◌, suc, true, false, arith, drop, rules, subst}
use Rattle.std.specs.List.{AllByRecursion}
use Rattle.std.specs.Ordering.{is_lt}
use Rattle.std.proofs.lemmas.List.Sorted.{IsPartitionPoint-from_clause}
use Rattle.install_plan.proofs.Ancestries.{each-take}
use Rattle.install_plan.specs.declared.written.Written.{Written}
use Rattle.policy_meaning.proofs.Lists.{all-map}
use Rattle.switch_meaning.specs.Batches.{key_cmp}
use Rattle.shared_rows.specs.Rows.{has_key}
use Rattle.shared_rows.proofs.Counting.{lower_parted, others_apart}
use Rattle.shared_rows.proofs.InOrder.{lower_apart}
use Rattle.shared_rows.proofs.Lists.{parted_pairs}
use Rattle.shared_rows.proofs.runs.count_before.Goals as goal

pub returns-clause-apart : goal.returns-clause-apart
returns-clause-apart c lower =
    let e = c.args.entry.now in
    let rows = c.args.rows.now in
    let low : Written → _ = λ w. is_lt (key_cmp w.entry e) in
    let point = IsPartitionPoint-from_clause low _ _ c.partition_point.ensures.partitioned
    (parted_pairs low rows (lower_parted e rows lower)) (λ a r q k. search rules) in
    all-map (λ w. low w ≡ true) (λ w. has_key e w ≡ false) _ (λ w t. lower_apart e w t)
    (each-take (λ w. low w ≡ true) rows c.partition_point.result c.partition_point.ensures.bound point.0)

pub returns-clause-others : goal.returns-clause-others
returns-clause-others c lower =
    let e = c.args.entry.now in
    let rows = c.args.rows.now in
    let low : Written → _ = λ w. is_lt (key_cmp w.entry e) in
    let point = IsPartitionPoint-from_clause low _ _ c.partition_point.ensures.partitioned
    (parted_pairs low rows (lower_parted e rows lower)) (λ a r q k. search rules) in
    let k = c.partition_point.result in
    let next : suc k ≡ k + 1 = omega arith in
    subst (λ n. AllByRecursion (λ w. has_key e w ≡ false) (drop n rows)) next (others_apart e rows k lower point.1)
