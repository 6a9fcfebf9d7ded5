use Rattle.std.proofs.Common.{arith, rules}
use Rattle.std.proofs.lemmas.List.Sorted.{IsPartitionPoint-from_clause}
use Rattle.shared_rows.proofs.Lists.{parted_pairs}
use Rattle.shared_rows.proofs.Placing.{apart_place, before_place, begins, behind_place, runs_parted}
use Rattle.shared_rows.proofs.Put.{rows_rise}
use Rattle.shared_rows.proofs.runs.place_for.Goals as goal

pub returns-clause-before : goal.returns-clause-before
returns-clause-before c rise have =
    let e = c.args.entry.now in
    let runs = c.args.runs.now in
    let begun = c.partition_point-begun in
    let point = IsPartitionPoint-from_clause (begins e) _ _ begun.ensures.partitioned
    (parted_pairs (begins e) runs (runs_parted e runs rise have)) (λ a r q k. search rules) in
    before_place e runs begun.result c.saturating_sub.result c.saturating_sub.ensures begun.ensures.bound c.requires
    point.0 rise have

pub returns-clause-behind : goal.returns-clause-behind
returns-clause-behind c rise have =
    let e = c.args.entry.now in
    let runs = c.args.runs.now in
    let begun = c.partition_point-begun in
    let point = IsPartitionPoint-from_clause (begins e) _ _ begun.ensures.partitioned
    (parted_pairs (begins e) runs (runs_parted e runs rise have)) (λ a r q k. search rules) in
    behind_place e runs begun.result c.saturating_sub.result (omega (arith, c.saturating_sub.ensures)) rise point.1

pub returns-clause-apart : goal.returns-clause-apart
returns-clause-apart c lower have =
    let e = c.args.entry.now in
    let runs = c.args.runs.now in
    let begun = c.partition_point-begun in
    let point = IsPartitionPoint-from_clause (begins e) _ _ begun.ensures.partitioned
    (parted_pairs (begins e) runs (runs_parted e runs (rows_rise _ lower) have)) (λ a r q k. search rules) in
    apart_place e runs begun.result c.saturating_sub.result c.saturating_sub.ensures begun.ensures.bound c.requires
    point.0 lower have
