use Rattle.std.proofs.Common.{rules}
use Rattle.std.proofs.lemmas.List.Sorted.{IsPartitionPoint-from_clause}
use Rattle.shared_list.proofs.Places.{runs_parted, searched, searched_none}
use Rattle.shared_list.specs.InsideRuns.{ends_with}
use Rattle.std.specs.Arc.{arc_value}
use Rattle.std.specs.Prelude.{not}
use Rattle.shared_list.proofs.searching.run_with_first.Goals as goal

pub returns-then-place-runs-clause-place : goal.returns-then-place-runs-clause-place
returns-then-place-runs-clause-place g c have behind =
    let q = g.W.Wanted.wants c.args.wanted.now in
    let runs = c.args.runs.now in
    let point = IsPartitionPoint-from_clause (λ run. not (ends_with q (arc_value run))) _ _
    c.partition_point-place.ensures.partitioned (runs_parted q runs have behind) (λ a r t k. search rules) in
    searched q runs c.partition_point-place.result behind c.if-place-runs.true point.0 point.1

pub returns-else-place-runs-clause-place : goal.returns-else-place-runs-clause-place
returns-else-place-runs-clause-place g c have behind =
    let q = g.W.Wanted.wants c.args.wanted.now in
    let runs = c.args.runs.now in
    let point = IsPartitionPoint-from_clause (λ run. not (ends_with q (arc_value run))) _ _
    c.partition_point-place.ensures.partitioned (runs_parted q runs have behind) (λ a r t k. search rules) in
    searched_none q runs c.partition_point-place.result behind c.if-place-runs.false point.0
