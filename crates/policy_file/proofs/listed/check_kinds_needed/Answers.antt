use Rattle.std.proofs.Common.{get_or}
use Rattle.std.proofs.lemmas.List.{drop_more}
use Rattle.std.proofs.lemmas.Result.{err_from_is_err_and}
use Rattle.toml.specs.View.{table_view}
use Rattle.virtual_topology.proofs.Checks.{ended, passed_on, stopped_at}
use Rattle.policies.specs.declared.fault.PolicyFault.TheVariants.{Memory}
use Rattle.policy_file.specs.declared.keys.ItemKind.TheVariants.{Switch}
use Rattle.policy_file.specs.Keys.{item_kinds}
use Rattle.policy_file.specs.Listed.{in_items, missing}
use Rattle.policy_file.proofs.listed.check_kinds_needed.Goals as goal

pub returns-in_err-check_kind_needed : goal.returns-in_err-check_kind_needed
returns-in_err-check_kind_needed c =
    let p = err_from_is_err_and c.from_residual.result c.from_residual.ensures.1 in
    let i = c.loop-kind.kind-index in
    rw (p.1, p.2) (stopped_at Memory (in_items missing (table_view c.args.file.now)) item_kinds i
    (get_or item_kinds i Switch) _ (drop_more item_kinds i Switch c.loop-kind-test.true)
    c.in_err-check_kind_needed.ensures c.loop-kind.invariant)

pub loop-kind-preserved : goal.loop-kind-preserved
loop-kind-preserved c =
    let i = c.loop-kind.kind-index in
    passed_on (in_items missing (table_view c.args.file.now)) item_kinds i (get_or item_kinds i Switch)
    c.loop-kind-test.true (drop_more item_kinds i Switch c.loop-kind-test.true) c.in_ok-check_kind_needed.ensures
    c.loop-kind.invariant

pub returns : goal.returns
returns c = ended (in_items missing (table_view c.args.file.now)) item_kinds c.loop-kind.kind-index
    c.loop-kind-test.false c.loop-kind.invariant
