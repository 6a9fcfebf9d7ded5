use Rattle.std.proofs.Common.{◌≡◌, drop}
use Rattle.toml.specs.View.{table_view}
use Rattle.virtual_topology.specs.Faults.{first_answer}
use Rattle.policy_file.specs.Keys.{item_kinds}
use Rattle.policy_file.specs.Listed.{in_items, missing}
use Rattle.policy_file.proofs.listed.check_kinds_needed.Given as goal

abbrev pub invariant-loop-kind : goal.invariant-loop-kind
invariant-loop-kind l =
    let f = in_items missing (table_view l.file) in
    first_answer f (drop l.kind-index item_kinds) ≡ first_answer f item_kinds
