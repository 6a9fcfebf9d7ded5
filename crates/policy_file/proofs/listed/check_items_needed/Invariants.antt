use Rattle.std.proofs.Common.{◌≡◌, map, drop}
use Rattle.std.specs.List.{enumerate_from}
use Rattle.toml.specs.View.{view}
use Rattle.virtual_topology.specs.Faults.{first_answer}
use Rattle.policy_file.specs.Listed.{in_item, missing}
use Rattle.policy_file.proofs.listed.check_items_needed.Given as goal

abbrev pub invariant-loop-number : goal.invariant-loop-number
invariant-loop-number l =
    let f = in_item missing l.kind in
    first_answer f (drop l.number (enumerate_from 0 (map view l.items)))
    ≡ first_answer f (enumerate_from 0 (map view l.items))
