use Rattle.std.proofs.Common.{◌≡◌, ◌++◌, map, take}
use Rattle.std.specs.Prelude.{flat_map}
use Rattle.std.specs.List.{enumerate_from}
use Rattle.virtual_topology.specs.Rows.{all_switch_rows, switch_rows, virtual_rows}
use Rattle.virtual_topology.specs.Shown.{shown_row}
use Rattle.virtual_topology.proofs.known.rows.Given as goal

abbrev pub invariant-loop-number : goal.invariant-loop-number
invariant-loop-number l = map shown_row l.rows.items
    ≡ flat_map switch_rows (take l.number (enumerate_from 0 l.item-items))

abbrev pub invariant-loop-number-2 : goal.invariant-loop-number-2
invariant-loop-number-2 l = map shown_row l.rows.items ≡ all_switch_rows l.plan.switches
    ++ flat_map virtual_rows (take l.number (enumerate_from 0 l.item-items))
