use Rattle.std.proofs.Common.{◌∙◌, ap, ◌++◌, sym, arith, append_assoc, take}
use Rattle.std.proofs.lemmas.List.{append-nil}
use Rattle.std.specs.Prelude.{flat_map}
use Rattle.std.specs.List.{enumerate_from}
use Rattle.virtual_topology.specs.Rows.{all_switch_rows, switch_rows, virtual_rows}
use Rattle.virtual_topology.proofs.Steps.{numbered_more, numbered_all}
use Rattle.virtual_topology.proofs.known.rows.Goals as goal

pub loop-number-preserved : goal.loop-number-preserved
loop-number-preserved c =
    c.in_ok-push_switch.ensures
    ∙ (ap (λ rs. rs ++ switch_rows (c.loop-number.number, c.item-item.result)) c.loop-number.invariant
    ∙ sym (numbered_more switch_rows c.as_slice-item-items.result.now c.loop-number.number c.item-item.result
    c.loop-number-test.true c.item-item.is))

pub loop-number-2-init : goal.loop-number-2-init
loop-number-2-init c =
    c.loop-number.invariant
    ∙ (ap (flat_map switch_rows)
    (numbered_all c.as_slice-item-items.result.now c.loop-number.number (omega (arith, c.loop-number-test.false)))
    ∙ (ap all_switch_rows c.as_slice-item-items.ensures ∙ sym (append-nil (all_switch_rows c.args.plan.now.switches))))

pub loop-number-2-preserved : goal.loop-number-2-preserved
loop-number-2-preserved c =
    c.in_ok-push_virtual.ensures
    ∙ (ap (λ rs. rs ++ virtual_rows (c.loop-number-2.number, c.item-item-in-loop-number-2.result))
    c.loop-number-2.invariant
    ∙ (append_assoc (all_switch_rows c.args.plan.now.switches)
    (flat_map virtual_rows (take c.loop-number-2.number (enumerate_from 0 c.as_slice-item-items-2.result.now)))
    (virtual_rows (c.loop-number-2.number, c.item-item-in-loop-number-2.result))
    ∙ ap (λ rs. all_switch_rows c.args.plan.now.switches ++ rs)
    (sym (numbered_more virtual_rows c.as_slice-item-items-2.result.now c.loop-number-2.number
    c.item-item-in-loop-number-2.result c.loop-number-2-test.true c.item-item-in-loop-number-2.is))))

pub returns : goal.returns
returns c =
    c.loop-number-2.invariant
    ∙ ap (λ rs. all_switch_rows c.args.plan.now.switches ++ rs)
    (ap (flat_map virtual_rows)
    (numbered_all c.as_slice-item-items-2.result.now c.loop-number-2.number
    (omega (arith, c.loop-number-2-test.false)))
    ∙ ap (λ xs. flat_map virtual_rows (enumerate_from 0 xs)) c.as_slice-item-items-2.ensures)
