use Rattle.std.proofs.Common.{length, ap, arith}
use Rattle.switch_meaning.proofs.Writing.{set_more}
use Rattle.switch_meaning.proofs.placing.push_sets.Goals as goal

pub loop-field-preserved : goal.loop-field-preserved
loop-field-preserved c =
    let done = ap length c.field_sets-done.ensures in
    let set = ap length c.field_sets-set.ensures in
    set_more c.field_sets-done.result c.field_sets-set.result c.loop-field.field c.loop-field.actions
    c.push_set.new.actions _ (omega arith) (omega arith) c.in_ok-push_set.ensures c.loop-field.invariant
