use Rattle.std.proofs.Common.{◌≡◌, List, length, ap, sym, subst, ◌∙◌}
use Rattle.switch_tables.specs.Tables.{SwitchTableOf}
use Rattle.switch_tables.specs.Turning.{IsUndoneAt}
use Rattle.composed_tables.proofs.After.{refilled}
use Rattle.composed_tables.proofs.composed.undo_tables.Goals as goal

pub returns-clause-long : goal.returns-clause-long
returns-clause-long c =
    let tables = c.args.tables.now in
    let new = c.undo_all.new.tables in
    let lent : c.as_mut_slice.result.now ≡ tables = c.as_mut_slice.ensures.value in
    let long = c.undo_all.ensures.long ∙ ap (λ (z : List SwitchTableOf). length z) lent in
    ap (λ (z : List SwitchTableOf). length z) (refilled tables new long) ∙ long

pub returns-clause-undone : goal.returns-clause-undone
returns-clause-undone c n =
    let tables = c.args.tables.now in
    let new = c.undo_all.new.tables in
    let lent : c.as_mut_slice.result.now ≡ tables = c.as_mut_slice.ensures.value in
    let long = c.undo_all.ensures.long ∙ ap (λ (z : List SwitchTableOf). length z) lent in
    subst (λ (z : List SwitchTableOf). IsUndoneAt n tables z) (sym (refilled tables new long))
    (subst (λ (z : List SwitchTableOf). IsUndoneAt n z new) lent (c.undo_all.ensures.undone n))
