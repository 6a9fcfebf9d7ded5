use Rattle.std.proofs.Common.{◌≡◌, ◌<◌, List, Some, length, get_or, set, ap, sym, subst, ◌∙◌}
use Rattle.std.specs.Prelude.{slice_get}
use Rattle.std.specs.List.{refill}
use Rattle.std.proofs.lemmas.Option.{slice_get-get_or}
use Rattle.switch_tables.specs.Tables.{SwitchTableOf}
use Rattle.switch_tables.proofs.Outcomes.{on-err}
use Rattle.composed_tables.specs.Composing.{IsWholeAt}
use Rattle.composed_tables.proofs.After.{refilled, same-set}
use Rattle.composed_tables.proofs.Pushing.{set-long}
use Rattle.composed_tables.proofs.Standing.{whole-set}
use Rattle.composed_tables.proofs.composed.whole_nth.Goals as goal

pub returns-in_err-batch-clause-memory : goal.returns-in_err-batch-clause-memory
returns-in_err-batch-clause-memory c =
    let tables = c.args.tables.now in
    let n = c.args.n in
    let slots = c.as_mut_slice-slots.result.now in
    let x = get_or slots n c.index-slots-n.result in
    let lent : slots ≡ tables = c.as_mut_slice-slots.ensures.value in
    let new = set slots n c.whole.new.self in
    let long = set-long slots n c.whole.new.self ∙ ap (λ (z : List SwitchTableOf). length z) lent in
    let back : refill (length tables) tables new ≡ new = refilled tables new long in
    let lt : n < length slots = subst (λ (z : List SwitchTableOf). n < length z) (sym lent) c.requires in
    let at : slice_get slots n ≡ Some x = slice_get-get_or slots n c.index-slots-n.result lt in
    on-err c.from_residual.result _
    (back ∙ (ap (set slots n) c.in_err-batch.ensures.memory ∙ (same-set slots n x at ∙ lent)))

pub returns-clause-whole : goal.returns-clause-whole
returns-clause-whole c =
    let tables = c.args.tables.now in
    let n = c.args.n in
    let y = c.whole.new.self in
    let slots = c.as_mut_slice-slots.result.now in
    let x = get_or slots n c.index-slots-n.result in
    let batch = c.in_ok-batch.batch in
    let e = c.in_ok-batch.ensures in
    let lent : slots ≡ tables = c.as_mut_slice-slots.ensures.value in
    let new = set slots n y in
    let long = set-long slots n y ∙ ap (λ (z : List SwitchTableOf). length z) lent in
    let back : refill (length tables) tables new ≡ new = refilled tables new long in
    let lt : n < length slots = subst (λ (z : List SwitchTableOf). n < length z) (sym lent) c.requires in
    let at : slice_get slots n ≡ Some x = slice_get-get_or slots n c.index-slots-n.result lt in
    subst (λ (z : List SwitchTableOf). IsWholeAt n batch tables z) (sym back)
    (subst (λ (z : List SwitchTableOf). IsWholeAt n batch z new) lent
    (whole-set slots n x y batch at e.now e.before e.deletes e.standing e.table))
