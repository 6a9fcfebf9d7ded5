use Rattle.std.proofs.Common.{◌<◌, List, length, refl, ap, sym, subst, ◌∙◌}
use Rattle.std.specs.Prelude.{slice_get}
use Rattle.std.proofs.lemmas.Option.{slice_get_read}
use Rattle.switch_tables.specs.Tables.{SwitchTableOf}
use Rattle.composed_tables.specs.Composing.{ComposedOf}
use Rattle.composed_tables.proofs.Standing.{standing-of}
use Rattle.composed_tables.proofs.composed.Composed.standing.Goals as goal

pub bounds-slots-n : goal.bounds-slots-n
bounds-slots-n c =
    subst (λ (z : List SwitchTableOf). c.args.n < length z)
    (sym (c.as_slice-slots.ensures ∙ ap (λ (z : ComposedOf). z.tables) c.self.view_is)) c.requires

pub returns : goal.returns
returns c s good of =
    let n = c.args.n in
    let slots = c.as_slice-slots.result.now in
    let same = c.as_slice-slots.ensures ∙ ap (λ (z : ComposedOf). z.tables) c.self.view_is in
    let lt : n < length slots = subst (λ (z : List SwitchTableOf). n < length z) (sym same) c.requires in
    let at = slice_get_read slots (length slots) n c.index-slots-n.result refl lt c.index-slots-n.is in
    standing-of s c.args.self.now n c.index-slots-n.result c.in_ok-standing.standing good of
    (ap (λ (z : List SwitchTableOf). slice_get z n) (sym same) ∙ at) c.in_ok-standing.ensures.table
    (sym c.in_ok-standing.ensures.standing)
