use Rattle.std.proofs.Common.{◌≡◌, ◌∙◌, ap, sym, subst, cond, None, List, ℕ, nat_eq}
use Rattle.std.specs.Map.{lookup}
use Rattle.indexmap.specs.IndexMap.{get}
use Rattle.member_table.specs.Entries.{same_identity}
use Rattle.member_table.specs.InsideOrders.{IsIndexed}
use Rattle.member_table.specs.declared.entry.Entry.{Entry}
use Rattle.member_table.proofs.Indexed.{indexed_remove}
use Rattle.member_table.proofs.Staying.{none_goes}
use Rattle.member_table.proofs.order.take_one.Goals as goal

pub returns-in-Some-clause-indexed : goal.returns-in-Some-clause-indexed
returns-in-Some-clause-indexed c = λ es i.
    let number = get same_identity c.args.numbers.now in
    indexed_remove (get nat_eq c.args.entries.now) number es i c.args.serial c.in-Some.entry
    (get nat_eq c.swap_remove.new.self) (get same_identity c.swap_remove-in-Some.new.self)
    (sym (i.found c.args.serial) ∙ sym c.in-Some.ensures.value) c.swap_remove.ensures.updates.0
    (λ j. c.swap_remove-in-Some.ensures.updates.0 j
    ∙ ap (λ z. cond (same_identity z j) None (number j)) c.identity.ensures)

pub returns-in_default-clause-indexed : goal.returns-in_default-clause-indexed
returns-in_default-clause-indexed c = λ es i.
    let number = get same_identity c.args.numbers.now in
    let P : List (ℕ × Entry) → Type 0 = λ ps. IsIndexed (λ s. lookup (nat_eq s) ps) number es in
    let none : None ≡ get nat_eq c.swap_remove.new.self c.args.serial = c.in_default.ensures.value
    ∙ ap (λ ps. lookup (nat_eq c.args.serial) ps) (sym c.in_default.ensures.unchanged) in
    none_goes (get nat_eq c.swap_remove.new.self) number c.args.serial es none
    (subst P (sym c.in_default.ensures.unchanged) i)
