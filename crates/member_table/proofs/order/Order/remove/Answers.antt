use Rattle.std.proofs.Common.{◌≡◌, ◌∙◌, sym, ap, subst, not, filter, is_some, List, ℕ, nat_eq}
use Rattle.std.specs.Map.{lookup}
use Rattle.indexmap.specs.IndexMap.{get}
use Rattle.member_table.specs.Entries.{has_serial, same_identity}
use Rattle.member_table.specs.InsideOrders.{IsInStep, listed}
use Rattle.member_table.specs.declared.entry.Entry.{Entry}
use Rattle.member_table.proofs.Indexed.{in_step_remove}
use Rattle.member_table.proofs.Lists.{any_find, filter-none}
use Rattle.member_table.proofs.order.Order.remove.Goals as goal

removed : (c : goal.After-forget)
    → IsInStep c.forget.new.serials.items (get nat_eq c.swap_remove.new.self)
    (get same_identity c.swap_remove-2.new.self)
    × (listed (get nat_eq c.swap_remove.new.self) c.forget.new.serials.items
    ≡ filter (λ x. not (has_serial c.args.serial x))
    (listed (get nat_eq c.self.inside.entries) c.self.inside.serials.items))
removed c = in_step_remove c.self.inside.serials.items _ (get nat_eq c.self.inside.entries) _
    (get same_identity c.self.inside.numbers) _ c.args.serial c.in_ok-entry.entry c.identity.result c.self.invariant
    c.in_ok-entry.ensures.value c.identity.ensures c.swap_remove.ensures.updates.0 c.swap_remove-2.ensures.updates.0
    c.forget.ensures.numbers

pub invariant_of-self-2 : goal.invariant_of-self-2
invariant_of-self-2 c = (removed c).0

pub returns-clause-entries : goal.returns-clause-entries
returns-clause-entries c = (removed c).1
    ∙ ap (λ o. filter (λ x. not (has_serial c.args.serial x)) o.entries) c.self.view_is

pub invariant_of-self : goal.invariant_of-self
invariant_of-self c =
    let P : List (ℕ × Entry)
    → Type 0 = λ ps. IsInStep c.self.inside.serials.items (λ s. lookup (nat_eq s) ps)
    (get same_identity c.self.inside.numbers) in
    subst P (sym c.in_err-entry.ensures.unchanged) c.self.invariant

pub returns-in_err-entry-clause-entries : goal.returns-in_err-entry-clause-entries
returns-in_err-entry-clause-entries c =
    let es = listed (get nat_eq c.self.inside.entries) c.self.inside.serials.items in
    let none = any_find (has_serial c.args.serial) es
    ∙ ap is_some (sym (c.self.invariant.indexed.found c.args.serial) ∙ sym c.in_err-entry.ensures.value) in
    ap (λ ps. listed (λ s. lookup (nat_eq s) ps) c.self.inside.serials.items) c.in_err-entry.ensures.unchanged
    ∙ (sym (filter-none (has_serial c.args.serial) es none)
    ∙ ap (λ o. filter (λ x. not (has_serial c.args.serial x)) o.entries) c.self.view_is)
