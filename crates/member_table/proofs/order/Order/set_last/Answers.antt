use Rattle.std.proofs.Common.{◌∙◌, sym, ap, map, refl, nat_eq, if◌then◌else◌}
use Rattle.std.specs.List.{list_any}
use Rattle.indexmap.specs.IndexMap.{get}
use Rattle.member_table.specs.Entries.{has_serial, same_identity}
use Rattle.member_table.specs.InsideOrders.{listed}
use Rattle.member_table.specs.declared.entry.Entry.{Entry}
use Rattle.member_table.proofs.Indexed.{in_step_set_at, is_listed, unlisted}
use Rattle.member_table.proofs.Lists.{map-none}
use Rattle.member_table.proofs.order.Order.set_last.Goals as goal

pub invariant_of-self : goal.invariant_of-self
invariant_of-self c =
    let changed : Entry → Entry = λ e. record e { last = c.args.now } in
    (in_step_set_at c.self.inside.serials.items c.self.inside.entries.entries (get same_identity c.self.inside.numbers)
    c.args.serial c.in-Some.place changed c.index_mut.result.now c.self.invariant (λ x. refl) (λ x. refl)
    c.in-Some.ensures.index c.index_mut.ensures.value).0

pub returns-in-Some-clause-entries : goal.returns-in-Some-clause-entries
returns-in-Some-clause-entries c =
    let changed : Entry → Entry = λ e. record e { last = c.args.now } in
    (in_step_set_at c.self.inside.serials.items c.self.inside.entries.entries (get same_identity c.self.inside.numbers)
    c.args.serial c.in-Some.place changed c.index_mut.result.now c.self.invariant (λ x. refl) (λ x. refl)
    c.in-Some.ensures.index c.index_mut.ensures.value).1
    ∙ ap (λ o. map (λ e. if has_serial c.args.serial e then changed e else e) o.entries) c.self.view_is

pub returns-in-Some-clause-found : goal.returns-in-Some-clause-found
returns-in-Some-clause-found c =
    sym (is_listed c.self.inside.serials.items (get nat_eq c.self.inside.entries)
    (get same_identity c.self.inside.numbers) c.args.serial c.index_mut.result.now c.self.invariant
    (sym c.in-Some.ensures.value ∙ c.index_mut.ensures.value))
    ∙ ap (λ o. list_any (has_serial c.args.serial) o.entries) c.self.view_is

pub returns-in-None-clause-entries : goal.returns-in-None-clause-entries
returns-in-None-clause-entries c =
    let changed : Entry → Entry = λ e. record e { last = c.args.now } in
    let es = listed (get nat_eq c.self.inside.entries) c.self.inside.serials.items in
    let none = unlisted c.self.inside.serials.items (get nat_eq c.self.inside.entries)
    (get same_identity c.self.inside.numbers) c.args.serial c.self.invariant c.in-None.ensures.found in
    ap (λ o. o.entries) (sym c.self.view_is)
    ∙ (sym (map-none (has_serial c.args.serial) changed es none)
    ∙ ap (λ o. map (λ e. if has_serial c.args.serial e then changed e else e) o.entries) c.self.view_is)

pub returns-in-None-clause-found : goal.returns-in-None-clause-found
returns-in-None-clause-found c =
    sym (unlisted c.self.inside.serials.items (get nat_eq c.self.inside.entries)
    (get same_identity c.self.inside.numbers) c.args.serial c.self.invariant c.in-None.ensures.found)
    ∙ ap (λ o. list_any (has_serial c.args.serial) o.entries) c.self.view_is
