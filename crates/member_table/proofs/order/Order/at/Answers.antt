use Rattle.std.proofs.Common.{◌∙◌, sym, ap, nat_eq, nat_lt, length}
use Rattle.std.specs.List.{slice_get}
use Rattle.indexmap.specs.IndexMap.{get}
use Rattle.member_table.specs.Entries.{same_identity}
use Rattle.member_table.proofs.Indexed.{listed_at, listed_past}
use Rattle.member_table.proofs.Lists.{slice_got}
use Rattle.member_table.proofs.order.Order.at.Goals as goal

pub returns-in-Some : goal.returns-in-Some
returns-in-Some c =
    let got = slice_got c.deref.result.now c.args.place c.in-Some.serial.now c.in-Some.ensures.lookup.0
    c.in-Some.ensures.lookup.1 in
    c.get-in-Some.ensures.value
    ∙ (listed_at c.self.inside.serials.items (get nat_eq c.self.inside.entries)
    (get same_identity c.self.inside.numbers) c.args.place c.in-Some.serial.now c.self.invariant
    (ap (λ ns. slice_get ns c.args.place) (sym c.deref.ensures.value) ∙ got)
    ∙ ap (λ o. slice_get o.entries c.args.place) c.self.view_is)

pub returns-in-None : goal.returns-in-None
returns-in-None c =
    sym (listed_past c.self.inside.serials.items (get nat_eq c.self.inside.entries)
    (get same_identity c.self.inside.numbers) c.args.place c.self.invariant
    (c.in-None.ensures.lookup.0 ∙ ap (λ ns. nat_lt c.args.place (length ns)) c.deref.ensures.value))
    ∙ ap (λ o. slice_get o.entries c.args.place) c.self.view_is
