use Rattle.std.proofs.Common.{◌≡◌, ◌∙◌, ap, sym, ℕ, List, IfOk, filter, find, false, nat_eq, subst}
use Rattle.std.specs.Option.{option_map_or}
use Rattle.indexmap.specs.IndexMap.{get}
use Rattle.member_table.specs.Entries.{has_serial, same_identity}
use Rattle.member_table.specs.Timeouts.{serials_of}
use Rattle.member_table.specs.InsideWanting.{is_wanted}
use Rattle.member_table.specs.declared.entry.Entry.{Entry}
use Rattle.member_table.proofs.Indexed.{wanted_numbers}
use Rattle.member_table.proofs.order.Order.wanted.Goals as goal

pub returns : goal.returns
returns c =
    let test = is_wanted c.args.wanted.now in
    let among : List Entry → List ℕ
    → List ℕ = λ es ns. filter (λ s. option_map_or test (find (has_serial s) es) false) ns in
    let same = ap (λ ns. among c.args.self.now.entries ns) c.deref.ensures.value
    ∙ (ap (λ o. among o.entries c.self.inside.serials.items) (sym c.self.view_is)
    ∙ (wanted_numbers c.self.inside.serials.items (get nat_eq c.self.inside.entries)
    (get same_identity c.self.inside.numbers) test c.self.invariant
    ∙ ap (λ o. serials_of test o.entries) c.self.view_is)) in
    let P : List ℕ → Type 0 = λ ns. IfOk c.wanted_among.result (λ v. v.items ≡ ns) in
    subst P same c.wanted_among.ensures
