use Rattle.std.proofs.Common.{◌≡◌, ◌∙◌, ap, filter, nat_eq}
use Rattle.indexmap.specs.IndexMap.{get}
use Rattle.member_table.specs.Changes.{stays}
use Rattle.member_table.specs.Entries.{same_identity}
use Rattle.member_table.specs.InsideOrders.{IsInStep, listed}
use Rattle.member_table.proofs.Staying.{in_step_filter}
use Rattle.member_table.proofs.order.Order.remove_all.Goals as goal

kept : (c : goal.After-keep_known)
    → IsInStep c.keep_known.new.serials.items (get nat_eq c.take_all.new.entries)
    (get same_identity c.take_all.new.numbers)
    × (listed (get nat_eq c.take_all.new.entries) c.keep_known.new.serials.items
    ≡ filter (stays c.args.serials c.args.place)
    (listed (get nat_eq c.self.inside.entries) c.self.inside.serials.items))
kept c =
    let es = listed (get nat_eq c.self.inside.entries) c.self.inside.serials.items in
    in_step_filter c.self.inside.serials.items _ (get nat_eq c.self.inside.entries) _
    (get same_identity c.self.inside.numbers) _ (stays c.args.serials c.args.place) c.self.invariant
    (c.take_all.ensures.indexed es c.self.invariant.indexed) c.keep_known.ensures.numbers

pub invariant_of-self : goal.invariant_of-self
invariant_of-self c = (kept c).0

pub returns-clause-entries : goal.returns-clause-entries
returns-clause-entries c = (kept c).1 ∙ ap (λ o. filter (stays c.args.serials c.args.place) o.entries) c.self.view_is
