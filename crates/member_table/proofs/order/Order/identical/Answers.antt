use Rattle.std.proofs.Common.{◌∙◌, ap, find, nat_eq}
use Rattle.std.specs.Option.{option_and_then}
use Rattle.indexmap.specs.IndexMap.{get}
use Rattle.member_table.specs.Entries.{is_at, same_identity}
use Rattle.member_table.proofs.Indexed.{replaced_is}
use Rattle.member_table.proofs.order.Order.identical.Goals as goal

pub returns-in-Some : goal.returns-in-Some
returns-in-Some c =
    c.get-in-Some.ensures.value
    ∙ (ap (option_and_then (get nat_eq c.self.inside.entries)) c.in-Some.ensures.value
    ∙ (replaced_is c.self.inside.serials.items (get nat_eq c.self.inside.entries)
    (get same_identity c.self.inside.numbers) c.args.identity.now c.self.invariant
    ∙ ap (λ o. find (is_at c.args.identity.now) o.entries) c.self.view_is))
