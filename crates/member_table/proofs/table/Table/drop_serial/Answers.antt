use Rattle.std.proofs.Common.{◌∙◌, ℕ, sym, ap, is_some, subst, eqb-true, filter, not}
use Rattle.match_index.specs.InsideGroups.{SameItems}
use Rattle.match_index.specs.Items.{has_id}
use Rattle.std.specs.List.{list_any}
use Rattle.member_table.specs.Entries.{has_serial}
use Rattle.member_table.proofs.Lists.{any_find, found_passes}
use Rattle.member_table.proofs.Kept.{kept_filter, kept_none}
use Rattle.member_table.proofs.table.Table.drop_serial.Goals as goal

pub invariant_of-self : goal.invariant_of-self
invariant_of-self c =
    let items = c.self.inside.ranks.items in
    let own = eqb-true c.args.serial c.in-Some.entry.serial
    (found_passes (has_serial c.args.serial) c.self.inside.order.entries c.in-Some.entry
    (sym c.in-Some.ensures.removed)) in
    let S : ℕ → Type 0 = λ s. SameItems (filter (λ r. not (has_id s r)) items) c.remove-in-Some.new.self.items in
    kept_filter (λ r. not (has_id c.args.serial r)) c.self.inside.next c.self.inside.limit c.self.inside.room
    c.self.inside.soonest c.self.inside.order _ c.self.inside.ranks _ c.self.invariant c.remove.ensures.entries c.remove.ensures.room
    (subst S (sym own) c.remove-in-Some.ensures.items) c.remove-in-Some.ensures.room

pub invariant_of-self-in-None : goal.invariant_of-self-in-None
invariant_of-self-in-None c = kept_none c.args.serial c.self.inside.next c.self.inside.limit c.self.inside.room
    c.self.inside.soonest c.self.inside.order _ c.self.inside.ranks c.self.invariant c.remove.ensures.entries c.remove.ensures.room
    c.in-None.ensures.removed

pub returns-in-Some-clause-found : goal.returns-in-Some-clause-found
returns-in-Some-clause-found c =
    ap is_some c.in-Some.ensures.removed
    ∙ (sym (any_find (has_serial c.args.serial) c.self.inside.order.entries)
    ∙ ap (λ h. list_any (has_serial c.args.serial) h.table.entries) c.self.view_is)

pub returns-in-None-clause-found : goal.returns-in-None-clause-found
returns-in-None-clause-found c =
    ap is_some c.in-None.ensures.removed
    ∙ (sym (any_find (has_serial c.args.serial) c.self.inside.order.entries)
    ∙ ap (λ h. list_any (has_serial c.args.serial) h.table.entries) c.self.view_is)
