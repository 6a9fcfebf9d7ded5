use Rattle.std.proofs.Common.{arith, ◌≡◌, ◌<◌, ◌+◌, ◌^◌, ◌∙◌, sym, ap, false, subst, map, Option}
use Rattle.std.specs.List.{list_any}
use Rattle.match_index.specs.Items.{has_id}
use Rattle.match_index.specs.declared.item.Item.{Item}
use Rattle.match_index.proofs.Counts.{same_any}
use Rattle.member_table.specs.InsideRanking.{Exchanges, ranked_of}
use Rattle.member_table.specs.Tables.{Held}
use Rattle.member_table.specs.declared.entry.Entry.{Entry}
use Rattle.member_table.proofs.Sounds.{fresh_number, is_blocked}
use Rattle.member_table.proofs.Kept.{kept_put}
use Rattle.member_table.proofs.Lists.{list_any-map}
use Rattle.member_table.proofs.table.Table.put.Goals as goal

pub put-replaced-requires-clause-serial : goal.put-replaced-requires-clause-serial
put-replaced-requires-clause-serial c =
    let next = c.requires.serial ∙ ap (λ h. h.table.next) (sym c.self.view_is) in
    fresh_number c.args.entry.serial c.self.inside.next c.self.inside.order.entries next c.self.invariant.sound.given

pub exchange-requires-clause-new_id : goal.exchange-requires-clause-new_id
exchange-requires-clause-new_id c =
    let next = c.requires.serial ∙ ap (λ h. h.table.next) (sym c.self.view_is) in
    let es = c.self.inside.order.entries in
    let items = c.self.inside.ranks.items in
    let s = c.args.entry.serial in
    ap (λ (r : Item). list_any (has_id r.id) items) c.item_of-item.ensures
    ∙ (same_any items (map ranked_of es) c.self.invariant.ranked (has_id s)
    ∙ (list_any-map (has_id s) ranked_of es
    ∙ fresh_number s c.self.inside.next es next c.self.invariant.sound.given))

pub invariant_of-self : goal.invariant_of-self
invariant_of-self c =
    let next = c.requires.serial ∙ ap (λ h. h.table.next) (sym c.self.view_is) in
    let Blocked : Held → Type 0 = λ h. list_any (is_blocked c.args.entry) h.table.entries ≡ false in
    let More : Held → Type 0 = λ h. h.table.next + 2 < 2 ^ 64 in
    let Room : Held → Type 0 = λ h. 0 < h.room in
    let E : Item → Type 0 = λ r. Exchanges c.put-replaced.result r c.self.inside.ranks.items
    c.exchange.new.self.items in
    let O : Option Entry
    → Type 0 = λ o. Exchanges o (ranked_of c.args.entry) c.self.inside.ranks.items c.exchange.new.self.items in
    kept_put c.args.entry c.self.inside.next c.self.inside.limit c.self.inside.room c.self.inside.soonest c.min-self-inside.result
    c.self.inside.order _ c.self.inside.ranks _ (omega (arith, c.min-self-inside.ensures))
    (λ now h. c.soonest.ensures now (omega (arith, c.min-self-inside.ensures))) c.self.invariant next (subst More (sym c.self.view_is) c.requires.more) c.requires.written
    (subst Blocked (sym c.self.view_is) c.requires.apart) (subst Room (sym c.self.view_is) c.requires.room)
    c.put-replaced.ensures.entries c.put-replaced.ensures.room
    (subst O c.put-replaced.ensures.replaced (subst E c.item_of-item.ensures c.exchange.ensures.items))
    c.exchange.ensures.room
