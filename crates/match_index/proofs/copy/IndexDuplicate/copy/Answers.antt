use Rattle.std.proofs.Common.{◌≡◌, ◌∙◌, ◌++◌, ◌∷◌, ◌==◌, ℕ, List, map, sym, ap, subst, arith}
use Rattle.std.specs.List.{list_any, IsDistinct}
use Rattle.std.specs.Map.{values_of}
use Rattle.std.specs.Map.Iter.{deref}
use Rattle.std.proofs.lemmas.Map.Iter.{iter_turn, rest_more, rest_so_far}
use Rattle.match_index.specs.Items.{IndexOf, has_id}
use Rattle.match_index.specs.declared.item.Item.{Item}
use Rattle.match_index.proofs.Holds.{distinct_before, held_ids}
use Rattle.match_index.proofs.copy.IndexDuplicate.copy.Goals as goal

pub put-requires-clause-room : goal.put-requires-clause-room
put-requires-clause-room c =
    let turn = iter_turn deref c.values-item-items.result c.loop-item.yielded c.into_iter-item-iterator.result
    c.loop-item.item-iterator c.next.new.self c.next.result
    c.into_iter-item-iterator.ensures.into_iter_gives c.loop-item.yielded_by c.in-Some.item c.in-Some.is
    c.next.ensures.steps in
    let within = turn.0 in
    let all = c.values-item-items.ensures.len in
    let reserved = c.in_ok-reserve.ensures.room in
    let fresh = ap (λ (i : IndexOf). i.room) c.new-copied.ensures in
    let count = c.len.ensures.len in
    let kept = c.loop-item.invariant.room in
    omega (arith, within, all, reserved, fresh, count, kept)

pub put-requires-clause-new_id : goal.put-requires-clause-new_id
put-requires-clause-new_id c =
    let so_far : List Item = map deref c.loop-item.yielded in
    let whole : values_of c.self.inside.held.entries ≡ so_far ++ (c.in-Some.item.now ∷ c.next.new.self) =
    sym c.values-item-items.ensures.rest
    ∙ (sym c.into_iter-item-iterator.ensures.into_iter_gives
    ∙ (rest_so_far deref c.loop-item.yielded c.into_iter-item-iterator.result c.loop-item.item-iterator
    c.loop-item.yielded_by
    ∙ ap (λ z. so_far ++ z) (rest_more deref c.loop-item.item-iterator c.next.new.self c.next.result c.in-Some.item
    c.in-Some.is c.next.ensures.steps))) in
    let D : List ℕ → Type 0 = IsDistinct ◌==◌ in
    let once = subst D (held_ids c.self.inside.held.entries c.self.invariant.0.ids
    ∙ ap (map (λ (e : Item). e.id)) whole) c.self.invariant.0.once in
    ap (list_any (has_id c.in-Some.item.now.id)) c.loop-item.invariant.items
    ∙ distinct_before so_far c.in-Some.item.now c.next.new.self once
