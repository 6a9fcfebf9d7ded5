use Rattle.std.proofs.Common.{◌≡◌, ◌+◌, ◌++◌, ◌∷◌, List, [], refl, sym, ap, subst, ◌∙◌}
use Rattle.std.specs.Prelude.{IsSome}
use Rattle.std.specs.BTreeMap.{is_at}
use Rattle.std.specs.List.{list_any}
use Rattle.match_index.specs.Items.{has_id}
use Rattle.match_index.specs.declared.item.Item.{Item}
use Rattle.install_plan.specs.InsideFinder.{AreIndexed, Numbers, key_in, number_at}
use Rattle.install_plan.specs.InsideSlots.{order}
use Rattle.install_plan.proofs.Finding.{indexed-more, new-number, still-numbered}
use Rattle.install_plan.proofs.finder.Finder.insert.Goals as goal

pub put-requires-clause-new_id : goal.put-requires-clause-new_id
put-requires-clause-new_id c =
    ap (list_any (has_id c.self.inside.next)) c.reserve.ensures.items
    ∙ new-number c.self.inside.numbers.entries c.self.inside.index.items c.self.inside.next c.self.invariant

pub invariant_of-self-2 : goal.invariant_of-self-2
invariant_of-self-2 c =
    let k = c.args.key.now in
    let i : Item = record { id = c.self.inside.next; rank = c.rank.result; normal = c.args.m.now } in
    let key : key_in i ≡ k = λ j. record { priority = c.rank.ensures.value j; bytes = sym c.requires.key j } in
    let is = c.put.ensures.items ∙ ap (λ (xs : List Item). xs ++ i ∷ []) c.reserve.ensures.items in
    let more = indexed-more c.self.inside.numbers.entries c.insert.new.self.entries c.self.inside.index.items
    c.self.inside.next k i c.self.invariant c.in_ok-insert.ensures.updates.0 key refl c.requires.in_range
    c.rank.ensures.small in
    subst (λ (xs : List Item). AreIndexed c.insert.new.self.entries xs (c.self.inside.next + 1)) (sym is) more

pub returns-clause-still : goal.returns-clause-still
returns-clause-still c = λ q t.
    let had = subst (λ (ns : Numbers). IsSome (number_at q ns)) (sym c.self.view_is) t in
    subst IsSome (sym (c.in_ok-insert.ensures.updates.0 q))
    (still-numbered (is_at (order c.args.key.now) q) c.self.inside.next (number_at q c.self.inside.numbers.entries)
    had)
