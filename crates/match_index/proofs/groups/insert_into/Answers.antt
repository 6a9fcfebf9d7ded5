use Rattle.std.proofs.Common.{◌≡◌, ◌∙◌, List, Some, sym, subst}
use Rattle.std.specs.List.{position}
use Rattle.std.proofs.lemmas.List.Quantifiers.{position-Some}
use Rattle.match_index.specs.InsideGroups.{GroupOf}
use Rattle.match_index.specs.InsideShapes.{same_shape}
use Rattle.match_index.specs.Items.{AddsTo}
use Rattle.match_index.proofs.Grouped.{groups_added, shape_there}
use Rattle.match_index.proofs.Lists.{ok_then}
use Rattle.match_index.proofs.groups.insert_into.Goals as goal

pub insert-requires-clause-shape : goal.insert-requires-clause-shape
insert-requires-clause-shape c =
    let At : List GroupOf → Type 0 = λ gs. position (λ g. same_shape g.shape c.of.result) gs ≡ Some c.in-Some.place in
    sym (shape_there c.of.result c.args.groups.now.items c.in-Some.place c.index_mut.result.now
    (subst At c.deref.ensures.value (sym c.in-Some.ensures)) c.index_mut.ensures.value ∙ c.of.ensures.value)

pub returns-in-Some-clause-added : goal.returns-in-Some-clause-added
returns-in-Some-clause-added c =
    let At : List GroupOf → Type 0 = λ gs. position (λ g. same_shape g.shape c.of.result) gs ≡ Some c.in-Some.place in
    let within =
    (position-Some (λ g. same_shape g.shape c.of.result) c.args.groups.now.items c.in-Some.place
    c.index_mut.result.now (subst At c.deref.ensures.value (sym c.in-Some.ensures))).0 in
    ok_then (AddsTo c.args.item.now c.index_mut.result.now.items c.insert.new.self.items) _ c.insert.result
    (groups_added c.args.item.now c.args.groups.now.items c.in-Some.place c.index_mut.result.now c.insert.new.self
    within c.index_mut.ensures.value) c.insert.ensures.added
