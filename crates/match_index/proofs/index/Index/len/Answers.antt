use Rattle.std.proofs.Common.{◌∙◌, ◌==◌, ap, subst, ℕ, List, map}
use Rattle.std.specs.List.{IsDistinct}
use Rattle.match_index.specs.declared.item.Item.{Item}
use Rattle.match_index.proofs.Holds.{held_ids}
use Rattle.match_index.proofs.index.Index.len.Goals as goal

pub returns-clause-once : goal.returns-clause-once
returns-clause-once c =
    let P : List ℕ → Type 0 = IsDistinct ◌==◌ in
    subst P (held_ids c.self.inside.held.entries c.self.invariant.0.ids
    ∙ ap (λ x. map (λ (e : Item). e.id) x.items) c.self.view_is) c.self.invariant.0.once
