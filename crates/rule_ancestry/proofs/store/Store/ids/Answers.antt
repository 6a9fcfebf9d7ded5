use Rattle.std.proofs.Common.{◌≡◌, ◌++◌, ap, sym, ◌∙◌, rules}
use Rattle.std.specs.Prelude.{map}
use Rattle.std.proofs.lemmas.List.{append-nil}
use Rattle.slab.specs.Slab.{entries}
use Rattle.rule_ancestry.specs.Holding.{id_of}
use Rattle.rule_ancestry.proofs.Slots.{entry-ids}
use Rattle.rule_ancestry.proofs.store.Store.ids.Goals as goal

pub returns : goal.returns
returns g c =
    let start : c.into_iter-id-iterator.result ≡ entries c.self.inside.slab = search rules in
    sym (append-nil c.loop-id.ids.items)
    ∙ ap (λ z. c.loop-id.ids.items ++ map (λ e. e.0) z) (sym c.in-None.ensures.steps.0) ∙ c.loop-id.invariant
    ∙ ap (map (λ e. e.0)) start ∙ entry-ids 0 c.self.inside.slab.slots ∙ ap (map id_of) c.self.view_is
