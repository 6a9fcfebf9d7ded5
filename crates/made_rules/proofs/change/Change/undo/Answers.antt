use Rattle.std.proofs.Common.{ap, map, subst, sym, ◌++◌, ◌∙◌}
use Rattle.std.specs.Prelude.{IsPermutation, filter}
use Rattle.rule_ancestry.specs.Holding.{is_outside}
use Rattle.made_rules.specs.Changing.{ChangeOf, was_of, wide_of}
use Rattle.made_rules.proofs.Changes.{ready-undone}
use Rattle.made_rules.proofs.change.Change.undo.Goals as goal

pub returns : goal.returns
returns c before lost made r =
    let stays = ap (λ (z : ChangeOf). z.stays) c.self.view_is in
    let come = c.deref.ensures.value ∙ ap (λ (z : ChangeOf). z.come) c.self.view_is in
    let first = (r.kept ++ r.coming) ++ r.going in
    let n = subst (λ s. IsPermutation c.narrow.new.store (first ++ map was_of s)) stays
    (c.narrow.ensures first (subst (λ s. IsPermutation c.args.store.now (first ++ map wide_of s)) (sym stays) r.is))
    in
    ready-undone before c.args.store.now lost made c.args.self r c.narrow.new.store c.remove_all.new.self
    c.len-count.ensures.rising c.len-rest.ensures.rising n
    (c.remove_all.ensures ∙ ap (λ z. filter (is_outside z) c.narrow.new.store) come)
