use Rattle.std.proofs.Common.{ap, map, subst, sym, ◌++◌, ◌∙◌}
use Rattle.std.specs.Prelude.{IsPermutation}
use Rattle.rule_ancestry.specs.Holding.{item_of}
use Rattle.made_rules.specs.Changing.{ChangeOf, IsReady, is_of, settled, wide_of}
use Rattle.made_rules.proofs.Changes.{ready-left, ready-settled}
use Rattle.made_rules.proofs.change.Change.settle.Goals as goal

pub returns-clause-settled : goal.returns-clause-settled
returns-clause-settled c before lost made r =
    let stays = ap (λ (z : ChangeOf). z.stays) c.self.view_is in
    let gone = c.deref.ensures.value ∙ ap (λ (z : ChangeOf). z.gone) c.self.view_is in
    let first = (r.kept ++ r.coming) ++ r.going in
    let n = subst (λ s. IsPermutation c.narrow.new.store (first ++ map is_of s)) stays
    (c.narrow.ensures first (subst (λ s. IsPermutation c.args.store.now (first ++ map wide_of s)) (sym stays) r.is))
    in
    ready-settled before c.args.store.now lost made c.args.self r c.narrow.new.store c.move_all_out.new.store n
    (λ going rest e p. c.move_all_out.ensures.rest going rest (e ∙ sym gone) p)

pub returns-clause-left : goal.returns-clause-left
returns-clause-left c before lost made r =
    let stays = ap (λ (z : ChangeOf). z.stays) c.self.view_is in
    let gone = c.deref.ensures.value ∙ ap (λ (z : ChangeOf). z.gone) c.self.view_is in
    let first = (r.kept ++ r.coming) ++ r.going in
    let n = subst (λ s. IsPermutation c.narrow.new.store (first ++ map is_of s)) stays
    (c.narrow.ensures first (subst (λ s. IsPermutation c.args.store.now (first ++ map wide_of s)) (sym stays) r.is))
    in
    c.move_all_out.ensures.left r.going (settled r) (r.gone ∙ sym gone)
    (ready-left before c.args.store.now lost made c.args.self r c.narrow.new.store n)
    ∙ ap (λ z. z ++ map item_of r.going) c.self.invariant.0
