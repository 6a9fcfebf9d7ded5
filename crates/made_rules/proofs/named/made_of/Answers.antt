use Rattle.std.proofs.Common.{◌≤◌, arith, length, subst, take}
use Rattle.std.proofs.lemmas.List.{take_all}
use Rattle.std.proofs.lemmas.List.Filters.{dedup_is}
use Rattle.made_rules.proofs.Naming.{AreMadeOf, bears-same, made-more, made-none, named-all}
use Rattle.made_rules.proofs.named.made_of.Goals as goal

pub loop-origin-init : goal.loop-origin-init
loop-origin-init c = made-none c.args.store.now c.new-ids.result.items c.new-ids.ensures.items

pub loop-origin-preserved : goal.loop-origin-preserved
loop-origin-preserved c =
    made-more c.args.store.now c.args.origins.now c.loop-origin.origin-index _ c.loop-origin.ids.items
    c.in_ok-more.more.items c.append.new.self.items _ c.loop-origin-test.true c.loop-origin.invariant
    (λ h. bears-same _ h.item.origins) c.in_ok-more.ensures c.in_ok-append.ensures.items

pub returns : goal.returns
returns c =
    let past : length c.args.origins.now ≤ c.loop-origin.origin-index = let t = c.loop-origin-test.false in
    omega arith in
    named-all c.args.store.now c.args.origins.now c.loop-origin.ids.items c.sort.new.self.items c.dedup.new.self.items
    c.len-count.ensures.rising
    (subst (λ z. AreMadeOf c.args.store.now z c.loop-origin.ids.items)
    (take_all c.loop-origin.origin-index c.args.origins.now past) c.loop-origin.invariant)
    c.in_ok-sort.ensures.permutation c.in_ok-sort.ensures.sorted (dedup_is _ _ _ c.dedup.ensures.filtered)
