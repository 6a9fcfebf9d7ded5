use Rattle.std.proofs.Common.{◌≡◌, ◌∙◌, ◌*◌, ◌++◌, ℕ, [], ◌∷◌, sym, ap, map}
use Rattle.alg_priority.specs.Levels.{capped}
use Rattle.virtual_topology.specs.declared.plan.VirtualPort.{VirtualPort}
use Rattle.policies.specs.Widths.{beyond, greatest, number_at, over_hop}
use Rattle.policies.proofs.Widths.{one_virtual_more}
use Rattle.policies.proofs.wide.with_a_hop.Goals as goal

pub loop-v-preserved : goal.loop-v-preserved
loop-v-preserved c =
    let f = over_hop c.args.topology.now c.args.sizes.now (number_at c.args.needed.now) in
    let x = c.index-virtuals-v.result in
    let most : c.most_beyond-most.result
    ≡ greatest
    (map (λ (p : VirtualPort). beyond c.args.topology.now (number_at c.args.needed.now) c.loop-v.v p.port) x.ports)
    =
    c.most_beyond-most.ensures
    ∙ ap (λ (k : ℕ). greatest
    (map (λ (p : VirtualPort). beyond c.args.topology.now (number_at c.args.needed.now) k p.port) x.ports))
    c.in_ok-place.ensures in
    let own = c.number_at-own.ensures in
    let size : c.size_concat-size.result ≡ f (c.loop-v.v, x) = c.size_concat-size.ensures
    ∙ (λ i. capped (own i * most i)) in
    c.in_ok-push.ensures.items
    ∙ ((λ i. c.loop-v.invariant i ++ size i ∷ [])
    ∙ sym (one_virtual_more f c.args.virtuals.now c.loop-v.v x c.loop-v-test.true c.index-virtuals-v.is))
