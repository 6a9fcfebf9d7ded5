use Rattle.std.proofs.Common.{◌≡◌, length, ap, sym, ◌∙◌}
use Rattle.std.proofs.lemmas.Result.{IfOk-weaker}
use Rattle.virtual_topology.specs.declared.plan.TopologyPlan.{TopologyPlan}
use Rattle.random_changes.proofs.Holding.{none-held, two-fit}
use Rattle.random_changes.proofs.hops.empty.Goals as goal

pub new-requires-clause-sizes : goal.new-requires-clause-sizes
new-requires-clause-sizes c =
    let two : length c.args.topology.virtuals ≡ 2 =
    sym (ap (λ (p : TopologyPlan). length p.virtuals) c.plan.ensures.plan) ∙ (sym c.len.ensures ∙ c.if-len-ne2.false) in
    ap length c.requires.sizes ∙ sym two

pub new-requires-clause-whole : goal.new-requires-clause-whole
new-requires-clause-whole c =
    let two : length c.args.topology.virtuals ≡ 2 =
    sym (ap (λ (p : TopologyPlan). length p.virtuals) c.plan.ensures.plan) ∙ (sym c.len.ensures ∙ c.if-len-ne2.false) in
    ap length c.requires.whole ∙ sym two

pub new-requires-clause-fits : goal.new-requires-clause-fits
new-requires-clause-fits c = two-fit c.args.topology c.args.sizes c.args.whole c.requires.sizes

pub returns : goal.returns
returns c =
    IfOk-weaker c.new.result _ _
    (λ t h. none-held c.args.topology c.args.sizes c.args.whole t c.requires.sizes c.requires.whole h) c.new.ensures
