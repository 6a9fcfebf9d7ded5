use Rattle.std.proofs.lemmas.Result.{on_ok_weaker}
use Rattle.random_changes.proofs.Holding.{gone-there, holds-after, is-change, may-come, others-hold}
use Rattle.random_changes.proofs.hops.turn.Goals as goal

pub apply-deltas-requires-clause-lost : goal.apply-deltas-requires-clause-lost
apply-deltas-requires-clause-lost g c = c.requires.kept

pub apply-deltas-requires-clause-there : goal.apply-deltas-requires-clause-there
apply-deltas-requires-clause-there g c = c.requires.there

pub apply-deltas-requires-clause-gone : goal.apply-deltas-requires-clause-gone
apply-deltas-requires-clause-gone g c w =
    gone-there c.args.table.now c.args.v c.args.held.now c.take-goes.new.held c.in_ok-delta.delta.gone
    c.take-goes.result c.requires c.in_ok-delta.ensures.gone
    c.take-goes.ensures

pub apply-deltas-requires-clause-come : goal.apply-deltas-requires-clause-come
apply-deltas-requires-clause-come g c w =
    may-come c.args.table.now c.args.v c.args.held.now c.in_ok-delta.delta.come c.fitting-comes.result c.requires
    c.in_ok-delta.ensures.come
    c.fitting-comes.ensures

pub returns-clause-own : goal.returns-clause-own
returns-clause-own g c =
    on_ok_weaker c.apply-deltas.result
    (λ h. holds-after c.args.table.now c.apply-deltas.new.self c.args.v c.in_ok-delta.delta.gone
    c.in_ok-delta.delta.come c.args.held.now c.put.new.held c.requires h
    (is-change c.args.held.now c.take-goes.new.held c.put.new.held c.in_ok-delta.delta.gone c.in_ok-delta.delta.come
    c.take-goes.result c.fitting-comes.result
    c.in_ok-delta.ensures.gone c.in_ok-delta.ensures.come c.take-goes.ensures c.in_ok-put.ensures))
    (c.apply-deltas.ensures.handed c.requires.parted)

pub returns-clause-others : goal.returns-clause-others
returns-clause-others g c =
    on_ok_weaker c.apply-deltas.result
    (λ h u rules e i. others-hold c.args.table.now c.apply-deltas.new.self c.args.v u c.in_ok-delta.delta.gone
    c.in_ok-delta.delta.come rules e h i)
    (c.apply-deltas.ensures.handed c.requires.parted)
