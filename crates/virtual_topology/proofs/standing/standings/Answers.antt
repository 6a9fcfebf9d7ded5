use Rattle.std.proofs.Common.{◌∙◌, ap, map, ◌++◌, ◌∷◌, [], sym, arith}
use Rattle.virtual_topology.specs.Made.{standing_of}
use Rattle.virtual_topology.proofs.Steps.{numbered_all, numbered_mapped}
use Rattle.virtual_topology.proofs.standing.standings.Goals as goal

pub loop-number-preserved : goal.loop-number-preserved
loop-number-preserved c = λ cables ways.
    c.in_ok-push.ensures.items
    ∙ ((λ i. c.loop-number.invariant cables ways i ++ (c.in_ok-standing_at.ensures cables ways i ∷ []))
    ∙ sym (numbered_mapped (standing_of c.args.known.now cables c.args.outside.now) c.args.virtuals.now
    c.loop-number.number c.index-virtuals-number.result c.loop-number-test.true c.index-virtuals-number.is))

pub returns : goal.returns
returns c = λ cables ways.
    c.loop-number.invariant cables ways
    ∙ ap (map (standing_of c.args.known.now cables c.args.outside.now))
    (numbered_all c.args.virtuals.now c.loop-number.number (omega (arith, c.loop-number-test.false)))
