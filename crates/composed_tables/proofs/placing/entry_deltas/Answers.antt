use Rattle.std.proofs.Common.{List, [], ◌∷◌, ◌++◌, ap, sym, ◌∙◌, arith}
use Rattle.std.proofs.lemmas.List.FromFn.{map-range_with_len_more}
use Rattle.exact_gate.specs.declared.delta.GateDelta.{GateDelta}
use Rattle.composed_tables.specs.Placing.{entry_delta}
use Rattle.composed_tables.proofs.placing.entry_deltas.Goals as goal

pub loop-n-preserved : goal.loop-n-preserved
loop-n-preserved c =
    let f = entry_delta c.args.wiring.now c.args.switches.now c.args.deltas.now in
    c.in_ok-push.ensures.pushed
    ∙ (ap (λ (z : GateDelta). c.loop-n.all ++ z ∷ []) c.in_ok-entry_delta.ensures
    ∙ (ap (λ (z : List GateDelta). z ++ f c.loop-n.n ∷ []) c.loop-n.invariant
    ∙ sym (map-range_with_len_more f 0 c.loop-n.n c.loop-n.n (omega arith))))
