use Rattle.std.proofs.Common.{◌∙◌, ◌++◌, ap, sym, arith}
use Rattle.std.proofs.lemmas.List.{length_push}
use Rattle.hop_rules.specs.Levels.{stand_at}
use Rattle.hop_rules.specs.Nodes.{held_at}
use Rattle.hop_rules.specs.Telling.{delta_if}
use Rattle.hop_rules.proofs.Deltas.{deltas-push}
use Rattle.hop_rules.proofs.telling.port_deltas.Goals as goal

pub loop-told-preserved : goal.loop-told-preserved
loop-told-preserved c =
    let level = c.args.level.now in
    let n = c.loop-told.number in
    let inv = c.loop-told.invariant in
    let told = c.in-Some.told in
    record {
      number = let l = length_push c.loop-told.yielded told in let i = inv.number in omega arith;
      left = let s = c.in-Some.ensures.steps.1 in let i = inv.left in omega arith;
      deltas =
          c.in_ok-add_delta_at.ensures
          ∙ ap (λ z. z ++ delta_if (stand_at level.stands n).at (held_at level.nodes n) told) inv.deltas
          ∙ sym (deltas-push level.stands level.nodes c.loop-told.yielded told 0 n (let i = inv.number in omega arith));
    }
