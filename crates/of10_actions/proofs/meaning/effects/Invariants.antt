use Rattle.std.proofs.Common.{◌≡◌, drop}
use Rattle.of10_actions.specs.Effects.{effects_from, effects_of, outs_before}
use Rattle.of10_actions.proofs.meaning.effects.Given as goal

abbrev pub invariant-loop-action : goal.invariant-loop-action
invariant-loop-action l =
    outs_before l.outs (effects_from l.ports l.member l.rewrite (drop l.action-index l.action-items))
    ≡ effects_of l.ports l.member l.action-items
