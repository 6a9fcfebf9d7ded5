use Rattle.std.proofs.Common.{◌≡◌, ◌++◌, take, map}
use Rattle.of10_actions.specs.Effects.{outs_of}
use Rattle.of10_actions.specs.declared.effects.Dest.TheVariants.{Flood}
use Rattle.of10_actions.proofs.meaning.flood.Given as goal

abbrev pub invariant-loop-port : goal.invariant-loop-port
invariant-loop-port l = l.outs ≡ l.initial.outs ++ outs_of l.rewrite
    (map (λ port. Flood l.ports.v port) (take l.port-index l.port-items))
