use Rattle.std.proofs.Common.{◌≡◌, map}
use Rattle.hop_rules.specs.declared.level.Told.{Told}
use Rattle.hop_rules.proofs.parts.turns_of.Given as goal

abbrev pub invariant-loop-told : goal.invariant-loop-told
invariant-loop-told l = l.turns.items ≡ map (λ (t : Told). t.turn) l.yielded
