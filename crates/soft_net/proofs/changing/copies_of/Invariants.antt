use Rattle.std.proofs.Common.{◌≡◌}
use Rattle.std.specs.Prelude.{replicate}
use Rattle.soft_net.proofs.changing.copies_of.Given as goal

-- so many copies are made
abbrev pub invariant-loop-made : goal.invariant-loop-made
invariant-loop-made l = l.copies ≡ replicate l.made l.actions
