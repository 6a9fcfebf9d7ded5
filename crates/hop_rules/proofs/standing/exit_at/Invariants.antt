use Rattle.std.proofs.Common.{◌≡◌, drop}
use Rattle.hop_rules.specs.Standing.{exit_of}
use Rattle.hop_rules.proofs.standing.exit_at.Given as goal

abbrev pub invariant-loop-exit : goal.invariant-loop-exit
invariant-loop-exit l = exit_of (drop l.exit-index l.exits) l.port ≡ exit_of l.exits l.port
