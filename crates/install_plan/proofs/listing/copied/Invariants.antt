use Rattle.std.proofs.Common.{◌≡◌, ◌++◌}
use Rattle.install_plan.proofs.listing.copied.Given as goal

abbrev pub invariant-loop-key : goal.invariant-loop-key
invariant-loop-key g l = l.copied.entries ++ l.key-iterator ≡ l.map.entries
