use Rattle.std.proofs.Common.{◌≡◌, take}
use Rattle.std.specs.Prelude.{filter_map}
use Rattle.std.specs.List.{enumerate_from}
use Rattle.policies.specs.Exprs.{name_at}
use Rattle.policies.proofs.switch_exprs.names.Given as goal

abbrev pub invariant-loop-index : goal.invariant-loop-index
invariant-loop-index l = l.names ≡ filter_map (name_at l.v) (take l.index (enumerate_from 0 l.members))
