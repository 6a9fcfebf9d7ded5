use Rattle.std.proofs.Common.{◌≡◌, take}
use Rattle.std.specs.Prelude.{filter_map}
use Rattle.std.specs.List.{enumerate_from}
use Rattle.hop_rules.specs.Links.{exit_at}
use Rattle.hop_rules.proofs.exits.exits.Given as goal

abbrev pub invariant-loop-place : goal.invariant-loop-place
invariant-loop-place l = l.exits ≡ filter_map (exit_at l.v) (take l.place (enumerate_from 0 l.ends))
