use Rattle.std.proofs.Common.{◌≡◌, map, take}
use Rattle.machine_drafts.specs.Setups.{is_seen}
use Rattle.machine_drafts.proofs.setup.seen.Given as goal

abbrev pub invariant-loop-all : goal.invariant-loop-all
invariant-loop-all l = l.seen ≡ map (is_seen l.members) (take l.all-index l.ports)
