use Rattle.std.proofs.Common.{◌≡◌, ◌++◌, drop}
use Rattle.std.specs.Prelude.{filter}
use Rattle.machine_meaning.specs.Lists.{places}
use Rattle.machine_meaning.specs.Ways.{is_switch_by, switches_by}
use Rattle.machine_drafts.proofs.ways.switches_among.Given as goal

-- those so far, and then those of the switches that are left
abbrev pub invariant-loop-n : goal.invariant-loop-n
invariant-loop-n l =
    l.switches ++ filter (is_switch_by l.topology l.wiring l.group l.v) (drop l.n (places l.topology.switches))
    ≡ switches_by l.topology l.wiring l.group l.v
