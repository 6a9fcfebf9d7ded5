use Rattle.std.proofs.Common.{◌≡◌, ◌++◌, drop}
use Rattle.std.specs.Prelude.{filter}
use Rattle.machine_drafts.specs.InsideSwitches.{is_dark_over}
use Rattle.machine_drafts.specs.Outcomes.{switches_in}
use Rattle.machine_drafts.proofs.looking.dark_among.Given as goal

abbrev pub invariant-loop-port : goal.invariant-loop-port
invariant-loop-port l =
    l.dark ++ filter (is_dark_over l.topology (switches_in l.switches) l.v) (drop l.port-index l.outside)
    ≡ filter (is_dark_over l.topology (switches_in l.switches) l.v) l.outside
