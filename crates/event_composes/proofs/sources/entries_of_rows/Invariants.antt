use Rattle.std.proofs.Common.{◌≡◌, map}
use Rattle.install_plan.specs.Tables.{entry_of}
use Rattle.event_composes.proofs.sources.entries_of_rows.Given as goal

abbrev pub invariant-loop-written : goal.invariant-loop-written
invariant-loop-written l = l.entries ≡ map entry_of l.yielded
