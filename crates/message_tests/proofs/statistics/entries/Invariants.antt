use Rattle.std.proofs.Common.{All}
use Rattle.of10_stats.specs.Ranges.{CanWriteEntry}
use Rattle.message_tests.proofs.statistics.entries.Given as goal

abbrev pub invariant-loop : goal.invariant-loop
invariant-loop l = All CanWriteEntry l.entries
