use Rattle.bench_parts.proofs.Entries.{AreNumbered}
use Rattle.bench_parts.proofs.compose.asked.Asked.entries.Given as goal

abbrev pub invariant-loop-number : goal.invariant-loop-number
invariant-loop-number l = AreNumbered l.number l.entries
