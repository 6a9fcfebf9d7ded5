use Rattle.std.proofs.Common.{subst, sym}
use Rattle.std.specs.List.{AllByRecursion}
use Rattle.policy_meaning.specs.LeafFact.{IsSoundTable}
use Rattle.bench_parts.proofs.compose.asked.Asked.tables.Goals as goal

pub returns : goal.returns
returns c = subst (AllByRecursion IsSoundTable) (sym c.in_ok-tables.ensures)
    (c.in_ok-first.ensures, (c.in_ok-second.ensures, tt))
