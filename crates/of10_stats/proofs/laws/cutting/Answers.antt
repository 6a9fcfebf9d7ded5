use Rattle.of10_stats.proofs.Greedy.{parts_are_all, parts_are_greedy}
use Rattle.of10_stats.proofs.laws.cutting.Goals as goal

pub returns-clause-whole : goal.returns-clause-whole
returns-clause-whole c = parts_are_all

pub returns-clause-greedy : goal.returns-clause-greedy
returns-clause-greedy c = parts_are_greedy
