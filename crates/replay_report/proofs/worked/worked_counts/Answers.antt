use Rattle.replay_report.specs.Worked.{counts_are_so}
use Rattle.replay_report.proofs.worked.worked_counts.Goals as goal

pub returns : goal.returns
returns c = counts_are_so
