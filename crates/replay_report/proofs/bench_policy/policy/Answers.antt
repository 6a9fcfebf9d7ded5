use Rattle.replay_report.specs.Bench.{bench_read}
use Rattle.replay_report.proofs.bench_policy.policy.Goals as goal

pub returns : goal.returns
unfolding bench_read
returns c = c.bench.ensures
