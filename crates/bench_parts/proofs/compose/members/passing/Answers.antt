use Rattle.bench_parts.proofs.Entries.{builds-none}
use Rattle.bench_parts.proofs.compose.members.passing.Goals as goal

pub returns : goal.returns
returns c = builds-none c.new-outs.result _ c.new-outs.ensures
