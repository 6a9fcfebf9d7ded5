use Rattle.bench_parts.proofs.Entries.{builds-one}
use Rattle.bench_parts.proofs.compose.members.leaving.Goals as goal

pub returns : goal.returns
returns c = builds-one _ _ _ c.new-outs.ensures c.in_ok-push.ensures.pushed c.new.ensures
