use Rattle.written_tables.proofs.Waiting.{put_waits}
use Rattle.written_tables.proofs.laws.what_is_put_waits.Goals as goal

pub returns : goal.returns
returns c = put_waits
