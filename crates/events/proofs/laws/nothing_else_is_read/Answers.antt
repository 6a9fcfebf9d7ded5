use Rattle.events.proofs.Found.{nothing_else}
use Rattle.events.proofs.laws.nothing_else_is_read.Goals as goal

pub returns : goal.returns
returns c = nothing_else
