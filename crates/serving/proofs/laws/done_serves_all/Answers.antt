use Rattle.serving.proofs.Taken.{done}
use Rattle.serving.proofs.laws.done_serves_all.Goals as goal

pub returns : goal.returns
returns g c = done g.H.Machine.Machine g.C.Clock.may
