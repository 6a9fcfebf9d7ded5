use Rattle.serving.proofs.Taken.{cut}
use Rattle.serving.proofs.laws.cut_only_where_closed.Goals as goal

pub returns : goal.returns
returns g c = cut g.H.Machine.Machine g.C.Clock.may
