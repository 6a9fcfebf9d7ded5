use Rattle.explain_text.proofs.Highest.{used_is_best}
use Rattle.explain_text.proofs.using.used_is_best.Goals as goal

pub returns : goal.returns
returns c = used_is_best
