use Rattle.std.proofs.Common.{◌∙◌, ap}
use Rattle.exact_gate.specs.InsideChanges.{noted}
use Rattle.exact_gate.proofs.Noting.{noted-inserted}
use Rattle.exact_gate.proofs.touched.note.Goals as goal

pub returns : goal.returns
returns c k = ap (λ keys. noted keys k) c.in_ok-insert.ensures.keys ∙ noted-inserted c.args.keys.now.keys c.args.key k
