use Rattle.std.proofs.Common.{arith}
use Rattle.of10_msgs.proofs.Found.{answer_found}
use Rattle.of10_msgs.proofs.reading.read_message.Goals as goal

pub returns-clause-found : goal.returns-clause-found
returns-clause-found c = answer_found c.args.frame.now c.read_frame.result (λ i. omega (arith, c.type_inv.frame i))
    c.requires c.read_frame.ensures
