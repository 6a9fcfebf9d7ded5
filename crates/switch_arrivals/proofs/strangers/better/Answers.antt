use Rattle.std.proofs.Common.{arith}
use Rattle.switch_arrivals.proofs.Crowds.{keeps, takes}
use Rattle.switch_arrivals.proofs.strangers.better.Goals as goal

pub returns-then-size-most : goal.returns-then-size-most
returns-then-size-most g c =
    takes c.args.strangers.now c.args.at c.args.place c.crowd_of-size.result c.crowd_of-most.result c.requires.best
    c.crowd_of-size.ensures c.crowd_of-most.ensures (omega arith)

pub returns : goal.returns
returns g c =
    keeps c.args.strangers.now c.args.at c.args.place c.crowd_of-size.result c.crowd_of-most.result c.requires.best
    c.crowd_of-size.ensures c.crowd_of-most.ensures (omega arith)
