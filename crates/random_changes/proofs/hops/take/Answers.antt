use Rattle.random_changes.proofs.Holding.{took-one}
use Rattle.random_changes.proofs.hops.take.Goals as goal

pub returns : goal.returns
returns c =
    took-one c.args.held.now c.remove.new.self c.remove.result c.in_ok-place.place c.remove.ensures.item
    c.remove.ensures.items
