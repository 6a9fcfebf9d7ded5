use Rattle.random_changes.proofs.hops.turn_copy.Goals as goal

pub returns : goal.returns
returns g c = c.turn_either.ensures
