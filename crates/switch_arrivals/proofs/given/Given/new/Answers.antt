use Rattle.switch_arrivals.proofs.Apart.{apart_none}
use Rattle.switch_arrivals.proofs.given.Given.new.Goals as goal

pub invariant_of-result : goal.invariant_of-result
invariant_of-result g c = rw c.new.ensures (apart_none g.row.L.Denot g.row.C.Denot)
