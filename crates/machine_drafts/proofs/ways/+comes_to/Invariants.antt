use Rattle.machine_drafts.proofs.ways.+comes_to.Given as goal

abbrev pub decreases-comes_to : goal.decreases-comes_to
decreases-comes_to l = l.cables
