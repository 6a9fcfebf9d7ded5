use Rattle.switch_meaning.proofs.fixed.+comes_by.Given as goal

abbrev pub decreases-comes_by : goal.decreases-comes_by
decreases-comes_by l = l.cables
