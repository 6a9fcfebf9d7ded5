use Rattle.explain_path.proofs.explaining.+follow.Given as goal

abbrev pub decreases-follow : goal.decreases-follow
decreases-follow l = l.hops
