use Rattle.packet_map.proofs.walking.+follow.Given as goal

abbrev pub decreases-follow : goal.decreases-follow
decreases-follow l = l.hops
