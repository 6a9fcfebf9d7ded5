use Rattle.std.proofs.Common.{◌≡◌, ℕ, List, ◌+◌, ◌-◌, ◌*◌, drop}
use Rattle.switch_meaning.specs.Choosing.{chosen}
use Rattle.switch_meaning.specs.Following.{all_go, both_seen, follow}
use Rattle.switch_meaning.proofs.following.Switches.+following.Given as goal

abbrev pub decreases-go : goal.decreases-go
decreases-go l = 2 * l.turns + 1

abbrev pub decreases-take_up : goal.decreases-take_up
decreases-take_up l = 2 * l.turns

-- what was appended, and then what the outs that are left give
abbrev pub invariant-take_up-loop-out : goal.invariant-take_up-loop-out
invariant-take_up-loop-out l =
    (way : List ℕ) →
    both_seen l.seen (all_go l.self.wiring (follow l.self.wiring (chosen l.self.tables l.self.reading) (l.turns - 1))
    way l.switch l.out-index (drop l.out-index l.out-items))
    ≡ both_seen l.initial.seen
    (all_go l.self.wiring (follow l.self.wiring (chosen l.self.tables l.self.reading) (l.turns - 1)) way l.switch 0
    l.out-items)
