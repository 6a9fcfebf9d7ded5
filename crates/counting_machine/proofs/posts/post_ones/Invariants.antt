use Rattle.policy_lock.specs.Seat.{IsSameSeat}
use Rattle.counting_machine.specs.Ones.{HasPostedOnes}
use Rattle.counting_machine.proofs.posts.post_ones.Given as goal

abbrev pub invariant-loop : goal.invariant-loop
invariant-loop g l = IsSameSeat l.initial.seat l.seat × HasPostedOnes l.initial.seat.pass l.seat.pass l.counter
