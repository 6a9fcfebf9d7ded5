use Rattle.std.proofs.Common.{◌≡◌, ◌++◌, map, take}
use Rattle.std.specs.List.{enumerate_from}
use Rattle.policy_serving.specs.Places.{member_place}
use Rattle.policy_serving.proofs.endpoints.add_members.Given as goal

abbrev pub invariant-loop-n : goal.invariant-loop-n
invariant-loop-n l = l.places ≡ l.fn.places ++ map (member_place l.rounds) (take l.n (enumerate_from 0 l.members))
