use Rattle.std.proofs.Common.{◌≡◌, map, take}
use Rattle.policy_serving.specs.Places.{dpid_of}
use Rattle.policy_serving.proofs.endpoints.dpids.Given as goal

abbrev pub invariant-loop-switch : goal.invariant-loop-switch
invariant-loop-switch l = l.dpids ≡ map dpid_of (take l.switch-index l.switches)
