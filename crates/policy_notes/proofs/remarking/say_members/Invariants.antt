use Rattle.std.proofs.Common.{◌≡◌, ◌++◌, drop, map}
use Rattle.std.specs.List.{enumerate_from}
use Rattle.policy_expr.specs.Policy.{policy_of}
use Rattle.policy_notes.specs.Remarks.{each_remarks}
use Rattle.policy_notes.proofs.remarking.say_members.Given as goal

abbrev pub invariant-loop-member : goal.invariant-loop-member
invariant-loop-member l =
    (l.n ≡ l.member-index)
    × (l.text ++ each_remarks l.members (map policy_of l.exprs) (enumerate_from l.n (drop l.member-index l.members))
    ≡ l.initial.text ++ each_remarks l.members (map policy_of l.exprs) (enumerate_from 0 l.members))
