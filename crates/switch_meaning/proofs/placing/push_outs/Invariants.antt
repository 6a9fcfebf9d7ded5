use Rattle.std.proofs.Common.{◌≡◌, ◌++◌, drop, None}
use Rattle.of10_actions.specs.Rewriting.{no_rewrite}
use Rattle.switch_meaning.specs.Placing.{actions_from}
use Rattle.switch_meaning.proofs.placing.push_outs.Given as goal

-- what was appended, and then the actions of the outs that are left
abbrev pub invariant-loop-out : goal.invariant-loop-out
invariant-loop-out l =
    l.actions ++ actions_from l.wiring l.switch l.ingress l.force.rewrite l.force.tag (drop l.out-index l.out-items)
    ≡ l.initial.actions ++ actions_from l.wiring l.switch l.ingress no_rewrite None l.out-items
