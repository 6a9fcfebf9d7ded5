use Rattle.std.proofs.Common.{◌≡◌, ◌++◌, drop, None}
use Rattle.of10_actions.specs.Rewriting.{no_rewrite}
use Rattle.place_rules.specs.InsideActions.{actions_by, way_kept}
use Rattle.place_rules.specs.Joined.{wiring_of}
use Rattle.place_rules.proofs.actions.push_outs.Given as goal

-- what was appended, and then the actions of the outs that are left
abbrev pub invariant-loop-out : goal.invariant-loop-out
invariant-loop-out l =
    l.actions ++ actions_by (way_kept (wiring_of l.topology) l.site l.in_port l.ingress) l.force.rewrite l.force.tag
    (drop l.out-index l.outs)
    ≡ l.initial.actions ++ actions_by (way_kept (wiring_of l.topology) l.site l.in_port l.ingress) no_rewrite None
    l.outs
