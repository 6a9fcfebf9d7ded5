use Rattle.std.proofs.Common.{◌∙◌, ◌≤◌, ◌<◌, List, length, map, ap, sym, subst, take_all}
use Rattle.std.specs.Prelude.{IfSome}
use Rattle.std.specs.List.{All}
use Rattle.virtual_topology.specs.Wires.{Joint}
use Rattle.switch_meaning.specs.declared.wiring.Outside.{Outside}
use Rattle.place_rules.specs.Joined.{outside_from}
use Rattle.place_rules.proofs.Tagged.{tags_in}
use Rattle.place_rules.proofs.joining.outside.Goals as goal

pub returns-clause-tags : goal.returns-clause-tags
returns-clause-tags c =
    let plan = c.args.topology.now in
    let P : List Outside → Type 0 = All (λ (o : Outside). IfSome o.tag (λ t. t < 4096)) in
    let F : List Joint → Type 0 = λ js. length js ≤ 1024 in
    subst P
    (sym (c.loop-joint.invariant
    ∙ ap (map (outside_from plan))
    (take_all c.loop-joint.joint-index c.outside_ports-joint-items.result.now c.loop-joint-test.false
    ∙ c.outside_ports-joint-items.ensures.ports)))
    (tags_in plan (subst F c.outside_ports-joint-items.ensures.ports c.outside_ports-joint-items.ensures.few))
