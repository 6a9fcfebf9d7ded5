use Rattle.std.proofs.Common.{◌∙◌, false, ap, sym}
use Rattle.std.specs.Option.{option_copied}
use Rattle.std.proofs.lemmas.Result.{IfOk-weaker}
use Rattle.policy_expr.specs.Policy.{member}
use Rattle.policy_meaning.specs.Networks.{ports_of}
use Rattle.policy_setting.specs.Networks.{virtual_switch}
use Rattle.virtual_topology.specs.declared.plan.TopologyPlan.{TopologyPlan}
use Rattle.event_composes.proofs.Ported.{ports_nowhere, ports_there}
use Rattle.event_composes.proofs.turning.ports.Goals as goal

pub returns-in_default : goal.returns-in_default
returns-in_default c =
    ports_nowhere c.args.setup.now c.args.v _ (sym c.virtual_at.ensures ∙ ap option_copied c.in_default.is)

pub returns : goal.returns
returns c =
    let v = c.args.v in
    let item = c.in-Some.item.now in
    IfOk-weaker c.ports-ports.result _ _
    (λ ports is. ports_there c.args.setup.now v item (member 0) false ports
    (sym c.virtual_at.ensures ∙ ap option_copied c.in-Some.is)
    (is ∙ (ap ports_of c.in_ok-switch.ensures
    ∙ ap (λ (t : TopologyPlan). ports_of (virtual_switch t (member 0) false (v, item))) c.topology.ensures)))
    c.ports-ports.ensures
