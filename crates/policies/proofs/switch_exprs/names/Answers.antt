use Rattle.std.proofs.Common.{◌∙◌, ap, arith}
use Rattle.std.specs.Prelude.{filter_map}
use Rattle.policies.specs.Exprs.{name_at}
use Rattle.policies.proofs.Numbered.{numbered_some}
use Rattle.virtual_topology.proofs.Steps.{numbered_all}
use Rattle.policies.proofs.switch_exprs.names.Goals as goal

pub loop-index-preserved : goal.loop-index-preserved
loop-index-preserved c =
    numbered_some (name_at c.args.v) c.args.members.now c.loop-index.index c.index-members-index.result
    c.loop-index.names c.push_some.new.self c.in_ok-name.name
    c.loop-index-test.true c.index-members-index.is c.loop-index.invariant c.in_ok-name.ensures
    c.in_ok-push_some.ensures.pushed

pub returns : goal.returns
returns c = c.loop-index.invariant ∙ ap (filter_map (name_at c.args.v))
    (numbered_all c.args.members.now c.loop-index.index (omega (arith, c.loop-index-test.false)))
