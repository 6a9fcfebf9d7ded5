use Rattle.std.proofs.Common.{◌∙◌, ap, arith}
use Rattle.policies.specs.Policies.{PolicyOf, plan}
use Rattle.virtual_topology.proofs.Counted.{few_virtuals}
use Rattle.replay_report.proofs.telling.Stage.virtual_named.Goals as goal

pub find_virtual-requires : goal.find_virtual-requires
find_virtual-requires c =
    let few = few_virtuals (plan c.args.self.now.machine.plan) c.policy.ensures.sound.together.topology in
    let same = c.as_slice.ensures ∙ ap (λ (p : PolicyOf). p.virtuals)
    (c.behind-self.view_is ∙ c.policy.ensures.policy) in
    rw same (omega arith)
