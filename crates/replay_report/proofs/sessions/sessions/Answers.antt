use Rattle.std.proofs.Common.{◌∙◌, ap, arith}
use Rattle.policies.specs.Policies.{PolicyOf, plan}
use Rattle.virtual_topology.proofs.Counted.{few_switches}
use Rattle.replay_report.proofs.sessions.sessions.Goals as goal

pub add_switches-requires : goal.add_switches-requires
add_switches-requires c =
    let few = few_switches (plan c.args.policy.now) c.is_sound.ensures.together.topology in
    let same = c.as_slice-2.ensures ∙ ap (λ (p : PolicyOf). p.switches) c.policy.view_is in
    rw same (omega arith)
