use Rattle.inner_paths.specs.declared.fault.PathFault.TheVariants.{Memory}
use Rattle.inner_paths.specs.Cuts.{cut_fault}
use Rattle.policies.proofs.Outcomes.{only_memory}
use Rattle.policies.proofs.policy.made_paths.Goals as goal

pub wanted_by_paths-requires : goal.wanted_by_paths-requires
wanted_by_paths-requires c = only_memory Memory c.in-Err.fault (cut_fault c.args.topology.now) c.in-Err.ensures.fault
    c.requires
