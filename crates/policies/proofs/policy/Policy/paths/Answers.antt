use Rattle.std.proofs.Common.{◌∙◌, ap}
use Rattle.inner_paths.specs.Cuts.{cut_fault}
use Rattle.policies.proofs.policy.Policy.paths.Goals as goal

pub made_paths-requires : goal.made_paths-requires
made_paths-requires c = ap cut_fault c.in_ok-topology.ensures ∙ c.is_sound.ensures.together.paths
