use Rattle.std.proofs.Common.{◌∙◌, ap}
use Rattle.of10_match.specs.Same.{same_match}
use Rattle.policy_file.proofs.region.is_normal.Goals as goal

pub returns : goal.returns
returns c = c.eq.ensures ∙ ap (λ n. same_match n c.args.named.now) c.normal.ensures.value
