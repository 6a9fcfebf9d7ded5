use Rattle.std.proofs.Common.{ap, ◌∙◌, take}
use Rattle.std.proofs.lemmas.List.{take_min}
use Rattle.policy_lock.proofs.after.first_of.Goals as goal

pub returns : goal.returns
returns g c = ap (λ n. take n c.args.items.now) c.min.ensures ∙ take_min 256 c.args.items.now
