use Rattle.covisor_proxy.specs.BuiltIn.{built_in_read}
use Rattle.covisor_proxy.proofs.opening.open_built_in.Goals as goal

pub returns : goal.returns
unfolding built_in_read
returns c = c.built_in.ensures
