use Rattle.covisor_proxy.specs.Following.{IsBegun}
use Rattle.covisor_proxy.proofs.forms.begin.Goals as goal

pub returns-clause-begins : goal.returns-clause-begins
unfolding IsBegun
returns-clause-begins g c = c.open.ensures.begins
