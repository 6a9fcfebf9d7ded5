use Rattle.member_state.proofs.LeafFacts.{leaf_keeps_to}
use Rattle.member_state.proofs.laws.members_keep_to_ports.Goals as goal

pub returns : goal.returns
returns c = λ i g v x ports good within visible. leaf_keeps_to i g v x ports good within visible
