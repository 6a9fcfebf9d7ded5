use Rattle.member_state.proofs.LeafFacts.{leaf_is_plain}
use Rattle.member_state.proofs.laws.plain_grants_give_plain_tables.Goals as goal

pub returns : goal.returns
returns c = λ i g v x good few within. leaf_is_plain i g v x good few within
