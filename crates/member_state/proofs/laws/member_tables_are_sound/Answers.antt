use Rattle.member_state.proofs.LeafFacts.{leaf_is_sound}
use Rattle.member_state.proofs.laws.member_tables_are_sound.Goals as goal

pub returns : goal.returns
returns c = λ i g x good state. leaf_is_sound i g x good state
