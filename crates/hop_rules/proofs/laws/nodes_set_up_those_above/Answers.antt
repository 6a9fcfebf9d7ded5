use Rattle.hop_rules.proofs.Stage.{set-up}
use Rattle.hop_rules.proofs.laws.nodes_set_up_those_above.Goals as goal

pub returns : goal.returns
returns c f own n below v given links once places read rules nodes fits =
    set-up f own n below v given links once places read rules nodes fits
