use Rattle.setting_laws.proofs.Mixed.{mixtures_turn as mixtures-turn}
use Rattle.setting_laws.proofs.laws.mixtures_turn.Goals as goal

pub returns : goal.returns
returns c =
    mixtures-turn c.settings_are_ready.ensures c.members_change.ensures c.changes_can_be_taken.ensures
