use Rattle.setting_laws.proofs.Drafted.{drafts_ready}
use Rattle.setting_laws.proofs.laws.drafts_are_ready.Goals as goal

pub returns : goal.returns
returns c = drafts_ready c.settings_are_ready.ensures c.drafts_are_sound.ensures
