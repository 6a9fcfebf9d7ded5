use Rattle.setting_laws.proofs.Drafted.{drafts_sound}
use Rattle.setting_laws.proofs.laws.drafts_are_sound.Goals as goal

pub returns : goal.returns
returns c = drafts_sound c.heard_is_sound.ensures c.settled_is_sound.ensures
