use Rattle.setting_laws.proofs.Drafted.{sound_serials}
use Rattle.setting_laws.proofs.laws.sound_tables_have_serials.Goals as goal

pub returns : goal.returns
returns c = sound_serials
