use Rattle.machine_meaning.specs.Settings.{setting_of}
use Rattle.machine_meaning.proofs.SoundSettings.{sound_tables}
use Rattle.machine_meaning.proofs.laws.states_agree.Goals as goal

pub returns : goal.returns
returns c = λ p h s sound tables installed.
    c.agreement.ensures (setting_of p s) (c.settings_are_sound.ensures p h s (sound_tables p s sound)) tables installed
