use Rattle.machine_meaning.proofs.Writable.{states_writable}
use Rattle.machine_meaning.proofs.laws.states_are_writable.Goals as goal

pub returns : goal.returns
returns c = states_writable c.settings_are_sound.ensures
