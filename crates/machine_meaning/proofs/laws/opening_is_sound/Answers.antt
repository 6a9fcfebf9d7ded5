use Rattle.machine_meaning.proofs.Opening.{opening_sound}
use Rattle.machine_meaning.proofs.laws.opening_is_sound.Goals as goal

pub returns : goal.returns
returns c = opening_sound
