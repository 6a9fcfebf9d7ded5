use Rattle.machine_meaning.proofs.Soundness.{soundness_kept}
use Rattle.machine_meaning.proofs.laws.soundness_is_kept.Goals as goal

pub returns : goal.returns
returns c = soundness_kept c.order_is_free.ensures.batch c.settings_are_sound.ensures
