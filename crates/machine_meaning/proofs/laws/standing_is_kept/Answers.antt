use Rattle.machine_meaning.proofs.StandingKept.{standing_kept}
use Rattle.machine_meaning.proofs.laws.standing_is_kept.Goals as goal

pub returns : goal.returns
returns c = standing_kept c.order_is_free.ensures.batch c.settings_are_sound.ensures
