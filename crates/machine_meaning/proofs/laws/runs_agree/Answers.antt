use Rattle.machine_meaning.proofs.Soundness.{runs_agree}
use Rattle.machine_meaning.proofs.laws.runs_agree.Goals as goal

pub returns : goal.returns
returns c = runs_agree c.soundness_is_kept.ensures c.states_agree.ensures c.standing_is_installed.ensures
