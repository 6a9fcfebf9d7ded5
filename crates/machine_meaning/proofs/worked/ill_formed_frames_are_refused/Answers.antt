use Rattle.machine_meaning.specs.WorkedRefusals.{ill_formed_refused}
use Rattle.machine_meaning.proofs.worked.ill_formed_frames_are_refused.Goals as goal

pub returns : goal.returns
returns c = ill_formed_refused
