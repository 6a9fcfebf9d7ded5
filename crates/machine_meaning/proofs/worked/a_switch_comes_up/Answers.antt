use Rattle.machine_meaning.specs.WorkedEntries.{switch_comes_up}
use Rattle.machine_meaning.proofs.worked.a_switch_comes_up.Goals as goal

pub returns : goal.returns
returns c = switch_comes_up
