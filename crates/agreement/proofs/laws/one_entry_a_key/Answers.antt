use Rattle.agreement.proofs.Twins.{no-twins, one-entry-a-key}
use Rattle.agreement.proofs.laws.one_entry_a_key.Goals as goal

pub returns-clause-twins : goal.returns-clause-twins
returns-clause-twins c = no-twins

pub returns-clause-installed : goal.returns-clause-installed
returns-clause-installed c = one-entry-a-key
