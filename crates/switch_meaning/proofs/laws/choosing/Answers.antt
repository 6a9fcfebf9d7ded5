use Rattle.switch_meaning.specs.Choosing.{table_at}
use Rattle.switch_meaning.proofs.Highest.{highest-may}
use Rattle.switch_meaning.proofs.laws.choosing.Goals as goal

pub returns : goal.returns
returns c = λ tables reading way switch h. highest-may reading (table_at tables switch) h
