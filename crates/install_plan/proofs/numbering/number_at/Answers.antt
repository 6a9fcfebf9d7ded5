use Rattle.std.proofs.Common.{rules}
use Rattle.install_plan.proofs.numbering.number_at.Goals as goal

pub returns-in-Some-clause-entries : goal.returns-in-Some-clause-entries
returns-in-Some-clause-entries c = (c.number_slot.new.slot.cookie, search rules)
