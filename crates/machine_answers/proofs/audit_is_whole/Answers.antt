use Rattle.machine_answers.proofs.AuditTakings.{whole}
use Rattle.machine_answers.proofs.audit_is_whole.Goals as goal

pub returns : goal.returns
returns c = whole
