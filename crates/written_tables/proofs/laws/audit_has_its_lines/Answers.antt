use Rattle.written_tables.proofs.AuditLines.{audit_has_lines}
use Rattle.written_tables.proofs.laws.audit_has_its_lines.Goals as goal

pub returns : goal.returns
returns c = audit_has_lines
