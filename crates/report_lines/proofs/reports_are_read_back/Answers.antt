use Rattle.report_lines.proofs.ReadingBack.{reports_read}
use Rattle.report_lines.proofs.reports_are_read_back.Goals as goal

pub returns : goal.returns
returns c = reports_read
