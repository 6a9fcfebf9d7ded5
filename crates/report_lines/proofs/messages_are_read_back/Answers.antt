use Rattle.report_lines.proofs.Digits.{messages_read}
use Rattle.report_lines.proofs.messages_are_read_back.Goals as goal

pub returns : goal.returns
returns c = messages_read
