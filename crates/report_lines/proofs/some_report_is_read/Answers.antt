use Rattle.std.proofs.Common.{refl}
use Rattle.hex.proofs.OnLiterals.{hex_on_literals}
use Rattle.report_lines.proofs.some_report_is_read.Goals as goal

pub returns : goal.returns
unfolding hex_on_literals
returns c = record { switch = refl; longer = refl; member = refl; nobody = refl }
