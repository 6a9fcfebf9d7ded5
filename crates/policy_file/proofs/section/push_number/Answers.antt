use Rattle.std.proofs.Common.{◌∙◌, sym, subst, arith}
use Rattle.std.proofs.lemmas.Fmt.{IsAscii-decimal}
use Rattle.std.proofs.lemmas.Str.Ascii.{All-from_ascii}
use Rattle.std.specs.Fmt.{decimal}
use Rattle.cv_io.specs.Text.{IsAsciiText}
use Rattle.policy_file.proofs.section.push_number.Goals as goal

pub from_slice-requires : goal.from_slice-requires
from_slice-requires c =
    subst IsAsciiText (sym (c.as_bytes.ensures.value ∙ c.in_ok-digits.ensures.ok))
    (All-from_ascii (decimal c.args.number) (IsAscii-decimal c.args.number (omega arith)))
