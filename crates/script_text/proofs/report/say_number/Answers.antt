use Rattle.std.proofs.Common.{◌≡◌, List, ℕ, true, sym, ap, ◌∙◌, arith}
use Rattle.std.specs.List.{list_all}
use Rattle.std.proofs.lemmas.Fmt.{IsAscii-decimal}
use Rattle.script_text.specs.Lines.{is_ascii}
use Rattle.script_text.proofs.Ascii.{all_ascii}
use Rattle.script_text.proofs.report.say_number.Goals as goal

pub say-requires : goal.say-requires
say-requires c =
    ap (list_all is_ascii) (c.as_str.ensures.value ∙ c.in_ok-digits.ensures.ok)
    ∙ all_ascii _ (IsAscii-decimal c.args.number (omega (arith, c.ranges.number)))
