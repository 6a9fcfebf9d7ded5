use Rattle.std.proofs.Common.{◌≡◌, List, ℕ, true, sym, ap, ◌∙◌}
use Rattle.std.specs.List.{list_all}
use Rattle.script_text.specs.Lines.{is_ascii}
use Rattle.script_text.proofs.Ascii.{hex_ascii}
use Rattle.script_text.proofs.report.report_line.Goals as goal

pub say-requires-3 : goal.say-requires-3
say-requires-3 c = ap (list_all is_ascii) (c.as_str.ensures.value ∙ c.in_ok-digits.ensures)
    ∙ hex_ascii c.args.message.now
