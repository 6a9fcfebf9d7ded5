use Rattle.std.proofs.Common.{ap, ◌∙◌}
use Rattle.hex.specs.Hex.{encode_lower}
use Rattle.std.specs.List.{list_all}
use Rattle.script_text.specs.Lines.{is_ascii}
use Rattle.script_text.proofs.Ascii.{hex_ascii}
use Rattle.explain_text.proofs.lines.say_hex.Goals as goal

pub say-requires : goal.say-requires
say-requires c =
    ap (list_all is_ascii) (c.as_str.ensures.value ∙ c.in_ok-digits.ensures ∙ ap encode_lower c.as_slice.ensures)
    ∙ hex_ascii c.args.bytes.now
