use Rattle.std.proofs.Common.{◌∙◌, Bool, None, ap, inr, refl}
use Rattle.std.specs.Prelude.{if◌then◌else◌}
use Rattle.std.proofs.lemmas.Str.{is_utf8-from_IsUtf8}
use Rattle.toml.specs.Parse.{parse_document}
use Rattle.policy_file.proofs.Checked.{refused_document}
use Rattle.policy_file.proofs.reading.document.Goals as goal

pub returns-in-Ok-clause-read : goal.returns-in-Ok-clause-read
returns-in-Ok-clause-read c = ap (λ (b : Bool). if b then parse_document c.args.bytes.now else None)
    (is_utf8-from_IsUtf8 c.args.bytes.now c.in-Ok.ensures.ok.0) ∙ c.in-Ok.ensures.ok.1

pub returns-in-Err-2-clause-fault : goal.returns-in-Err-2-clause-fault
returns-in-Err-2-clause-fault c =
    inr (
      refl,
      refused_document c.args.bytes.now
          (c.in-Err.ensures.refused (λ m. let t = c.is_memory.ensures.1 m in let f = c.if-is_memory.false in cc)),
    )
