use Rattle.std.proofs.Common.{◌≡◌, ◌++◌, ap, ◌∙◌, append_assoc, subst}
use Rattle.std.specs.Prelude.{OnOk, codes, decimal}
use Rattle.explain_text.proofs.lines.say_serial.Goals as goal

pub returns : goal.returns
returns c =
    let digits = decimal c.args.serial in
    let joined = ap (λ l. l ++ digits) c.in_ok-say.ensures
    ∙ append_assoc c.args.line.now (codes "entry serial=") digits in
    subst (λ l. OnOk c.say_number.result (c.say_number.new.line ≡ l)) joined c.say_number.ensures
