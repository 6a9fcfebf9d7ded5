use Rattle.std.proofs.Common.{◌≡◌, Option, Result, sym, ap, subst, ◌∙◌}
use Rattle.script_text.specs.Reading.{Gives, three_of}
use Rattle.script_text.specs.declared.fault.LineFault.{LineFault}
use Rattle.script_text.specs.declared.form.Verb.{Verb}
use Rattle.script_text.specs.declared.line.Line.{Line}
use Rattle.script_text.proofs.Pieces.{said_three, third_bad}
use Rattle.script_text.proofs.reading.read_three.Goals as goal

pub returns-then-not-is_word-3 : goal.returns-then-not-is_word-3
returns-then-not-is_word-3 c = third_bad c.args.form c.args.first.now c.args.second.now c.args.third.now
    (sym c.if-not-is_word-3.ensures)

pub returns-in-Some : goal.returns-in-Some
returns-in-Some c =
    let second = c.args.second.now in
    let third = c.args.third.now in
    let path = ap (λ (o : Option Verb). three_of c.args.form o second third) c.in-Some.ensures
    ∙ said_three c.args.form c.args.first.now second third (sym c.if-not-is_word.ensures)
    (sym c.if-not-is_word-2.ensures) (sym c.if-not-is_word-3.ensures) in
    subst (λ (x : Result Line LineFault). Gives c.three_words.result x) path c.three_words.ensures
