use Rattle.std.proofs.Common.{◌≡◌, ◌+◌, ◌∷◌, List, ℕ, take, drop, drop-drop, Ok, Result, sym, ap, subst, ◌∙◌}
use Rattle.script_text.specs.Reading.{Gives, is_blank, said}
use Rattle.script_text.specs.Words.{words}
use Rattle.script_text.specs.declared.fault.LineFault.{LineFault}
use Rattle.script_text.specs.declared.line.Line.{Line}
use Rattle.script_text.specs.declared.line.Line.TheVariants.{Blank}
use Rattle.script_text.proofs.Pieces.{first_piece, one_piece, said_one}
use Rattle.script_text.proofs.Passed.{if_false}
use Rattle.script_text.proofs.reading.read_line.Goals as goal

pub returns-in_default : goal.returns-in_default
returns-in_default c =
    let line = c.args.line.now in
    let whole = one_piece line (sym c.place_of.ensures.place ∙ c.in_default.is) in
    let says = if_false (is_blank line) (Ok Blank) (said c.args.form (words line)) (sym c.if-is_blank.ensures) in
    said_one c.args.form line ∙ (ap (said c.args.form) (sym whole) ∙ sym says)

pub returns : goal.returns
returns c =
    let line = c.args.line.now in
    let at = c.in-Some.at in
    let cut = first_piece line at (sym c.in-Some.ensures.place) in
    let rest : c.split_at-2.result.1.now ≡ drop (at + 1) line = c.split_at-2.ensures.back
    ∙ (ap (drop 1) c.split_at.ensures.back ∙ drop-drop 1 at line) in
    let pieces = (λ i. c.split_at.ensures.front i ∷ words (rest i)) ∙ sym cut in
    let says = if_false (is_blank line) (Ok Blank) (said c.args.form (words line)) (sym c.if-is_blank.ensures) in
    subst (λ (x : Result Line LineFault). Gives c.read_words.result x) (ap (said c.args.form) pieces ∙ sym says)
    c.read_words.ensures
