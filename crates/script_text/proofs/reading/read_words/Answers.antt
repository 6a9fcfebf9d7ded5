use Rattle.std.proofs.Common.{◌≡◌, ◌+◌, ◌∷◌, List, ℕ, take, drop, drop-drop, Result, sym, ap, subst, ◌∙◌}
use Rattle.script_text.specs.Reading.{Gives, said}
use Rattle.script_text.specs.Words.{words}
use Rattle.script_text.specs.declared.fault.LineFault.{LineFault}
use Rattle.script_text.specs.declared.line.Line.{Line}
use Rattle.script_text.proofs.Pieces.{first_piece, one_piece}
use Rattle.script_text.proofs.reading.read_words.Goals as goal

pub returns-in_default : goal.returns-in_default
returns-in_default c =
    let whole = one_piece c.args.rest.now (sym c.place_of.ensures.place ∙ c.in_default.is) in
    subst (λ (pieces : List (List ℕ)). Gives c.read_two.result (said c.args.form (c.args.first.now ∷ pieces)))
    (sym whole) c.read_two.ensures

pub returns : goal.returns
returns c =
    let rest = c.args.rest.now in
    let at = c.in-Some.at in
    let cut = first_piece rest at (sym c.in-Some.ensures.place) in
    let third : c.split_at-2.result.1.now ≡ drop (at + 1) rest = c.split_at-2.ensures.back
    ∙ (ap (drop 1) c.split_at.ensures.back ∙ drop-drop 1 at rest) in
    let pieces = (λ i. c.split_at.ensures.front i ∷ words (third i)) ∙ sym cut in
    subst (λ (pieces : List (List ℕ)). Gives c.read_three.result (said c.args.form (c.args.first.now ∷ pieces))) pieces
    c.read_three.ensures
