use Rattle.std.proofs.Common.{◌≡◌, sym, ◌∙◌, arith}
use Rattle.script_text.proofs.Digits.{above_most, badly_started, is_number, no_number}
use Rattle.script_text.proofs.number.decimal_number.Goals as goal

pub returns-then-not-starts_well : goal.returns-then-not-starts_well
returns-then-not-starts_well c =
    sym (badly_started c.args.most c.args.text.now (omega (arith, c.ranges.most)) (sym c.if-not-starts_well.ensures))

pub returns-in-Some : goal.returns-in-Some
returns-in-Some c =
    sym (is_number c.args.most c.args.text.now c.in-Some.value (sym c.if-not-starts_well.ensures)
    (sym c.in-Some.ensures) c.if-value-most.true)

pub returns-in_default : goal.returns-in_default
returns-in_default c =
    sym (above_most c.args.most c.args.text.now c.in-Some.value (sym c.if-not-starts_well.ensures)
    (sym c.in-Some.ensures) c.if-value-most.false)

pub returns-in_default-2 : goal.returns-in_default-2
returns-in_default-2 c =
    sym (no_number c.args.most c.args.text.now (omega (arith, c.ranges.most)) (sym c.digits.ensures ∙ c.in_default.is))
