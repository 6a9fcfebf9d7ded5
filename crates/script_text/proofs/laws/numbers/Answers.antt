use Rattle.script_text.proofs.Digits.{decimal_is, number_is}
use Rattle.script_text.proofs.laws.numbers.Goals as goal

pub returns-clause-only : goal.returns-clause-only
returns-clause-only c = number_is

pub returns-clause-all : goal.returns-clause-all
returns-clause-all c = decimal_is
