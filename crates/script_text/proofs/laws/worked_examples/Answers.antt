use Rattle.std.proofs.Common.{refl}
use Rattle.std.specs.Fmt.{digits}
use Rattle.hex.proofs.OnLiterals.{hex_on_literals}
use Rattle.script_text.specs.Numbers.{number_in}
use Rattle.script_text.proofs.laws.worked_examples.Goals as goal

pub returns-clause-lines : goal.returns-clause-lines
unfolding number_in hex_on_literals digits
returns-clause-lines c = record {
  empty = refl;
  comment = refl;
  up = refl;
  noarp = refl;
  from = refl;
  gone = refl;
  tick = refl;
  expr = refl;
}

pub returns-clause-faults : goal.returns-clause-faults
unfolding number_in hex_on_literals digits
returns-clause-faults c = record { words = refl; member = refl; name = refl; hex = refl; zero = refl }

pub returns-clause-forms : goal.returns-clause-forms
unfolding number_in hex_on_literals digits
returns-clause-forms c = record { ask = refl; not_asked = refl; switch = refl; place = refl }
