use Rattle.std.specs.Prelude.{vec_len}
use Rattle.made_rules.proofs.Widening.{Narrowing}
use Rattle.made_rules.proofs.stay.narrow.Given as goal

abbrev pub invariant-loop-stay : goal.invariant-loop-stay
invariant-loop-stay l = Narrowing l.fn.store l.store l.fn.stays.items l.stays.items l.back

abbrev pub decreases-loop-stay : goal.decreases-loop-stay
decreases-loop-stay l = vec_len l.stays
