use Rattle.std.proofs.Common.{◌≡◌, ◌++◌}
use Rattle.std.specs.Prelude.{map}
use Rattle.machine_meaning.specs.Drafts.{letter}
use Rattle.machine_drafts.proofs.answering.address_all.Given as goal

abbrev pub invariant-loop-bytes : goal.invariant-loop-bytes
invariant-loop-bytes l = l.letters ≡ l.fn.letters ++ map (letter l.n) l.yielded
