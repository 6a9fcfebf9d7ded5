use Rattle.std.proofs.Common.{map}
use Rattle.install_plan.specs.Tables.{entry_of}
use Rattle.policy_meaning.specs.LeafFact.{EachPair}
use Rattle.shared_rows.specs.Rows.{IsLower}
use Rattle.told_batches.specs.Told.{AreListed}
use Rattle.told_batches.proofs.Taken.{IsTaken}
use Rattle.told_batches.proofs.told.part.Given as goal

abbrev pub invariant-loop-one : goal.invariant-loop-one
invariant-loop-one l =
    (rise : EachPair IsLower l.standing) → (listed : AreListed (map entry_of l.gone) l.standing)
    → IsTaken l.standing l.gone rise listed l.one-index l.going l.staying
