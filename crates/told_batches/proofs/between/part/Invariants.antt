use Rattle.std.proofs.Common.{◌≡◌, ◌++◌, drop}
use Rattle.std.specs.Prelude.{filter, not}
use Rattle.install_plan.specs.declared.written.Written.{Written}
use Rattle.machine_meaning.specs.Batches.{is_among}
use Rattle.told_batches.proofs.between.part.Given as goal

-- those so far, and then those of the rows that are left
abbrev pub invariant-loop-written : goal.invariant-loop-written
invariant-loop-written l = record {
  going : l.parted.going ++ filter (λ (w : Written). not (is_among l.wanted w)) (drop l.written-index l.standing)
      ≡ filter (λ (w : Written). not (is_among l.wanted w)) l.standing;
  staying : l.parted.staying ++ filter (is_among l.wanted) (drop l.written-index l.standing)
      ≡ filter (is_among l.wanted) l.standing;
}
