use Rattle.std.proofs.Common.{◌≡◌, map, take}
use Rattle.switch_state.specs.declared.barrier.Barrier.{Barrier}
use Rattle.switch_state.proofs.outstanding.numbers.Given as goal

-- the numbers of the barriers so far
abbrev pub invariant-loop-barrier : goal.invariant-loop-barrier
invariant-loop-barrier l = l.numbers ≡ map (λ (b : Barrier). b.number) (take l.barrier-index l.barrier-items)
