use Rattle.std.proofs.Common.{◌≡◌, take}
use Rattle.std.specs.Prelude.{filter_map}
use Rattle.agreement.specs.Seeing.{left_at}
use Rattle.agreement.proofs.seeing.all_left.Given as goal

abbrev pub invariant-loop-out : goal.invariant-loop-out
invariant-loop-out l = l.left ≡ filter_map (left_at l.wiring l.header) (take l.out-index l.out-items)
