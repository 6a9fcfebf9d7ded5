use Rattle.std.proofs.Common.{◌+◌, ◌-◌, ◌≤◌, ◌≡◌, length}
use Rattle.std.specs.Prelude.{vec_capacity, vec_len}
use Rattle.made_rules.proofs.Changes.{Leaves}
use Rattle.made_rules.proofs.change.move_all_out.Given as goal

abbrev pub invariant-loop-id : goal.invariant-loop-id
invariant-loop-id l = record {
  leaves : Leaves l.fn.store l.store l.fn.left.items l.left.items l.gone l.id-index;
  room : vec_len l.left + (length l.gone - l.id-index) ≤ vec_capacity l.left;
}
