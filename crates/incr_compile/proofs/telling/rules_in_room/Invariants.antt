use Rattle.std.proofs.Common.{◌≡◌, ◌+◌, ◌≤◌, ◌++◌, map}
use Rattle.std.specs.Prelude.{vec_capacity, vec_len}
use Rattle.std.specs.Vec.Iter.{into_iter_len}
use Rattle.made_rules.specs.Rules.{rule_of}
use Rattle.incr_compile.proofs.telling.rules_in_room.Given as goal

abbrev pub invariant-loop-one : goal.invariant-loop-one
invariant-loop-one l = record {
  rules : l.rules.items ≡ l.fn.room.items ++ map rule_of l.yielded;
  room : vec_len l.rules + into_iter_len l.one-iterator ≤ vec_capacity l.rules;
}
