use Rattle.std.proofs.Common.{◌≡◌, map}
use Rattle.std.specs.List.{AllByRecursion}
use Rattle.made_rules.specs.Rules.{rule_of}
use Rattle.incr_compile.specs.Compiling.{IsByLeaves}
use Rattle.incr_compile.proofs.member.member_rules.Given as goal

abbrev pub invariant-loop-rule : goal.invariant-loop-rule
invariant-loop-rule l = record {
  rules : map rule_of l.made.items ≡ l.yielded;
  found : AllByRecursion IsByLeaves l.made.items;
}
