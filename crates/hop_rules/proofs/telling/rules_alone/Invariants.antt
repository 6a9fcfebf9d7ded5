use Rattle.std.proofs.Common.{◌≡◌, map}
use Rattle.made_rules.specs.Rules.{rule_of}
use Rattle.hop_rules.proofs.telling.rules_alone.Given as goal

abbrev pub invariant-loop-made : goal.invariant-loop-made
invariant-loop-made l = l.rules ≡ map rule_of l.yielded
