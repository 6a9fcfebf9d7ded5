-- When two rules are the same rule.
use Rattle.std.specs.Prelude.{Bool}
use Rattle.policy_meaning.specs.contracts.rule.RulePartialEq.TheImpl.{ghosts as derived_rule}
use Rattle.policy_meaning.specs.declared.rule.Rule.{Rule}

-- they are the same in each field
abbrev pub is_rule : Rule → Rule → Bool
is_rule a b = derived_rule.eq a b
