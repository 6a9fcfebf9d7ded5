use Rattle.std.proofs.Common.{◌≡◌, ◌++◌, take}
use Rattle.std.specs.Prelude.{filter_map}
use Rattle.policy_meaning.specs.declared.rule.Rule.{Rule}
use Rattle.switch_meaning.specs.Placing.{entry_of}
use Rattle.agreement.specs.Entries.{flat}
use Rattle.composed_tables.proofs.placing.add_rules.Given as goal

abbrev pub invariant-loop-rule : goal.invariant-loop-rule
invariant-loop-rule l = l.entries ≡ l.initial.entries ++ filter_map (λ (r : Rule). entry_of l.wiring l.site (flat r))
    (take l.rule-index l.rule-items)
