-- Rules whose matches are normal, with values in range.
use Rattle.std.specs.Prelude.{List}
use Rattle.std.specs.List.{AllByRecursion}
use Rattle.of10_match.specs.Normal.{IsNormal}
use Rattle.of10_match.specs.Ranges.{IsMatch}
use Rattle.policy_meaning.specs.declared.rule.Rule.{Rule}
use Rattle.rule_ancestry.specs.Holding.{Held}

-- a rule's match is normal and in range
pub record IsSound (r : Rule) : Type 0 where
  pub normal : IsNormal r.m
  pub in_range : IsMatch r.m

-- each is
abbrev pub AreSound : List (Held Rule) → Type 0
AreSound rules = AllByRecursion (λ (h : Held Rule). IsSound h.item) rules
