-- What a node's rules are made of, and the rules as the nodes above see them.
use Rattle.std.specs.Prelude.{ℕ, Bool, false, ◌==◌, ◌&&◌, List, map}
use Rattle.std.specs.List.{list_any}
use Rattle.rule_ancestry.specs.Holding.{Held}
use Rattle.policy_meaning.specs.declared.rule.Rule.{Rule}
use Rattle.made_rules.specs.declared.made.Made.{Made}
use Rattle.made_rules.specs.declared.made.Origin.{Origin}
use Rattle.made_rules.specs.declared.made.Origin.TheVariants.{Leaf, Rule as OfRule}

-- the same leaf, or the same rule of the same operand
abbrev pub same_origin : Origin → Origin → Bool
same_origin (Leaf l) (Leaf m) = (l.member == m.member) && (l.kind == m.kind)
same_origin (OfRule side i) (OfRule other j) = (side == other) && (i == j)
same_origin (Leaf l) (OfRule side i) = false
same_origin (OfRule side i) (Leaf l) = false

-- it is one of these
abbrev pub is_one_of : List Origin → Origin → Bool
is_one_of origins o = list_any (same_origin o) origins

-- it is made of one of these
abbrev pub is_made_of : List Origin → Made → Bool
is_made_of origins m = list_any (is_one_of origins) m.origins

-- the rule alone
abbrev pub rule_of : Made → Rule
rule_of m = m.rule

-- a rule under its id, as the nodes above see it
abbrev pub rule_held : Held Made → Held Rule
rule_held h = record { id = h.id; item = h.item.rule }

-- the rule of an item under an id
abbrev pub rule_under : ℕ → Made → Held Rule
rule_under id m = record { id = id; item = m.rule }

-- all rules, each under its id
abbrev pub rules_in : List (Held Made) → List (Held Rule)
rules_in held = map rule_held held

-- what is held is made of one of these
abbrev pub is_held_of : List Origin → Held Made → Bool
is_held_of origins h = is_made_of origins h.item
