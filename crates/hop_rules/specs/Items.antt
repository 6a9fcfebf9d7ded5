-- Rules in an index, each by a match of it.
use Rattle.std.specs.Prelude.{◌≡◌, ℕ, Option, Some}
use Rattle.of10_match.specs.Fields.{MatchOf}
use Rattle.match_index.specs.declared.item.Item.{Item}
use Rattle.rule_ancestry.specs.Holding.{Held}
use Rattle.policy_meaning.specs.declared.rule.Rule.{Rule}

-- a match under an id
abbrev pub item_for : ℕ → MatchOf → Item
item_for id m = record { id = id; rank = 0; normal = m }

-- each rule is shown under its id
abbrev pub IsNumbered : (Held Rule → Option Item) → Type 0
IsNumbered shown = (h : Held Rule) (e : Item) → shown h ≡ Some e → e.id ≡ h.id
