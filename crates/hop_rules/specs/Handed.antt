-- The rules of a virtual switch that were handed over, as they are kept.
use Rattle.std.specs.Prelude.{◌≡◌, ℕ, ◌+◌, ◌*◌, ◌%◌, ◌^◌, ◌==◌, false, Option, Some, None, List, [], ◌∷◌, ◌++◌}
use Rattle.std.specs.Prelude.{filter_map, map, option_map, filter, IsPermutation}
use Rattle.std.specs.List.{list_any}
use Rattle.cv_io.specs.declared.leaf.Leaf.{Leaf}
use Rattle.match_index.specs.declared.item.Item.{Item}
use Rattle.rule_ancestry.specs.Holding.{Held, id_of, is_outside, item_at, item_of}
use Rattle.policy_meaning.specs.declared.rule.Rule.{Rule}
use Rattle.of10_match.specs.Fields.{MatchOf}
use Rattle.hop_rules.specs.Items.{item_for}
use Rattle.hop_rules.specs.Standing.{asked, over}
use Rattle.hop_rules.specs.declared.exits.Exit.{Exit}
use Rattle.hop_rules.specs.declared.standing.Departure.{Departure}

-- a mark with another number in it
abbrev pub mixed : ℕ → ℕ → ℕ
mixed mark number = ((mark * 0x9e3779b97f4a7c15) % 2 ^ 64 + number) % 2 ^ 64

abbrev pub leaves_mark : List Leaf → ℕ → ℕ
leaves_mark [] mark = mark
leaves_mark (l ∷ ls) mark = leaves_mark ls (mixed (mixed mark l.member) l.kind)

abbrev pub port_mark : Option ℕ → ℕ
port_mark None = 0
port_mark (Some port) = 1 + port

-- the mark by which a rule is found
abbrev pub mark_of : Rule → ℕ
mark_of r = mixed (leaves_mark r.ancestry 0) (port_mark r.m.in_port)

-- the rules with their ids, and what is listed of them
pub record GivenOf : Type 0 where
  pub exits : List Exit
  pub rules : List (Held Rule)
  pub items : List Item

-- what a rule asks where its link leads, if it leads over one
abbrev pub asks_by : Rule → Option Departure → Option MatchOf
asks_by r l = option_map (asked r.m) l

-- a rule as it is listed: by what it asks there
abbrev pub listed : List Exit → Held Rule → Option Item
listed exits h = option_map (item_for h.id) (asks_by h.item (over exits h.item.tail))

-- exactly these rules are listed, of those that lead over a link
abbrev pub AreListed : GivenOf → List (Held Rule) → Type 0
AreListed g rules = IsPermutation g.items (filter_map (listed g.exits) rules)

-- the id of a rule that is held is noted, and wasn't yet
pub record Notes (held : List (Held Rule)) (ids ids' : List ℕ) (rule : Rule) : Type 0 where
  pub id : ℕ
  pub there : item_at held id ≡ Some rule
  pub new : list_any (λ j. id == j) ids ≡ false
  pub noted : ids' ≡ ids ++ id ∷ []

-- rules that are held, each under another of these ids
pub record AreFoundAt (held : List (Held Rule)) (ids : List ℕ) (rules : List Rule) : Type 0 where
  pub going : List (Held Rule)
  pub was : IsPermutation held (going ++ filter (is_outside ids) held)
  pub ids_are : map id_of going ≡ ids
  pub rules_are : map item_of going ≡ rules

-- rules of these ids are there, and all others are listed
pub record AreUnlisted (g : GivenOf) (ids : List ℕ) : Type 0 where
  pub coming : List (Held Rule)
  pub kept : List (Held Rule)
  pub all : IsPermutation g.rules (coming ++ kept)
  pub ids_are : map id_of coming ≡ ids
  pub listed : AreListed g kept
