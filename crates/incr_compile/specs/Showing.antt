-- The rules of an operand in the index of a node.
use Rattle.std.specs.Prelude.{◌≡◌, ℕ, Bool, false, ◌==◌, not, Option, List, option_map, option_to_list}
use Rattle.std.specs.List.{AllByRecursion, list_any}
use Rattle.match_index.specs.declared.item.Item.{Item}
use Rattle.of10_match.specs.Fields.{MatchOf}
use Rattle.op_compose.specs.declared.op.Op.{Op}
use Rattle.op_compose.specs.declared.op.Side.{Side}
use Rattle.op_compose.specs.declared.op.Side.TheVariants.{Left, Right}
use Rattle.policy_meaning.specs.declared.rule.Rule.{Rule}
use Rattle.rule_ancestry.specs.Holding.{Held, item_at}
use Rattle.made_rules.specs.Rules.{rule_under}
use Rattle.made_rules.specs.declared.made.Made.{Made}
use Rattle.incr_compile.specs.Candidates.{asked, reach}

-- the match by which a rule of the operand is found: what a left one reaches, what a right one asks
abbrev pub shown_as : Op → Side → Rule → Option MatchOf
shown_as op Left r = reach op r
shown_as op Right r = asked op r

-- the item has another id than these
abbrev pub is_clear_of : List ℕ → Item → Bool
is_clear_of ids e = not (list_any (λ id. e.id == id) ids)

-- none of the items has one of these ids
abbrev pub AreClear : List ℕ → List Item → Type 0
AreClear ids items = AllByRecursion (λ (e : Item). list_any (λ id. e.id == id) ids ≡ false) items

-- the rule of an id, if there is one
abbrev pub rule_at : List (Held Made) → ℕ → List (Held Rule)
rule_at held id = option_to_list (option_map (rule_under id) (item_at held id))
