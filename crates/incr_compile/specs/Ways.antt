-- How an operator makes rules of those of its operands.
use Rattle.std.specs.Prelude.{ℕ, Bool, false, not, Option, Some, None, List, [], ◌∷◌, map, option_map, if◌then◌else◌}
use Rattle.of10_actions.specs.declared.effects.Tail.{Tail}
use Rattle.of10_actions.specs.declared.effects.Tail.TheVariants.{Nothing, Pass, Link}
use Rattle.op_compose.specs.Composition.{joined, alone}
use Rattle.op_compose.specs.declared.op.Op.{Op}
use Rattle.op_compose.specs.declared.op.Op.TheVariants.{Par, Seq, Over, Hop}
use Rattle.op_compose.specs.declared.op.Side.TheVariants.{Left}
use Rattle.policy_meaning.specs.declared.rule.Rule.{Rule}
use Rattle.rule_ancestry.specs.Holding.{Held, item_of}
use Rattle.list_change.specs.Pairing.{Way}
use Rattle.made_rules.specs.Rules.{is_made_of}
use Rattle.made_rules.specs.declared.made.Made.{Made}
use Rattle.made_rules.specs.declared.made.Origin.{Origin}
use Rattle.made_rules.specs.declared.made.Origin.TheVariants.{Rule as OfRule}

-- the rule that a left rule of this tail makes alone: of `>>` unless it passes the packet on, of a hop unless it
-- leads over a link, of `|>` where it is touched
abbrev pub lone_by : Op → Tail → Bool → ℕ → Rule → Option Rule
lone_by Par t touched size a = None
lone_by Seq (Pass r) touched size a = None
lone_by Seq Nothing touched size a = Some (alone Seq Left size a)
lone_by Seq (Link r p) touched size a = Some (alone Seq Left size a)
lone_by Over t touched size a = if touched then Some (alone Over Left size a) else None
lone_by Hop (Link r p) touched size a = None
lone_by Hop Nothing touched size a = Some (alone Hop Left size a)
lone_by Hop (Pass r) touched size a = Some (alone Hop Left size a)

-- the rule that a left rule makes alone
abbrev pub lone : Op → ℕ → Rule → Option Rule
lone op size a = lone_by op a.tail a.touched size a

-- the rule that a right rule makes alone: of `|>` any
abbrev pub other : Op → Rule → Option Rule
other Over b = Some b
other Par b = None
other Seq b = None
other Hop b = None

-- how an operator makes rules, where the right operand has `size` levels
abbrev pub way : Op → ℕ → Way Rule Rule Rule
way op size = record { lone = lone op size; pair = joined op size; other = other op }

-- a left rule that isn't joined makes nothing: under `|>`, where it isn't touched
abbrev pub stays_out : Op → Bool → Bool
stays_out Over touched = not touched
stays_out Par touched = false
stays_out Seq touched = false
stays_out Hop touched = false

-- a rule of the left operand as an origin, and one of the right
abbrev pub left_origin : ℕ → Origin
left_origin id = OfRule 0 id

abbrev pub right_origin : ℕ → Origin
right_origin id = OfRule 1 id

-- a rule with its origins
abbrev pub made_with : List Origin → Rule → Made
made_with origins r = record { rule = r; origins = origins }

-- how an operator makes rules with origins
abbrev pub held_way : Op → ℕ → Way (Held Rule) (Held Rule) Made
held_way op size = record {
  lone = λ a. option_map (made_with (left_origin a.id ∷ [])) (lone op size a.item);
  pair = λ a b. option_map (made_with (left_origin a.id ∷ right_origin b.id ∷ [])) (joined op size a.item b.item);
  other = λ b. option_map (made_with (right_origin b.id ∷ [])) (other op b.item);
}

-- it is made of none of these
abbrev pub is_not_of : List Origin → Made → Bool
is_not_of origins m = not (is_made_of origins m)

-- rules without their ids
abbrev pub without_ids : List (Held Rule) → List Rule
without_ids hs = map item_of hs
