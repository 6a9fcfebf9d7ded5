-- The rule of a pair under an operator, and the rule that stands alone.
use Rattle.std.specs.Prelude.{◌≡◌, ℕ, Bool, true, Option, None, [], ◌∷◌}
use Rattle.cv_io.specs.declared.leaf.Leaf.{Leaf}
use Rattle.of10_match.specs.Fields.{MatchOf}
use Rattle.of10_actions.specs.declared.effects.Effects.{Effects}
use Rattle.of10_actions.specs.declared.effects.Tail.{Tail}
use Rattle.of10_actions.specs.declared.effects.Tail.TheVariants.{Nothing, Pass, Link}
use Rattle.alg_priority.specs.Levels.{sum_level, concat_level, shift_level}
use Rattle.policy_meaning.specs.Rules.{sum_rule, chain_rule, lifted}
use Rattle.policy_meaning.specs.Hops.{hop_rule, hop_lone}
use Rattle.policy_meaning.specs.declared.rule.Rule.{Rule}
use Rattle.op_compose.specs.declared.op.Op.{Op}
use Rattle.op_compose.specs.declared.op.Op.TheVariants.{Par, Seq, Over, Hop}
use Rattle.op_compose.specs.declared.op.Side.{Side}
use Rattle.op_compose.specs.declared.op.Side.TheVariants.{Left, Right}

-- the rule of a leaf
abbrev pub leaf_rule : MatchOf → ℕ → Bool → Effects → Leaf → Rule
leaf_rule m level touched effects leaf =
    record { m = m; level = level; touched = touched; outs = effects.outs; tail = effects.tail; ancestry = leaf ∷ [] }

-- the left rules that an operator joins with right ones: any of `+`, those that pass packets on of `>>`, those that
-- lead over a link of a hop; `|>` joins none
abbrev pub Joins : Op → Tail → Type 0
Joins Par t = Unit {0}
Joins Over t = ⊥
Joins Seq (Pass r) = Unit {0}
Joins Seq Nothing = ⊥
Joins Seq (Link r p) = ⊥
Joins Hop (Link r p) = Unit {0}
Joins Hop Nothing = ⊥
Joins Hop (Pass r) = ⊥

-- the rule of a pair under `>>`, where the left has this tail
abbrev pub passed : Tail → ℕ → Rule → Rule → Option Rule
passed (Pass r) size a b = chain_rule size r a b
passed Nothing size a b = None
passed (Link r p) size a b = None

-- the rule of a pair over a link, where the left has this tail
abbrev pub crossed : Tail → ℕ → Rule → Rule → Option Rule
crossed (Link r p) size a b = hop_rule size r a b
crossed Nothing size a b = None
crossed (Pass r) size a b = None

-- the rule of a pair, or none where no header is in it; the right operand has `size` levels
abbrev pub joined : Op → ℕ → Rule → Rule → Option Rule
joined Par size a b = sum_rule a b
joined Seq size a b = passed a.tail size a b
joined Over size a b = None
joined Hop size a b = crossed a.tail size a b

-- its level
abbrev pub joined_level : Op → ℕ → ℕ → ℕ → ℕ
joined_level Par a b size = sum_level a b
joined_level Seq a b size = concat_level a b size
joined_level Over a b size = b
joined_level Hop a b size = concat_level a b size

-- the rules that stand alone: of the left of `>>` those that pass nothing on, of the left of `|>` those that are
-- touched, of its right all, and of a hop those that go on nowhere
abbrev pub StandsAlone : Op → Side → Rule → Type 0
StandsAlone Par side a = ⊥
StandsAlone Seq Left a = Joins Seq a.tail → ⊥
StandsAlone Seq Right a = ⊥
StandsAlone Over Left a = a.touched ≡ true
StandsAlone Over Right a = Unit {0}
StandsAlone Hop Left a = Unit {0}
StandsAlone Hop Right a = ⊥

-- the rule that stands alone, where the right operand has `size` levels
abbrev pub alone : Op → Side → ℕ → Rule → Rule
alone Seq Left size a = lifted (concat_level a.level 0 size) a
alone Over Left size a = lifted (shift_level a.level size) a
alone Hop Left size a = hop_lone size a
alone Par side size a = a
alone Seq Right size a = a
alone Over Right size a = a
alone Hop Right size a = a

-- its level
abbrev pub alone_level : Op → Side → ℕ → ℕ → ℕ
alone_level Seq Left a size = concat_level a 0 size
alone_level Over Left a size = shift_level a size
alone_level Hop Left a size = concat_level a 0 size
alone_level Par side a size = a
alone_level Seq Right a size = a
alone_level Over Right a size = a
alone_level Hop Right a size = a
