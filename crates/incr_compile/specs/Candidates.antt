-- Which rules of one operand could meet a rule of the other.
use Rattle.std.specs.Prelude.{ℕ, Bool, false, Option, Some, None, List, [], ◌+◌, count_by, option_map, sum_by}
use Rattle.match_index.specs.Items.{ids_of}
use Rattle.match_index.specs.Questions.{is_meeting}
use Rattle.match_index.specs.declared.item.Item.{Item}
use Rattle.of10_match.specs.Fields.{MatchOf}
use Rattle.of10_match.specs.Matching.{overlaps}
use Rattle.of10_actions.specs.declared.effects.Tail.{Tail}
use Rattle.of10_actions.specs.declared.effects.Tail.TheVariants.{Nothing, Pass, Link}
use Rattle.pull_back.specs.Pulling.{image}
use Rattle.policy_meaning.specs.Hops.{without_port}
use Rattle.policy_meaning.specs.declared.rule.Rule.{Rule}
use Rattle.rule_ancestry.specs.Holding.{Held}
use Rattle.op_compose.specs.declared.op.Op.{Op}
use Rattle.op_compose.specs.declared.op.Op.TheVariants.{Par, Seq, Over, Hop}

-- what a left rule of this tail and match asks of the right ones: that they overlap its image, which over a link has
-- the peer's port
abbrev pub reach_by : Op → Tail → MatchOf → Option MatchOf
reach_by Par t m = Some m
reach_by Over t m = None
reach_by Seq (Pass r) m = Some (image r m)
reach_by Seq Nothing m = None
reach_by Seq (Link r p) m = None
reach_by Hop (Link r p) m = Some (without_port (image r m))
reach_by Hop Nothing m = None
reach_by Hop (Pass r) m = None

abbrev pub reach : Op → Rule → Option MatchOf
reach op a = reach_by op a.tail a.m

-- what a right rule asks of a left one's image: that it overlaps its match; `|>` joins none
abbrev pub asked : Op → Rule → Option MatchOf
asked Par b = Some b.m
asked Seq b = Some b.m
asked Over b = None
asked Hop b = Some b.m

-- both are there and overlap
abbrev pub both_overlap : Option MatchOf → Option MatchOf → Bool
both_overlap None n = false
both_overlap (Some m) None = false
both_overlap (Some m) (Some n) = overlaps m n

-- the two could meet
abbrev pub could_meet : Op → Rule → Rule → Bool
could_meet op a b = both_overlap (reach op a) (asked op b)

-- one step for each rule that comes to the left, and one for each rule of the right that it could meet
abbrev pub left_cost : Op → List (Held Rule) → List (Held Rule) → ℕ
left_cost op rights come =
    sum_by (λ (a : Held Rule). 1 + count_by (λ (b : Held Rule). could_meet op a.item b.item) rights) come

-- the same for rules that come to the right
abbrev pub right_cost : Op → List (Held Rule) → List (Held Rule) → ℕ
right_cost op lefts come =
    sum_by (λ (b : Held Rule). 1 + count_by (λ (a : Held Rule). could_meet op a.item b.item) lefts) come

-- a match under an id, as an index holds it
abbrev pub item_for : ℕ → MatchOf → Item
item_for id m = record { id = id; rank = 0; normal = m }

-- a rule in an index, by a match of it
abbrev pub shown : (Rule → Option MatchOf) → Held Rule → Option Item
shown by h = option_map (item_for h.id) (by h.item)

-- the ids in an index whose matches overlap
abbrev pub overlapping : Option MatchOf → List Item → List ℕ
overlapping None items = []
overlapping (Some m) items = ids_of (is_meeting m) items

-- a rule is found in an index by a match that overlaps the one it is shown by
abbrev pub is_found : Option MatchOf → (Rule → Option MatchOf) → Held Rule → Bool
is_found m by h = both_overlap m (by h.item)
