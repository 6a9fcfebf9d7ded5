-- A node of an operator: what it made of the rules of its operands, and how it finds those that could meet.
use Rattle.std.specs.Prelude.{◌≡◌, ℕ, ◌<◌, ◌^◌, List, IsPermutation, filter_map, map}
use Rattle.std.specs.List.{AllByRecursion}
use Rattle.alg_priority.specs.Sizes.{sum_size, concat_size, shift_size}
use Rattle.match_index.specs.declared.item.Item.{Item}
use Rattle.op_compose.specs.declared.op.Op.{Op}
use Rattle.op_compose.specs.declared.op.Op.TheVariants.{Par, Seq, Over, Hop}
use Rattle.policy_meaning.specs.declared.rule.Rule.{Rule}
use Rattle.rule_ancestry.specs.Holding.{Held, item_of}
use Rattle.list_change.specs.Pairing.{made}
use Rattle.made_rules.specs.Changing.{ChangeOf, IsReady, settled}
use Rattle.made_rules.specs.Rules.{rules_in}
use Rattle.made_rules.specs.declared.made.Made.{Made}
use Rattle.incr_compile.specs.Candidates.{asked, reach, shown}
use Rattle.incr_compile.specs.Sound.{IsSound}
use Rattle.incr_compile.specs.Ways.{held_way}
use Rattle.incr_compile.specs.declared.node.Node.{Node}

-- a node as contracts see it: what it made, and the indexes of what the left rules reach and the right ones ask
pub record NodeOf : Type 0 where
  pub op : Op
  pub size : ℕ
  pub made : List (Held Made)
  pub lefts : List Item
  pub rights : List Item

-- the node without the room in its indexes, and without what is under way
abbrev pub node_of : Node → NodeOf
node_of n = record { op = n.op; size = n.size; made = n.made; lefts = n.lefts.items; rights = n.rights.items }

-- what a node makes of these
abbrev pub made_by : NodeOf → List (Held Rule) → List (Held Rule) → List Made
made_by n lefts rights = made (held_way n.op n.size) lefts rights

-- the indexes show the operands
pub record AreShown (n : NodeOf) (lefts rights : List (Held Rule)) : Type 0 where
  pub lefts_are : IsPermutation n.lefts (filter_map (shown (reach n.op)) lefts)
  pub rights_are : IsPermutation n.rights (filter_map (shown (asked n.op)) rights)

-- the node is that of these operands
pub record IsNode (n : NodeOf) (lefts rights : List (Held Rule)) : Type 0 where
  pub made_are : IsPermutation (map item_of n.made) (made_by n lefts rights)
  pub shown : AreShown n lefts rights

-- how many levels an operator makes of those of its operands
abbrev pub whole_size : Op → ℕ → ℕ → ℕ
whole_size Par a b = sum_size a b
whole_size Seq a b = concat_size a b
whole_size Over a b = shift_size a b
whole_size Hop a b = concat_size a b

-- a rule's match is normal and in range, and its level below so many
pub record IsFit (size : ℕ) (r : Rule) : Type 0 where
  pub sound : IsSound r
  pub below : r.level < size

-- each is
abbrev pub AreFit : ℕ → List (Held Rule) → Type 0
AreFit size rules = AllByRecursion (λ (h : Held Rule). IsFit size h.item) rules

-- the levels of what is made of operands with so many levels are below 2^64
pub record SizesFit (n : NodeOf) (left right : ℕ) : Type 0 where
  pub size : n.size ≡ right
  pub left_positive : 0 < left
  pub right_positive : 0 < right
  pub whole : whole_size n.op left right < 2 ^ 64

-- a node of operands of which the left one's change is ready: its rules will be `after`
pub record LeftChanges (n : NodeOf) (before now after rights : List (Held Made)) (change : ChangeOf) : Type 0 where
  pub node : IsNode n (rules_in before) (rules_in rights)
  pub lost : List ℕ
  pub fresh : List Made
  pub ready : IsReady before now lost fresh change
  pub after_is : after ≡ settled ready
  pub left_size : ℕ
  pub right_size : ℕ
  pub sizes : SizesFit n left_size right_size
  pub lefts_fit : AreFit left_size (rules_in after)
  pub rights_fit : AreFit right_size (rules_in rights)

-- the same of the right one
pub record RightChanges (n : NodeOf) (before now after lefts : List (Held Made)) (change : ChangeOf) : Type 0 where
  pub node : IsNode n (rules_in lefts) (rules_in before)
  pub lost : List ℕ
  pub fresh : List Made
  pub ready : IsReady before now lost fresh change
  pub after_is : after ≡ settled ready
  pub left_size : ℕ
  pub right_size : ℕ
  pub sizes : SizesFit n left_size right_size
  pub lefts_fit : AreFit left_size (rules_in lefts)
  pub rights_fit : AreFit right_size (rules_in after)

-- what a node made is ready to become what it makes of these operands
pub record IsCarried (before now after : List (Held Made)) (change : ChangeOf) (makes : List Made) : Type 0 where
  pub lost : List ℕ
  pub fresh : List Made
  pub ready : IsReady before now lost fresh change
  pub after_is : after ≡ settled ready
  pub made_are : IsPermutation (map item_of after) makes

-- operands with so many levels, whose rules fit
pub record CanJoin (op : Op) (size : ℕ) (lefts rights : List (Held Made)) : Type 0 where
  pub left_size : ℕ
  pub right_size : ℕ
  pub size_is : size ≡ right_size
  pub left_positive : 0 < left_size
  pub right_positive : 0 < right_size
  pub whole : whole_size op left_size right_size < 2 ^ 64
  pub lefts_fit : AreFit left_size (rules_in lefts)
  pub rights_fit : AreFit right_size (rules_in rights)
