-- A tree of operators over the rules of members, and a change of one member's.
use Rattle.std.specs.Prelude.{◌≡◌, ◌≢◌, ℕ, Bool, true, false, ◌==◌, ◌<◌, ◌≤◌, ◌||◌, ◌++◌, Option, Some, None, List}
use Rattle.std.specs.Prelude.{IsPermutation, filter, if◌then◌else◌, length, map}
use Rattle.std.specs.List.{AllByRecursion}
use Rattle.op_compose.specs.declared.op.Op.TheVariants.{Hop}
use Rattle.op_compose.specs.declared.op.Side.{Side}
use Rattle.op_compose.specs.declared.op.Side.TheVariants.{Left, Right}
use Rattle.rule_ancestry.specs.Holding.{Held, item_of}
use Rattle.made_rules.specs.Changing.{ChangeOf}
use Rattle.made_rules.specs.Rules.{rules_in}
use Rattle.made_rules.specs.declared.made.Made.{Made}
use Rattle.made_rules.specs.declared.made.Origin.TheVariants.{Leaf as OfLeaf}
use Rattle.incr_compile.specs.Nodes.{IsCarried, IsFit, IsNode, LeftChanges, NodeOf, RightChanges, SizesFit, made_by}
use Rattle.incr_compile.specs.Nodes.{node_of, whole_size}
use Rattle.incr_compile.specs.Ways.{is_not_of}
use Rattle.incr_compile.specs.declared.node.Below.{Below}
use Rattle.incr_compile.specs.declared.node.Node.{Node}
use Rattle.incr_compile.specs.declared.tree.MemberChange.{MemberChange}
use Rattle.incr_compile.specs.declared.tree.Tree.{Tree}
use Rattle.incr_compile.specs.declared.tree.Tree.TheVariants.{Member, Operator'}

-- a tree as contracts see it: a member with its number of levels and its rules, or an operator over two trees
pub data TreeOf : Type 0 where
  leaf : ℕ → ℕ → List (Held Made) → TreeOf
  branch : NodeOf → TreeOf → TreeOf → TreeOf

abbrev pub tree_of : Tree → TreeOf
tree_of (Member i size made) = leaf i size made
tree_of (Operator' node p left q right) = branch (node_of node) (tree_of left) (tree_of right)

-- the rules at the root
abbrev pub made_in : TreeOf → List (Held Made)
made_in (leaf i size made) = made
made_in (branch n l r) = n.made

-- how many levels they have
abbrev pub tree_size : TreeOf → ℕ
tree_size (leaf i size made) = size
tree_size (branch n l r) = whole_size n.op (tree_size l) (tree_size r)

-- the member is one of the tree's
abbrev pub has_member : ℕ → TreeOf → Bool
has_member i (leaf j size made) = i == j
has_member i (branch n l r) = has_member i l || has_member i r

-- no member stands on both sides of an operator
abbrev pub IsOnce : TreeOf → Type 0
IsOnce (leaf i size made) = Unit {0}
IsOnce (branch n l r) = IsOnce l × IsOnce r × ((i : ℕ) → has_member i l ≡ true → has_member i r ≡ false)

-- a member's rule is found by its leaves, and its level is below the member's number of levels
pub record IsMemberRule (size : ℕ) (m : Made) : Type 0 where
  pub fit : IsFit size m.rule
  pub origins : m.origins ≡ map (λ l. OfLeaf l) m.rule.ancestry

-- what a member holds
pub record IsLeaf (size : ℕ) (held : List (Held Made)) : Type 0 where
  pub positive : 0 < size
  pub rules : AllByRecursion (λ (h : Held Made). IsMemberRule size h.item) held

-- an operator's node is that of its operands, and its levels fit
pub record IsBranch (n : NodeOf) (left right : TreeOf) : Type 0 where
  pub sizes : SizesFit n (tree_size left) (tree_size right)
  pub node : IsNode n (rules_in (made_in left)) (rules_in (made_in right))
  pub operator : n.op ≢ Hop

-- so are all of a tree's
abbrev pub IsTree : TreeOf → Type 0
IsTree (leaf i size made) = IsLeaf size made
IsTree (branch n l r) = IsTree l × IsTree r × IsBranch n l r

-- what comes are rules of the member
abbrev pub ComesFit : MemberChange → TreeOf → Type 0
ComesFit asked (leaf i size made) = i ≡ asked.member → AllByRecursion (IsMemberRule size) asked.come.items
ComesFit asked (branch n l r) = ComesFit asked l × ComesFit asked r

-- the member is one of the tree's, once, and what comes are rules of it
pub record CanChange (asked : MemberChange) (tree : TreeOf) : Type 0 where
  pub is_tree : IsTree tree
  pub once : IsOnce tree
  pub member : has_member asked.member tree ≡ true
  pub come : ComesFit asked tree

-- a member's rules after a change: those that come, and those that are made of none of the leaves that go
abbrev pub changed_by : MemberChange → List Made → List Made
changed_by asked made = asked.come.items ++ filter (is_not_of asked.gone.items) made

-- from one tree to another only the rules of the member changed, and so
abbrev pub Changes : MemberChange → TreeOf → TreeOf → Type 0
Changes asked (leaf i s before) (leaf j t after) =
    (j ≡ i) × (t ≡ s)
    × IsPermutation (map item_of after) (if asked.member == i then changed_by asked (map item_of before)
    else map item_of before)
Changes asked (branch n l r) (branch m l' r') =
    (m.op ≡ n.op) × (m.size ≡ n.size) × Changes asked l l' × Changes asked r r'
Changes asked (leaf i s before) (branch m l' r') = ⊥
Changes asked (branch n l r) (leaf j t after) = ⊥

-- an operand's change is under way at a node that is ready to follow: `mid` are its rules then
pub record FollowsLeft (operand : ChangeOf → List (Held Made)
    → Type 0) (asked : MemberChange) (n : NodeOf) (node : Node) (other other' : TreeOf) (below change : ChangeOf)
    (after : List (Held Made)) : Type 0 where
  pub mid : List (Held Made)
  pub changes : operand below mid
  pub same : other' ≡ other
  pub absent : has_member asked.member other ≡ false
  pub node_is : node_of node ≡ record n { made = node.made }
  pub room : length below.come ≤ node.lefts.room
  pub carried : IsCarried n.made node.made after change (made_by n (rules_in mid) (rules_in (made_in other)))

pub record FollowsRight (operand : ChangeOf → List (Held Made)
    → Type 0) (asked : MemberChange) (n : NodeOf) (node : Node) (other other' : TreeOf) (below change : ChangeOf)
    (after : List (Held Made)) : Type 0 where
  pub mid : List (Held Made)
  pub changes : operand below mid
  pub same : other' ≡ other
  pub absent : has_member asked.member other ≡ false
  pub node_is : node_of node ≡ record n { made = node.made }
  pub room : length below.come ≤ node.rights.room
  pub carried : IsCarried n.made node.made after change (made_by n (rules_in (made_in other)) (rules_in mid))

-- the operand of this side is under way, where `on_left` and `on_right` say what that is
abbrev pub FollowsBy : (on_left on_right : ChangeOf → List (Held Made) → Type 0) → MemberChange → NodeOf → Node
    → (l r l' r' : TreeOf) → Side → (below change : ChangeOf) → List (Held Made) → Type 0
FollowsBy p q asked n node l r l' r' Left below change after = FollowsLeft p asked n node r r' below change after
FollowsBy p q asked n node l r l' r' Right below change after = FollowsRight q asked n node l l' below change after

abbrev pub Follows : (on_left on_right : ChangeOf → List (Held Made) → Type 0) → MemberChange → NodeOf → Node
    → (l r l' r' : TreeOf) → Option Below → ChangeOf → List (Held Made) → Type 0
Follows p q asked n node l r l' r' None change after = ⊥
Follows p q asked n node l r l' r' (Some b) change after =
    FollowsBy p q asked n node l r l' r' b.side b.change change after

-- the change is ready at each node from the member to the root, whose rules will be `after`
abbrev pub IsReadyIn : MemberChange → TreeOf → Tree → ChangeOf → List (Held Made) → Type 0
IsReadyIn asked (leaf i s before) (Member j t now) change after =
    (j ≡ i) × (t ≡ s) × (i ≡ asked.member)
    × IsCarried before now after change (changed_by asked (map item_of before))
IsReadyIn asked (branch n l r) (Operator' node p l' q r') change after =
    Follows (IsReadyIn asked l l') (IsReadyIn asked r r') asked n node l r (tree_of l') (tree_of r') node.below
    change after
IsReadyIn asked (leaf i s before) (Operator' node p l' q r') change after = ⊥
IsReadyIn asked (branch n l r) (Member j t now) change after = ⊥

-- the tree is one in which this change is ready
pub record IsUnderWay (tree : Tree) (change : ChangeOf) : Type 0 where
  pub asked : MemberChange
  pub before : TreeOf
  pub after : List (Held Made)
  pub can : CanChange asked before
  pub ready : IsReadyIn asked before tree change after

-- the change is settled: all is as it is to be, the rules at the root are those
pub record IsSettled (asked : MemberChange) (before now : TreeOf) (after : List (Held Made)) : Type 0 where
  pub is_tree : IsTree now
  pub changes : Changes asked before now
  pub root : IsPermutation (made_in now) after

-- a change of the left operand is ready, and can be carried on by the node
pub record CanCarryLeft (n : NodeOf) (left : Tree) (right : TreeOf) (below : ChangeOf) : Type 0 where
  pub asked : MemberChange
  pub before : TreeOf
  pub mid : List (Held Made)
  pub can : CanChange asked before
  pub ready : IsReadyIn asked before left below mid
  pub changes : LeftChanges n (made_in before) (made_in (tree_of left)) mid (made_in right) below

-- so is one of the right operand
pub record CanCarryRight (n : NodeOf) (left : TreeOf) (right : Tree) (below : ChangeOf) : Type 0 where
  pub asked : MemberChange
  pub before : TreeOf
  pub mid : List (Held Made)
  pub can : CanChange asked before
  pub ready : IsReadyIn asked before right below mid
  pub changes : RightChanges n (made_in before) (made_in (tree_of right)) mid (made_in left) below
