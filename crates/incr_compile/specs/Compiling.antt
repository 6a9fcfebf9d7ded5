-- A compiled expression: which rules it holds, and how they change with those of a member.
use Rattle.std.specs.Prelude.{◌≡◌, ◌≢◌, ℕ, Bool, not, ◌==◌, ◌&&◌, ◌<◌, ◌^◌, ◌++◌, List, IsPermutation, filter}
use Rattle.std.specs.Prelude.{if◌then◌else◌, map, slice_get}
use Rattle.std.specs.List.{AllByRecursion, list_any}
use Rattle.cv_io.specs.declared.leaf.Leaf.{Leaf}
use Rattle.of10_match.specs.Normal.{IsNormal}
use Rattle.op_compose.specs.declared.op.Op.{Op}
use Rattle.op_compose.specs.declared.op.Op.TheVariants.{Par, Seq, Over, Hop}
use Rattle.policy_expr.specs.Policy.{Policy, member, parallel, sequential, override}
use Rattle.policy_meaning.specs.Networks.{table_rules, table_size}
use Rattle.policy_meaning.specs.declared.leaf.LeafTable.{LeafTable}
use Rattle.policy_meaning.specs.declared.rule.Rule.{Rule}
use Rattle.rule_ancestry.specs.Holding.{Held, item_of}
use Rattle.made_rules.specs.Rules.{rule_of}
use Rattle.made_rules.specs.declared.made.Made.{Made}
use Rattle.made_rules.specs.declared.made.Origin.{Origin}
use Rattle.made_rules.specs.declared.made.Origin.TheVariants.{Leaf as OfLeaf}
use Rattle.of10_match.specs.Ranges.{IsMatch}
use Rattle.incr_compile.specs.Nodes.{NodeOf, whole_size}
use Rattle.incr_compile.specs.Trees.{IsBranch, IsTree, TreeOf, branch, has_member, leaf, made_in, tree_size}
use Rattle.incr_compile.specs.declared.compiled.LeafDelta.{LeafDelta}
use Rattle.incr_compile.specs.declared.tree.MemberChange.{MemberChange}

-- the expression of an operator over two
abbrev pub composed_by : Op → Policy → Policy → Policy
composed_by Par a b = parallel a b
composed_by Seq a b = sequential a b
composed_by Over a b = override a b
composed_by Hop a b = sequential a b

-- the expression that a tree stands for
abbrev pub policy_in : TreeOf → Policy
policy_in (leaf i size made) = member i
policy_in (branch n l r) = composed_by n.op (policy_in l) (policy_in r)

-- rules without their ids and origins
abbrev pub rules_held : List (Held Made) → List Rule
rules_held held = map rule_of (map item_of held)

-- the rules that a tree holds at its root
abbrev pub rules_at : TreeOf → List Rule
rules_at t = rules_held (made_in t)

-- how many levels the rules of a member have
abbrev pub member_size : ℕ → TreeOf → ℕ
member_size i (leaf j size made) = size
member_size i (branch n l r) = if has_member i l then member_size i l else member_size i r

-- the members of the tree have these sizes and, in any order, these rules
abbrev pub IsOf : (sizes : ℕ → ℕ) → (rules : ℕ → List Rule) → TreeOf → Type 0
IsOf sizes rules (leaf i size made) = (size ≡ sizes i) × IsPermutation (rules_held made) (rules i)
IsOf sizes rules (branch n l r) = IsOf sizes rules l × IsOf sizes rules r

-- the members are those of these tables, at a virtual switch of these ports
abbrev pub IsOfTables : List LeafTable → List ℕ → TreeOf → Type 0
IsOfTables tables ports t =
    IsOf (λ i. table_size (slice_get tables i)) (λ i. table_rules ports (slice_get tables i)) t

abbrev pub same_leaf : Leaf → Leaf → Bool
same_leaf l m = (l.member == m.member) && (l.kind == m.kind)

-- the rule is made of none of these leaves
abbrev pub is_apart_from : List Leaf → Rule → Bool
is_apart_from leaves r = not (list_any (λ l. list_any (same_leaf l) leaves) r.ancestry)

-- the rules of a member after a change: those that come, and those of none of the leaves that go
abbrev pub rules_after : LeafDelta → List Rule → List Rule
rules_after delta rules = delta.come ++ filter (is_apart_from delta.gone) rules

-- from one to the other only the rules of the member change, and so
pub record MemberChanges (delta : LeafDelta) (before after : ℕ → List Rule) : Type 0 where
  pub others : (i : ℕ) → i ≢ delta.member → after i ≡ before i
  pub changed : IsPermutation (rules_after delta (before delta.member)) (after delta.member)

-- the rules that come have normal matches, and levels below those of the member
pub record IsMemberDelta (delta : LeafDelta) (t : TreeOf) : Type 0 where
  pub normal : AllByRecursion (λ (r : Rule). IsNormal r.m) delta.come
  pub below : AllByRecursion (λ (r : Rule). r.level < member_size delta.member t) delta.come

-- a leaf as an origin
abbrev pub by_leaf : Leaf → Origin
by_leaf l = OfLeaf l

-- the rule is found by its leaves, and its match is in range
pub record IsByLeaves (m : Made) : Type 0 where
  pub origins : m.origins ≡ map by_leaf m.rule.ancestry
  pub in_range : IsMatch m.rule.m

-- what is asked of a tree is what a change of a member says
pub record Asks (delta : LeafDelta) (asked : MemberChange) : Type 0 where
  pub member : asked.member ≡ delta.member
  pub gone : asked.gone.items ≡ map by_leaf delta.gone
  pub come : map rule_of asked.come.items ≡ delta.come

-- the tree of an expression over these tables
pub record IsBuilt (tables : List LeafTable) (ports : List ℕ) (e : Policy) (t : TreeOf) : Type 0 where
  pub is_tree : IsTree t
  pub tables_are : IsOfTables tables ports t
  pub policy : policy_in t ≡ e

-- an operator can stand over two trees, of which the right one has `size` levels
pub record CanBeOver (op : Op) (size : ℕ) (left right : TreeOf) : Type 0 where
  pub operator : op ≢ Hop
  pub left_tree : IsTree left
  pub right_tree : IsTree right
  pub size_is : size ≡ tree_size right
  pub whole : whole_size op (tree_size left) (tree_size right) < 2 ^ 64

-- an operator over two trees, whose rules are what it makes of theirs
pub record IsOver (op : Op) (left right : TreeOf) (t : TreeOf) : Type 0 where
  pub node : NodeOf
  pub is_op : node.op ≡ op
  pub is_branch : IsBranch node left right
  pub over : t ≡ branch node left right
