-- A policy's expression without its boxes: which members act, and how they are composed.
use Rattle.std.specs.Prelude.{ℕ, List, [], ◌∷◌, ◌++◌}
use Rattle.policy_expr.specs.declared.expr.Expr.{Expr}
use Rattle.policy_expr.specs.declared.expr.Expr.TheVariants.{Member, Par', Seq', Over'}

-- A member alone; both act; the left, then the right where the left passes a packet on; the left where it
-- is touched, else the right.
pub data Policy : Type 0 where
  member : ℕ → Policy
  parallel : Policy → Policy → Policy
  sequential : Policy → Policy → Policy
  override : Policy → Policy → Policy

-- the policy that an expression of the program stands for
abbrev pub policy_of : Expr → Policy
policy_of (Member index) = member index
policy_of (Par' p left q right) = parallel (policy_of left) (policy_of right)
policy_of (Seq' p left q right) = sequential (policy_of left) (policy_of right)
policy_of (Over' p left q right) = override (policy_of left) (policy_of right)

-- the members of the leaves, from left to right
abbrev pub members_of : Policy → List ℕ
members_of (member index) = index ∷ []
members_of (parallel a b) = members_of a ++ members_of b
members_of (sequential a b) = members_of a ++ members_of b
members_of (override a b) = members_of a ++ members_of b
