-- Which texts are accepted as expressions over the members, and which fault each other text has.
use Rattle.std.specs.Prelude.{◌≡◌, ℕ, ◌<◌, ◌≤◌, ◌⊎◌, List, None, Some, length}
use Rattle.policy_expr.specs.declared.member.MemberName.{MemberName}
use Rattle.policy_expr.specs.declared.fault.ExprFault.{ExprFault}
use Rattle.policy_expr.specs.declared.fault.ExprFault.TheVariants.{Syntax, Unknown, Twice, Unused, TooMany}
use Rattle.policy_expr.specs.declared.fault.ExprFault.TheVariants.{ParallelLeft, Memory}
use Rattle.policy_expr.specs.Policy.{Policy}
use Rattle.policy_expr.specs.Signs.{signs_of}
use Rattle.policy_expr.specs.Reading.{Read, refusal}
use Rattle.policy_expr.specs.Grammar.{IsExpression, IsFirstFault, bare, names_in}

-- a tree with the names that stand in the text
abbrev pub read_as : List ℕ → Policy → Read
read_as text p = record { policy = p; names = names_in (bare (signs_of text)) }

-- the text derives from the grammar with this tree, and breaks no rule on names
pub record IsAccepted (members : List MemberName) (text : List ℕ) (p : Policy) : Type 0 where
  pub expression : IsExpression members text p
  pub rules : refusal members (read_as text p) ≡ None

-- the text derives from the grammar, and the first rule that it breaks is this one
abbrev pub BreaksRule : List MemberName → List ℕ → ExprFault → Type 0
BreaksRule members text fault = (p : Policy) × IsExpression members text p
    × (refusal members (read_as text p) ≡ Some fault)

-- a text that is too long, or the first place at which it does not go on as an expression
abbrev pub IsSyntaxFault : List MemberName → List ℕ → ℕ → Type 0
IsSyntaxFault members text at =
    ((1024 < length text) × (at ≡ 1024))
    ⊎ ((length text ≤ 1024) × IsFirstFault members (length text) (signs_of text) at)

-- the fault of a text; want of memory is none
abbrev pub IsFaultIn : List MemberName → List ℕ → ExprFault → Type 0
IsFaultIn members text (Syntax at) = IsSyntaxFault members text at
IsFaultIn members text (Unknown name) = BreaksRule members text (Unknown name)
IsFaultIn members text (Twice name) = BreaksRule members text (Twice name)
IsFaultIn members text (Unused name) = BreaksRule members text (Unused name)
IsFaultIn members text (TooMany leaves) = BreaksRule members text (TooMany leaves)
IsFaultIn members text (ParallelLeft name) = BreaksRule members text (ParallelLeft name)
IsFaultIn members text Memory = Unit {0}

-- a text has one tree at most
abbrev pub HasOneTree : Type 0
HasOneTree = (members : List MemberName) (text : List ℕ) (p q : Policy) → IsExpression members text p
    → IsExpression members text q → p ≡ q
