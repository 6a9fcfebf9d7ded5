-- The expressions of the virtual switches.
use Rattle.std.specs.Prelude.{ℕ, ◌==◌, Bool, List, [], ◌∷◌, Option, Some, None, Result, Ok, Err, if◌then◌else◌, nat_lt}
use Rattle.std.specs.Prelude.{filter_map}
use Rattle.std.specs.List.{enumerate_from}
use Rattle.policy_expr.specs.declared.member.MemberName.{MemberName}
use Rattle.policy_expr.specs.declared.fault.ExprFault.{ExprFault}
use Rattle.policy_expr.specs.Policy as expr
use Rattle.policy_expr.specs.Reading.{reading}
use Rattle.virtual_topology.specs.declared.plan.VirtualItem.{VirtualItem}
use Rattle.policies.specs.declared.fault.PolicyFault.{PolicyFault}
use Rattle.policies.specs.declared.fault.PolicyFault.TheVariants as faults
use Rattle.policies.specs.declared.policy.MemberItem.{MemberItem}
use Rattle.policies.specs.Outcomes.{then_do}

-- no kind of action but output and controller, whose bits are 0 and 1
abbrev pub is_plain : ℕ → Bool
is_plain actions = nat_lt actions 4

-- a member as an expression may name it
abbrev pub name_of : ℕ × MemberItem → MemberName
name_of m = record { name = m.1.controller; index = m.0; plain = is_plain m.1.grant.actions }

-- a member of this virtual switch
abbrev pub is_of : ℕ → ℕ × MemberItem → Bool
is_of v m = m.1.grant.ports.v == v

-- the name that an expression of the virtual switch may have of a member
abbrev pub name_at : ℕ → ℕ × MemberItem → Option MemberName
name_at v m = if is_of v m then Some (name_of m) else None

-- the members of a virtual switch
abbrev pub names : List MemberItem → ℕ → List MemberName
names members v = filter_map (name_at v) (enumerate_from 0 members)

abbrev pub or_fault : List ℕ → Result expr.Policy ExprFault → Result expr.Policy PolicyFault
or_fault name (Ok p) = Ok p
or_fault name (Err fault) = Err (faults.Expr name fault)

-- the expression of a virtual switch
abbrev pub expr_of : List MemberItem → ℕ × VirtualItem → Result expr.Policy PolicyFault
expr_of members v = or_fault v.1.name (reading (names members v.0) v.1.expr)

-- a list of what is read of each, or the first fault
abbrev pub all_of : {A B : Type 0} → (A → Result B PolicyFault) → List A → Result (List B) PolicyFault
all_of read [] = Ok []
all_of read (x ∷ xs) = then_do (read x) (λ y. then_do (all_of read xs) (λ ys. Ok (y ∷ ys)))

-- the expressions, by virtual switch
abbrev pub exprs_of : List VirtualItem → List MemberItem → Result (List expr.Policy) PolicyFault
exprs_of virtuals members = all_of (expr_of members) (enumerate_from 0 virtuals)
