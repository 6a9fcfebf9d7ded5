-- A virtual switch gets another expression.
use Rattle.std.specs.Prelude.{ℕ, Bool, ◌&&◌, nat_lt, nat_le, List, [], ◌∷◌, ◌++◌, Option, Some, None, Result, Ok, Err}
use Rattle.std.specs.Prelude.{codes, length}
use Rattle.member_replies.specs.Audit.{policy_line}
use Rattle.policy_expr.specs.Policy.{Policy}
use Rattle.policy_expr.specs.Reading.{reading}
use Rattle.policy_expr.specs.declared.fault.ExprFault.{ExprFault}
use Rattle.policies.specs.Exprs.{names}
use Rattle.policies.specs.Policies.{PolicyOf, plan}
use Rattle.policies.specs.Terse.{expr_kind}
use Rattle.policies.specs.Widths.{too_wide_in}
use Rattle.policies.specs.declared.fault.PolicyFault.{PolicyFault}
use Rattle.policies.specs.declared.fault.PolicyFault.TheVariants as faults
use Rattle.machine_meaning.specs.Drafts.{Draft}
use Rattle.machine_meaning.specs.Lists.{changed_at}
use Rattle.machine_meaning.specs.Names.{virtual_name}
use Rattle.events.specs.declared.event.PolicyRefusal.{PolicyRefusal}
use Rattle.events.specs.declared.event.PolicyRefusal.TheVariants.{Expr, TooWide}
use Rattle.events.specs.declared.event.Reply.TheVariants.{Refused, Replaced}

-- the virtual switch is there, and the text isn't longer than an expression may be
abbrev pub is_expression_for : PolicyOf → ℕ → List ℕ → Bool
is_expression_for p v text = nat_lt v (length p.virtuals) && nat_le (length text) 1024

-- the word for a refusal
abbrev pub refusal_kind : PolicyRefusal → List ℕ
refusal_kind (Expr fault) = expr_kind fault
refusal_kind (TooWide needed limit) = codes "toowide"

-- a virtual switch would need more levels of priority than there are
abbrev pub width_refusal : Option PolicyFault → Option PolicyRefusal
width_refusal (Some (faults.TooWide name needed limit)) = Some (TooWide needed limit)
width_refusal _ = None

-- the expressions with another one for a virtual switch
abbrev pub exprs_with : ℕ → Policy → List Policy → List Policy
exprs_with v e exprs = changed_at v (λ old. e) exprs

-- the virtual switch keeps its expression
abbrev pub refuse_expr : PolicyOf → ℕ → PolicyRefusal → Draft → Draft
refuse_expr p v refusal d = record d {
  reply = Refused refusal;
  policies = d.policies ++ policy_line (virtual_name p v) (Some (refusal_kind refusal)) ∷ [];
}

-- it gets the other
abbrev pub replace_expr : PolicyOf → ℕ → Policy → Draft → Draft
replace_expr p v e d = record d {
  state = record d.state { exprs = exprs_with v e d.state.exprs };
  reply = Replaced;
  policies = d.policies ++ policy_line (virtual_name p v) None ∷ [];
}

abbrev pub replace_unless : Option PolicyRefusal → PolicyOf → ℕ → Policy → Draft → Draft
replace_unless (Some refusal) p v e d = refuse_expr p v refusal d
replace_unless None p v e d = replace_expr p v e d

-- a text that is no expression of the virtual switch is refused, and then one by which there aren't enough levels
abbrev pub replace_by : PolicyOf → ℕ → Result Policy ExprFault → Draft → Draft
replace_by p v (Err fault) d = refuse_expr p v (Expr fault) d
replace_by p v (Ok e) d =
    replace_unless (width_refusal (too_wide_in (plan p) p.members (exprs_with v e d.state.exprs) p.hops)) p v e d

abbrev pub replaces : PolicyOf → ℕ → List ℕ → Draft → Draft
replaces p v text d = replace_by p v (reading (names p.members v) text) d
