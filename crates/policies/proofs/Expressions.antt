-- Expressions, one after the other.
use Rattle.std.proofs.Common.{◌≡◌, ◌∙◌, sym, ap, ◌++◌, ◌⊎◌, inl, inr, List, [], ◌∷◌, ℕ, Result, Ok, Err, append_assoc}
use Rattle.std.proofs.Common.{refl}
use Rattle.std.proofs.lemmas.List.{append-nil}
use Rattle.policy_expr.specs.Policy as expr
use Rattle.policy_expr.specs.declared.fault.ExprFault.{ExprFault}
use Rattle.policy_expr.specs.declared.fault.ExprFault.TheVariants as faults
use Rattle.policy_expr.specs.Outcomes as outcomes
use Rattle.policies.specs.declared.fault.PolicyFault.{PolicyFault}
use Rattle.policies.specs.declared.fault.PolicyFault.TheVariants.{Memory, Expr}
use Rattle.policies.specs.Exprs.{all_of, or_fault}
use Rattle.policies.specs.Outcomes.{IsFaultOf, then_do}

pub one_more : {B : Type 0} (es : List B) (y : B) (r : Result (List B) PolicyFault)
    → then_do (then_do r (λ ys. Ok (y ∷ ys))) (λ ys. Ok (es ++ ys)) ≡ then_do r (λ ys. Ok ((es ++ y ∷ []) ++ ys))
one_more es y (Ok ys) = ap Ok (sym (append_assoc es (y ∷ []) ys))
one_more es y (Err fault) = refl

-- the next one is read
pub all_next : {X B : Type 0} (f : X → Result B PolicyFault) (ds rest : List X) (x : X) (before after : List B) (y : B)
    (wanted : Result (List B) PolicyFault)
    → ds ≡ x ∷ rest → f x ≡ Ok y → after ≡ before ++ y ∷ [] → then_do (all_of f ds) (λ ys. Ok (before ++ ys)) ≡ wanted
    → then_do (all_of f rest) (λ ys. Ok (after ++ ys)) ≡ wanted
all_next {X} {B} f ds rest x before after y wanted d e a h =
    let more : then_do (all_of f rest) (λ ys. Ok (after ++ ys))
    ≡ then_do (all_of f rest) (λ ys. Ok ((before ++ y ∷ []) ++ ys)) =
    ap (λ (m : List B). then_do (all_of f rest) (λ ys. Ok (m ++ ys))) a in
    let read : all_of f (x ∷ rest) ≡ then_do (all_of f rest) (λ ys. Ok (y ∷ ys)) =
    ap (λ (r : Result B PolicyFault). then_do r (λ z. then_do (all_of f rest) (λ ys. Ok (z ∷ ys)))) e in
    more ∙ (sym (one_more before y (all_of f rest))
    ∙ (sym (ap (λ (r : Result (List B) PolicyFault). then_do r (λ ys. Ok (before ++ ys))) read)
    ∙ (sym (ap (λ (l : List X). then_do (all_of f l) (λ ys. Ok (before ++ ys))) d) ∙ h)))

-- none is left
pub all_read : {X B : Type 0} (f : X → Result B PolicyFault) (ds : List X) (before : List B)
    (wanted : Result (List B) PolicyFault)
    → ds ≡ [] → then_do (all_of f ds) (λ ys. Ok (before ++ ys)) ≡ wanted → wanted ≡ Ok before
all_read {X} {B} f ds before wanted d h = sym h
    ∙ (ap (λ (l : List X). then_do (all_of f l) (λ ys. Ok (before ++ ys))) d ∙ ap Ok (append-nil before))

-- the fault of an expression, as that of a policy
pub named_fault : (name : List ℕ) (given : Result expr.Policy ExprFault) (fault : ExprFault) (out : PolicyFault)
    → outcomes.IsFaultOf given fault → (out ≡ Memory) ⊎ (out ≡ Expr name fault) → (fault ≡ faults.Memory → out ≡ Memory)
    → IsFaultOf (or_fault name given) out
named_fault name given faults.Memory out h p m = inl (m refl)
named_fault name given (faults.Syntax at) out h p m = elim p [ inl e ↦ inl e | inr e ↦ inr (rw (h, e) refl) ]
named_fault name given (faults.Unknown n) out h p m = elim p [ inl e ↦ inl e | inr e ↦ inr (rw (h, e) refl) ]
named_fault name given (faults.Twice n) out h p m = elim p [ inl e ↦ inl e | inr e ↦ inr (rw (h, e) refl) ]
named_fault name given (faults.Unused n) out h p m = elim p [ inl e ↦ inl e | inr e ↦ inr (rw (h, e) refl) ]
named_fault name given (faults.TooMany n) out h p m = elim p [ inl e ↦ inl e | inr e ↦ inr (rw (h, e) refl) ]
named_fault name given (faults.ParallelLeft n) out h p m = elim p [ inl e ↦ inl e | inr e ↦ inr (rw (h, e) refl) ]
