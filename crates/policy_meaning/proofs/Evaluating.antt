-- What the evaluation of operands gives for the whole.
use Rattle.std.proofs.Common.{◌≡◌, ℕ, refl}
use Rattle.of10_match.specs.Fields.{HeaderOf}
use Rattle.of10_actions.specs.Fields.{RewriteOf}
use Rattle.of10_actions.specs.Rewriting.{apply}
use Rattle.of10_actions.specs.declared.effects.Tail.TheVariants.{Pass}
use Rattle.policy_expr.specs.Policy.{Policy, sequential, override}
use Rattle.policy_meaning.specs.Meaning.{evaluate, passed_on, first_touched}
use Rattle.policy_meaning.specs.declared.meaning.Meaning.{Meaning}

pub chain-evaluated : (leaf : ℕ → HeaderOf → Meaning) (a b : Policy) (h : HeaderOf) (x y : Meaning) (r : RewriteOf)
    → x ≡ evaluate leaf a h → x.tail ≡ Pass r → y ≡ evaluate leaf b (apply r h) →
    passed_on (Pass r) x (λ s. y) ≡ evaluate leaf (sequential a b) h
chain-evaluated leaf a b h x y r e t f = rw (← e, t, ← f) refl

pub shift-evaluated : (leaf : ℕ → HeaderOf → Meaning) (a b : Policy) (h : HeaderOf) (x y z : Meaning)
    → x ≡ evaluate leaf a h → y ≡ evaluate leaf b h → z ≡ first_touched x y → z ≡ evaluate leaf (override a b) h
shift-evaluated leaf a b h x y z e f g = rw (← e, ← f) g
