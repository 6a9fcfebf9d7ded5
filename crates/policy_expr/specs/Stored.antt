-- A code of policies, by which values that hold them are told apart: the policy in postfix form.
use Rattle.std.specs.Prelude.{◌≡◌, ℕ, zero, suc, List, [], ◌∷◌, refl}
use Rattle.std.proofs.Common.{◌∙◌, ap}
use Rattle.std.specs.Coded.{Coded, code_by, coded_list, coded_ℕ}
use Rattle.policy_expr.specs.Policy.{Policy, member, parallel, sequential, override}

-- the policy in postfix form, before some more numbers: 0, 1 and 2 compose the two policies before, others are members
abbrev pub written : Policy → List ℕ → List ℕ
written (member i) more = suc (suc (suc i)) ∷ more
written (parallel a b) more = written a (written b (0 ∷ more))
written (sequential a b) more = written a (written b (1 ∷ more))
written (override a b) more = written a (written b (2 ∷ more))

-- the policies so far, the last first, with the last two composed
abbrev pub composed : (Policy → Policy → Policy) → List Policy → List Policy
composed with (b ∷ (a ∷ ps)) = with a b ∷ ps
composed with (b ∷ []) = b ∷ []
composed with [] = []

-- the policies after one more number
abbrev pub after : List Policy → ℕ → List Policy
after ps zero = composed parallel ps
after ps (suc zero) = composed sequential ps
after ps (suc (suc zero)) = composed override ps
after ps (suc (suc (suc i))) = member i ∷ ps

abbrev pub read : List Policy → List ℕ → List Policy
read ps [] = ps
read ps (n ∷ ns) = read (after ps n) ns

-- what is read after a policy
pub read-written : (p : Policy) (ps : List Policy) (more : List ℕ) → read ps (written p more) ≡ read (p ∷ ps) more
read-written (member i) ps more = refl
read-written (parallel a b) ps more = read-written a ps (written b (0 ∷ more)) ∙ read-written b (a ∷ ps) (0 ∷ more)
read-written (sequential a b) ps more = read-written a ps (written b (1 ∷ more)) ∙ read-written b (a ∷ ps) (1 ∷ more)
read-written (override a b) ps more = read-written a ps (written b (2 ∷ more)) ∙ read-written b (a ∷ ps) (2 ∷ more)

abbrev pub first : List Policy → Policy
first [] = member 0
first (p ∷ ps) = p

pub first-read : (p : Policy) → first (read [] (written p [])) ≡ p
first-read p = ap first (read-written p [] [])

-- a policy is stored as these numbers
abbrev pub policy_code : Coded Policy
policy_code = code_by (List ℕ) (coded_list coded_ℕ) (λ p. written p []) (λ ns. first (read [] ns)) first-read
