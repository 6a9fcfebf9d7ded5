-- A virtual switch that gets another expression leaves expressions as they are to be.
use Rattle.std.proofs.Common.{◌≡◌, ◌∙◌, ℕ, zero, suc, ◌+◌, Bool, true, false, List, [], ◌∷◌, map, zip, Option, Some}
use Rattle.std.proofs.Common.{None, Result, Ok, nat_le, refl, ap, if◌then◌else◌}
use Rattle.std.specs.List.{enumerate_from}
use Rattle.std.specs.Option.{option_or}
use Rattle.policy_expr.specs.Policy.{Policy}
use Rattle.policy_expr.specs.Reading.{reading}
use Rattle.policy_expr.specs.declared.fault.ExprFault.{ExprFault}
use Rattle.policies.proofs.Outcomes.{done}
use Rattle.policies.specs.Exprs.{all_of, expr_of, names, or_fault}
use Rattle.policies.specs.Outcomes.{then_do}
use Rattle.policies.specs.Policies.{PolicyOf, plan}
use Rattle.policies.specs.Widths.{too_wide_at, too_wide_in, width, size}
use Rattle.policies.specs.declared.fault.PolicyFault.{PolicyFault}
use Rattle.policies.specs.declared.fault.PolicyFault.TheVariants.{TooWide}
use Rattle.policies.specs.declared.policy.MemberItem.{MemberItem}
use Rattle.virtual_topology.specs.Faults.{first_answer}
use Rattle.virtual_topology.specs.declared.plan.VirtualItem.{VirtualItem}
use Rattle.machine_meaning.specs.Lists.{changed_at}
use Rattle.machine_meaning.specs.Replacing.{exprs_with, width_refusal}
use Rattle.machine_meaning.specs.Sound.{AreExpressions, with_text}
use Rattle.machine_meaning.proofs.Numbered.{behind, from_zero, here}
use Rattle.machine_meaning.proofs.Readied.{long_changed}

-- reading -----------------------------------------------------------------------------------------------------------

module _ (members : List MemberItem) where
  -- what is read of texts at virtual switches from a number on
  abbrev read_from : ℕ → List VirtualItem → List (List ℕ) → Result (List Policy) PolicyFault
  read_from k vs texts = all_of (expr_of members) (enumerate_from k (map with_text (zip vs texts)))

  -- where nothing is read nothing changes
  nothing_read : (v : ℕ) (e : Policy) (exprs : List Policy) (nothing : Result (List Policy) PolicyFault)
      → nothing ≡ Ok [] → nothing ≡ Ok exprs → nothing ≡ Ok (exprs_with v e exprs)
  nothing_read v e [] nothing h k = k
  nothing_read v e (x ∷ xs) nothing h k = absurd (cc)

  -- one and then the others
  abbrev one_more : Policy → Result (List Policy) PolicyFault → Result (List Policy) PolicyFault
  one_more e r = then_do r (λ es. Ok (e ∷ es))

  -- with another text at one of them that is read, its expression is there
  another_read : (v k : ℕ) (vs : List VirtualItem) (texts : List (List ℕ)) (exprs : List Policy) (text : List ℕ)
      (e : Policy) → reading (names members (k + v)) text ≡ Ok e → read_from k vs texts ≡ Ok exprs
      → read_from k vs (changed_at v (λ old. text) texts) ≡ Ok (exprs_with v e exprs)
  another_read v k [] texts exprs text e r h = nothing_read v e exprs (Ok []) refl h
  another_read v k (x ∷ vs) [] exprs text e r h = nothing_read v e exprs (Ok []) refl h
  another_read zero k (x ∷ vs) (t ∷ texts) exprs text e r h =
      let first = done (expr_of members (k, with_text (x, t))) (λ y. one_more y (read_from (k + 1) vs texts)) exprs h in
      let second = done (read_from (k + 1) vs texts) (λ ys. Ok (first.value ∷ ys)) exprs first.second in
      let joined : first.value ∷ second.value ≡ exprs = cc second.second in
      let new : reading (names members k) text ≡ Ok e = ap (λ (i : ℕ). reading (names members i) text) (here k) ∙ r in
      let next : Policy → Result (List Policy) PolicyFault = λ y. one_more y (read_from (k + 1) vs texts) in
      ap (λ (o : Result Policy ExprFault). then_do (or_fault x.name o) next) new
      ∙ (ap (one_more e) second.first ∙ ap (λ (es : List Policy). Ok (exprs_with 0 e es)) joined)
  another_read (suc v) k (x ∷ vs) (t ∷ texts) exprs text e r h =
      let first = done (expr_of members (k, with_text (x, t))) (λ y. one_more y (read_from (k + 1) vs texts)) exprs h in
      let second = done (read_from (k + 1) vs texts) (λ ys. Ok (first.value ∷ ys)) exprs first.second in
      let joined : first.value ∷ second.value ≡ exprs = cc second.second in
      let changed : List (List ℕ) = changed_at v (λ old. text) texts in
      let rest =
      another_read v (k + 1) vs texts second.value text e
      (ap (λ (i : ℕ). reading (names members i) text) (behind k v) ∙ r) second.first in
      ap (λ (o : Result Policy PolicyFault). then_do o (λ y. one_more y (read_from (k + 1) vs changed))) first.first
      ∙ (ap (one_more first.value) rest ∙ ap (λ (es : List Policy). Ok (exprs_with (suc v) e es)) joined)

-- levels ------------------------------------------------------------------------------------------------------------

-- what isn't refused isn't too wide
fits : (needed : ℕ → ℕ) (vs : List (ℕ × VirtualItem)) → width_refusal (first_answer (too_wide_at needed) vs) ≡ None
    → first_answer (too_wide_at needed) vs ≡ None
fits needed [] e = refl
fits needed (v ∷ vs) e = by (nat_le (needed v.0) 65534) e (fits needed vs)
  where
    rest : Option PolicyFault
    rest = first_answer (too_wide_at needed) vs

    by : (b : Bool)
        → width_refusal (option_or (if b then None else Some (TooWide v.1.name (needed v.0) 65534)) rest) ≡ None
        → (width_refusal rest ≡ None → rest ≡ None)
        → option_or (if b then None else Some (TooWide v.1.name (needed v.0) 65534)) rest ≡ None
    by true e f = f e
    by false e f = absurd (cc)

-- all ---------------------------------------------------------------------------------------------------------------

pub replaced_expressions : (p : PolicyOf) (v : ℕ) (text : List ℕ) (e : Policy) (exprs : List Policy)
    → AreExpressions p exprs → reading (names p.members v) text ≡ Ok e
    → width_refusal (too_wide_in (plan p) p.members (exprs_with v e exprs) p.hops) ≡ None
    → AreExpressions p (exprs_with v e exprs)
replaced_expressions p v text e exprs h read wide = record {
  texts = changed_at v (λ old. text) h.texts;
  long = long_changed v (λ old. text) h.texts ∙ h.long;
  read =
      another_read p.members v 0 p.virtuals h.texts exprs text e
      (ap (λ (i : ℕ). reading (names p.members i) text) (from_zero v) ∙ read) h.read;
  fit =
      fits (width (plan p) (map (size p.members) (exprs_with v e exprs)) p.hops)
      (enumerate_from 0 p.virtuals) wide;
}
