-- Policies are ready for agreement.
use Rattle.std.proofs.Common.{◌≡◌, ◌∙◌, sym, ap, subst, ℕ, suc, ◌<◌, ◌≤◌, Bool, List, [], ◌∷◌, length, None, Result, Ok}
use Rattle.std.proofs.Common.{Err, IfOk, arith, refl}
use Rattle.std.specs.List.{AllByRecursion, enumerate_from}
use Rattle.std.proofs.lemmas.List.FromFn.{length-enumerate_from}
use Rattle.policy_expr.specs.Policy.{Policy}
use Rattle.policies.specs.declared.fault.PolicyFault.{PolicyFault}
use Rattle.policies.specs.Exprs.{all_of, expr_of, exprs_of}
use Rattle.policies.specs.Outcomes.{then_do}
use Rattle.policies.specs.Policies.{PolicyOf, plan}
use Rattle.policies.specs.Sound.{IsPortNumber, IsSound, IsSoundSwitch}
use Rattle.policies.specs.Widths.{too_wide_in}
use Rattle.policies.proofs.Outcomes.{done}
use Rattle.policy_meaning.specs.declared.leaf.LeafTable.{LeafTable}
use Rattle.virtual_topology.specs.declared.plan.SwitchItem.{SwitchItem}
use Rattle.agreement.specs.Agree.{Agree, AreInstalled}
use Rattle.policy_setting.specs.OfPolicies.{AreSized, IsReady, PoliciesAreReady, seen, setting_of}
use Rattle.policy_setting.specs.Premises.{HaveNumbers, IsSoundTopology, TopologiesAreSound}
use Rattle.policy_setting.proofs.Parts.{all_weaker}
use Rattle.policy_setting.proofs.Sizes.{sizes_fit}

-- as many are read as there are
as_many : {A B : Type 0} (read : A → Result B PolicyFault) (xs : List A) (ys : List B) → all_of read xs ≡ Ok ys
    → length ys ≡ length xs
as_many read [] ys e = let p : [] ≡ ys = cc in ap length (sym p)
as_many {A} {B} read (x ∷ xs) ys e =
    let a = done (read x) _ ys e in
    let b = done (all_of read xs) _ ys a.second in
    let p : a.value ∷ b.value ≡ ys = cc b.second in
    ap length (sym p) ∙ ap suc (as_many read xs b.value b.first)

as_many_exprs : (p : PolicyOf) (exprs : List Policy) → exprs_of p.virtuals p.members ≡ Ok exprs
    → length exprs ≡ length p.virtuals
as_many_exprs p exprs e = as_many (expr_of p.members) (enumerate_from 0 p.virtuals) exprs e
    ∙ length-enumerate_from 0 p.virtuals

narrow : (p : PolicyOf) (exprs : List Policy) (r : Result (List Policy) PolicyFault) → r ≡ Ok exprs
    → IfOk r (λ exprs. too_wide_in (plan p) p.members exprs p.hops ≡ None)
    → too_wide_in (plan p) p.members exprs p.hops ≡ None
narrow p exprs (Ok es) e h = let q : es ≡ exprs = cc in
    subst (λ (es : List Policy). too_wide_in (plan p) p.members es p.hops ≡ None) q h
narrow p exprs (Err f) e h = absurd (cc)

below_max : (n : ℕ) → IsPortNumber n → n < 65280
below_max n h = let le = h.1 in omega arith

pub numbers_of : (p : PolicyOf) → IsSound p → HaveNumbers (plan p).switches
numbers_of p h = all_weaker IsSoundSwitch (λ (s : SwitchItem). AllByRecursion (λ n. n < 65280) s.ports)
    (λ s k. all_weaker IsPortNumber (λ n. n < 65280) below_max s.ports k.ports) p.switches h.limits.switches

pub ready : TopologiesAreSound → PoliciesAreReady
ready law p h exprs e tables up sized = record {
  topology = law (plan p) h.together.topology h.together.paths (numbers_of p h) exprs (seen p) tables up p.hops;
  some_hops = let le = h.limits.some_hops in omega arith;
  few_hops = h.limits.most_hops;
  sizes = sizes_fit (plan p) p.members exprs (seen p) tables up p.hops (as_many_exprs p exprs e) sized
      (narrow p exprs (exprs_of p.virtuals p.members) e h.together.widths);
}
