-- What fits together is sound.
use Rattle.std.proofs.Common.{◌≡◌, ◌∙◌, sym, List, ℕ, Option, Some, None, Result, Ok, Err, IsOk, IfOk, rules, refl}
use Rattle.std.specs.Option.{option_map}
use Rattle.policy_expr.specs.Policy as expr
use Rattle.policies.specs.declared.fault.PolicyFault.{PolicyFault}
use Rattle.policies.specs.Exprs.{exprs_of}
use Rattle.policies.specs.Outcomes.{then_do, unless}
use Rattle.policies.specs.Policies.{PolicyOf, plan}
use Rattle.policy_file.specs.Reading.{draft_of, fits, policy_of, topology_fault, path_fault}
use Rattle.policies.specs.Sound.{FitsTogether, IsSound}
use Rattle.policies.specs.Widths.{too_wide_in}
use Rattle.toml.specs.Data.{Members}
use Rattle.policy_file.specs.declared.reading.Draft.{Draft}
use Rattle.policy_file.proofs.Standing.{limits_kept}
use Rattle.policies.proofs.Outcomes.{done, none_before}

none_mapped : {A B : Type 0} (f : A → B) (o : Option A) → option_map f o ≡ None → o ≡ None
none_mapped f None e = refl
none_mapped f (Some x) e = absurd (cc)

pub fits_together : (p : PolicyOf) → fits p ≡ Ok tt → FitsTogether p
fits_together p e =
    let a = done (exprs_of p.virtuals p.members)
    (λ exprs. unless (topology_fault (plan p))
    (unless (path_fault (plan p)) (unless (too_wide_in (plan p) p.members exprs p.hops) (Ok tt)))) tt e in
    let b = none_before (topology_fault (plan p))
    (unless (path_fault (plan p)) (unless (too_wide_in (plan p) p.members a.value p.hops) (Ok tt))) tt a.second in
    let c = none_before (path_fault (plan p)) (unless (too_wide_in (plan p) p.members a.value p.hops) (Ok tt)) tt
    b.rest in
    let d = none_before (too_wide_in (plan p) p.members a.value p.hops) (Ok tt) tt c.rest in
    record {
      expressions = rw a.first refl;
      topology = none_mapped _ _ b.none;
      paths = none_mapped _ _ c.none;
      widths = rw a.first d.none;
    }

-- a policy whose keys were read and that fits together is sound
pub sound : (file : Members) (d : Draft) → draft_of file ≡ Ok d → fits (policy_of d) ≡ Ok tt → IsSound (policy_of d)
sound file d e f = record { limits = limits_kept file d e; together = fits_together (policy_of d) f }
