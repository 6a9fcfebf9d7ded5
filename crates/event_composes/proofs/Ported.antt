-- The ports of a virtual switch are the same whatever its expression is, and what its members keep.
use Rattle.std.proofs.Common.{◌≡◌, ◌∙◌, ℕ, Bool, List, Some, None, sym, ap}
use Rattle.std.specs.Prelude.{option_map, slice_get}
use Rattle.policy_expr.specs.Policy.{Policy}
use Rattle.policies.specs.Policies.{PolicyOf, plan}
use Rattle.policy_meaning.specs.Networks.{ports_of}
use Rattle.policy_setting.specs.Networks.{virtual_switch}
use Rattle.policy_setting.specs.OfPolicies.{seen}
use Rattle.policy_setting.specs.Settings.{expr_at, holds_at}
use Rattle.policy_setting.proofs.Placing.{switch_at}
use Rattle.virtual_topology.specs.declared.plan.VirtualItem.{VirtualItem}
use Rattle.event_composes.specs.Turning.{ArePortsAt}

pub ports_there : (p : PolicyOf) (v : ℕ) (item : VirtualItem) (expr : Policy) (all : Bool) (ports : List ℕ)
    → slice_get p.virtuals v ≡ Some item → ports ≡ ports_of (virtual_switch (plan p) expr all (v, item))
    → ArePortsAt p v ports
ports_there p v item expr all ports there is exprs members switches x at =
    let made = switch_at (plan p) exprs (seen p) v
    ∙ ap (option_map (λ (y : VirtualItem). virtual_switch (plan p) (expr_at exprs v) (holds_at (seen p) v) (v, y)))
    there
    in
    let both = sym at ∙ made in
    let same : x ≡ virtual_switch (plan p) (expr_at exprs v) (holds_at (seen p) v) (v, item) = cc in
    ap ports_of same ∙ sym is

-- where there is no such virtual switch
pub ports_nowhere : (p : PolicyOf) (v : ℕ) (ports : List ℕ) → slice_get p.virtuals v ≡ None → ArePortsAt p v ports
ports_nowhere p v ports none exprs members switches x at =
    let made = switch_at (plan p) exprs (seen p) v
    ∙ ap (option_map (λ (y : VirtualItem). virtual_switch (plan p) (expr_at exprs v) (holds_at (seen p) v) (v, y))) none
    in
    let both = sym at ∙ made in
    absurd (cc)
