-- What is built of a state is kept of it.
use Rattle.std.proofs.Common.{◌≡◌, ◌∙◌, Some, true, subst}
use Rattle.std.specs.Prelude.{IfOk, Err, Ok, Result, is_some}
use Rattle.agreement.specs.declared.state.Setting.{Setting}
use Rattle.composed_tables.specs.Composing.{ComposedOf, IsOf}
use Rattle.composed_tables.specs.Rules.{RulesOf}
use Rattle.policies.specs.Policies.{PolicyOf, plan}
use Rattle.virtual_topology.specs.declared.plan.TopologyPlan.{TopologyPlan}
use Rattle.machine_meaning.specs.Settings.{setting_of}
use Rattle.machine_meaning.specs.Sound.{AreSoundTables, IsSoundState}
use Rattle.machine_meaning.specs.States.{State}
use Rattle.event_composes.specs.Kept.{IsComposedOf}

-- tables of a sound state are sound
pub tables_sound : (p : PolicyOf) (s : State) → IsSoundState p s → AreSoundTables p s
tables_sound p s h = record { exprs = h.exprs; all_members = h.all_members; members = h.members }

pub built_kept : {E : Type 0} (p : PolicyOf) (s : State) (t : Setting) (topology : TopologyPlan)
    (r : Result ComposedOf E) → t ≡ setting_of p s → topology ≡ plan p → IfOk r (IsOf t)
    → IfOk r (λ c. is_some c.rules ≡ true)
    → IfOk r (λ c. (x : RulesOf) → c.rules ≡ Some x → x.hops.plan ≡ topology) → IfOk r (IsComposedOf p s)
built_kept p s t topology (Ok c) same is of compiled over = record {
  of = subst (λ (z : Setting). IsOf z c) same of;
  compiled = compiled;
  plan_is = λ x there. over x there ∙ is;
}
built_kept p s t topology (Err e) same is of compiled over = tt
