-- An event that changes no member's table takes no step.
use Rattle.std.proofs.Common.{◌≡◌, ◌∙◌, ℕ, zero, suc, ◌+◌, List, [], ◌∷◌, map, Option, Some, None}
use Rattle.std.proofs.Common.{refl, ap, ap₂, if◌then◌else◌}
use Rattle.std.specs.Prelude.{◌&&◌, fold, not, sum_by}
use Rattle.agreement.specs.declared.state.Setting.{Setting}
use Rattle.composed_tables.specs.Steps.{expression_steps, own_places, setting_steps}
use Rattle.events.specs.declared.event.Event.{Event}
use Rattle.events.specs.declared.event.Event.TheVariants.{Up, Msg, Gone, Tick, Take, Policy as Replace}
use Rattle.events.specs.declared.event.Reply.{Reply}
use Rattle.hop_rules.specs.Counts.{change_steps, meets_here, meets_there, node_steps, peers_came, row_steps, rules_came}
use Rattle.hop_rules.specs.Counts.{steps_from}
use Rattle.hop_rules.specs.Links.{ends, exits, peer_at}
use Rattle.hop_rules.specs.declared.exits.Exit.{Exit}
use Rattle.hop_rules.specs.declared.exits.LinkEnd.{LinkEnd}
use Rattle.incr_compile.specs.Costs.{left_steps, right_steps, steps_at, steps_of}
use Rattle.list_change.specs.Coming.{came}
use Rattle.list_change.proofs.Came.{none-came}
use Rattle.made_rules.specs.Coming.{is_rule}
use Rattle.made_rules.proofs.SameRules.{rule_decides}
use Rattle.member_state.specs.States.{MemberStateOf}
use Rattle.op_compose.specs.declared.op.Op.{Op}
use Rattle.op_compose.specs.declared.op.Op.TheVariants.{Par, Seq, Over}
use Rattle.policy_expr.specs.Policy.{Policy, member, override, parallel, sequential}
use Rattle.policies.specs.Policies.{PolicyOf, plan}
use Rattle.policy_meaning.specs.Hops.{Fabric, node}
use Rattle.policy_meaning.specs.Networks.{fabric_of}
use Rattle.policy_meaning.specs.Rules.{rules_of}
use Rattle.policy_meaning.specs.Switches.{SwitchOf}
use Rattle.policy_meaning.specs.declared.network.Place.{Place}
use Rattle.policy_meaning.specs.declared.rule.Rule.{Rule}
use Rattle.policy_setting.specs.OfPolicies as of_policies
use Rattle.setting_laws.specs.Mixed.{mixed, mixed_members}
use Rattle.setting_laws.specs.Staying.{kept_of}
use Rattle.virtual_topology.specs.declared.plan.TopologyPlan.{TopologyPlan}
use Rattle.machine_meaning.specs.Glances.{glance_of}
use Rattle.machine_meaning.specs.Hearing.{heard}
use Rattle.machine_meaning.specs.Phases.{nobody, settled_of}
use Rattle.machine_meaning.specs.Settings.{setting_of, ups_with}
use Rattle.machine_meaning.specs.States.{MemberOf, State}
use Rattle.machine_meaning.specs.Steps.{step_of}
use Rattle.machine_meaning.proofs.Quiet.{same_tables}
use Rattle.event_composes.specs.Costs.{IsStill, StillTakesNone, building_steps_of, cost_in, followed_cost}
use Rattle.event_composes.specs.Costs.{sum_below, turning_steps, turning_steps_at, unless_still}
use Rattle.event_composes.specs.Meanings.{state_in}

-- nothing comes -----------------------------------------------------------------------------------------------------

no_sum : {A : Type 0} (f : A → ℕ) → ((x : A) → f x ≡ 0) → (xs : List A) → sum_by f xs ≡ 0
no_sum f h [] = refl
no_sum f h (x ∷ xs) = ap (λ (n : ℕ). fold (λ (a : ℕ) y. a + f y) (0 + n) xs) (h x) ∙ no_sum f h xs

none_come : (xs : List Rule) → came is_rule xs xs ≡ []
none_come xs = none-came is_rule rule_decides xs

-- at an expression --------------------------------------------------------------------------------------------------

module _ (sizes : ℕ → ℕ) (rules : ℕ → List Rule) where
  op_still : (op : Op) (a b : Policy) → steps_of sizes rules rules a ≡ 0 → steps_of sizes rules rules b ≡ 0
      → steps_of sizes rules rules a + steps_of sizes rules rules b + steps_at sizes rules rules op a b ≡ 0
  op_still op a b ha hb i =
      ha i + hb i
      + (left_steps op (rules_of sizes rules b) (none_come (rules_of sizes rules a) i)
      + right_steps op (rules_of sizes rules a) (none_come (rules_of sizes rules b) i))

  expr_still : (e : Policy) → steps_of sizes rules rules e ≡ 0
  expr_still (member i) = refl
  expr_still (parallel a b) = op_still Par a b (expr_still a) (expr_still b)
  expr_still (sequential a b) = op_still Seq a b (expr_still a) (expr_still b)
  expr_still (override a b) = op_still Over a b (expr_still a) (expr_still b)

-- through hops ------------------------------------------------------------------------------------------------------

module _ (f : Fabric) (es : List LinkEnd) where
  node_still : (n : ℕ) (p : Place) → node_steps f n (exits es p.v) p (rules_came f f p.v) (peers_came f f es n) ≡ 0
  node_still n p =
      ap₂ (λ (a b : ℕ). a + b)
      (ap (sum_by (λ (a : Rule). 1 + meets_there f n p (exits es p.v) a)) (none_come (f.rules p.v)))
      (no_sum (λ (e : Exit). sum_by (meets_here f p (exits es p.v) e.place) (peers_came f f es n e.place))
      (λ (e : Exit). ap (sum_by (meets_here f p (exits es p.v) e.place))
      (none_come (node f n (peer_at es e.place).v (peer_at es e.place).port)))
      (exits es p.v))

  row_still : (n : ℕ) (places : List Place) → row_steps f es (rules_came f f) n (peers_came f f es n) places ≡ 0
  row_still n places =
      no_sum (λ (p : Place). node_steps f n (exits es p.v) p (rules_came f f p.v) (peers_came f f es n)) (node_still n)
      places

  rows_still : (outside : List Place) (n more : ℕ) → steps_from f f es (rules_came f f) outside n more ≡ 0
  rows_still outside n zero = row_still n outside
  rows_still outside n (suc more) =
      ap₂ (λ (a b : ℕ). a + b) (row_still n (map (λ (e : LinkEnd). e.peer) es)) (rows_still outside (suc n) more)

  hops_still : (outside : List Place) (hops : ℕ) → change_steps f f es outside hops ≡ 0
  hops_still outside zero = refl
  hops_still outside (suc more) = rows_still outside 0 more

-- of a setting ------------------------------------------------------------------------------------------------------

setting_still : (t : TopologyPlan) (s : Setting) → setting_steps t s s ≡ 0
setting_still t s =
    ap₂ (λ (a b : ℕ). a + b)
    (no_sum (expression_steps s.network.tables s.network.tables) (λ (x : SwitchOf). expr_still _ _ x.expr)
    s.network.switches)
    (hops_still (fabric_of s.network) (ends t) (own_places t s) s.hops)

-- of members --------------------------------------------------------------------------------------------------------

-- members that keep the same, of which the first so many are others
mixed_kept : (n : ℕ) (xs ys : List MemberOf) → map kept_of ys ≡ map kept_of xs
    → map kept_of (mixed_members n xs ys) ≡ map kept_of xs
mixed_kept zero xs ys h = refl
mixed_kept (suc n) [] [] h = refl
mixed_kept (suc n) [] (y ∷ ys) h = absurd (cc)
mixed_kept (suc n) (x ∷ xs) [] h = absurd (cc)
mixed_kept (suc n) (x ∷ xs) (y ∷ ys) h =
    let first : kept_of y ≡ kept_of x = cc in
    let rest : map kept_of ys ≡ map kept_of xs = cc in
    ap₂ (λ (k : MemberStateOf) (ks : List MemberStateOf). k ∷ ks) first (mixed_kept n xs ys rest)

no_sum_below : (f : ℕ → ℕ) → ((n : ℕ) → f n ≡ 0) → (k : ℕ) → sum_below f k ≡ 0
no_sum_below f h zero = refl
no_sum_below f h (suc k) = ap₂ (λ (a b : ℕ). a + b) (no_sum_below f h k) (h k)

turning_still : (p : PolicyOf) (s t : State) → map kept_of t.members ≡ map kept_of s.members
    → turning_steps p s t ≡ 0
unfolding turning_steps turning_steps_at
turning_still p s t h = no_sum_below (turning_steps_at p s t) each _
  where
    same : (n : ℕ) → setting_of p (mixed n s t) ≡ setting_of p s
    same n i =
        of_policies.setting_of p s.exprs
        (same_tables 0 p.members (mixed_members n s.members t.members) s.members (mixed_kept n s.members t.members h) i)
        (ups_with s.switches)

    each : (n : ℕ) → turning_steps_at p s t n ≡ 0
    each n =
        (λ i. setting_steps (plan p) (same n i) (same (n + 1) i)) ∙ setting_still (plan p) (setting_of p s)

-- of events ---------------------------------------------------------------------------------------------------------

still_cost : (p : PolicyOf) (s : State) (e : Event) → IsStill p s e → followed_cost p s e ≡ 0
still_cost p s e h i =
    turning_still p (heard s e) (settled_of p (heard s e) e nobody).state h.tables i
    + (if h.none_slow i && not (h.none_replaced i) then 0 else building_steps_of p (step_of p s e).1)

still_none : (o : Option Reply) (e : Event) → ◌≡◌ {A = ℕ} (unless_still 0 o e 0) 0
still_none (Some reply) e = refl
still_none None (Up who arp) = refl
still_none None (Msg session frame) = refl
still_none None (Gone session) = refl
still_none None (Tick second) = refl
still_none None (Take session) = refl
still_none None (Replace v text) = refl

pub still_takes_none : StillTakesNone
unfolding cost_in
still_takes_none d e h =
    ap (λ (n : ℕ). unless_still 0 (glance_of d.plan (state_in d) e) e n) (still_cost d.plan (state_in d) e h)
    ∙ still_none (glance_of d.plan (state_in d) e) e
