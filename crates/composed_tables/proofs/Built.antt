-- The composed rules of a setting, made from scratch.
use Rattle.std.proofs.Common.{◌≡◌, ℕ, ◌+◌, ◌<◌, ◌≤◌, ◌^◌, Bool, false, List, Option, Some, length, map, refl, sym, ap}
use Rattle.std.proofs.Common.{subst, ◌∙◌, arith}
use Rattle.std.specs.Prelude.{Contains, not, slice_get, slice_index_or, sum_by}
use Rattle.std.specs.List.{AllByRecursion}
use Rattle.std.specs.Option.{option_map_or}
use Rattle.std.proofs.lemmas.List.{length-map}
use Rattle.agreement.specs.Fitting.{IsFittingSetting}
use Rattle.agreement.specs.declared.state.Setting.{Setting}
use Rattle.alg_priority.specs.Levels.{capped}
use Rattle.hop_rules.specs.Links.{links, place}
use Rattle.hop_rules.specs.Tables.{TableOf, empty_table, fabric, is_whole, own_ports}
use Rattle.incr_compile.specs.declared.tree.Tree.{Tree}
use Rattle.policy_meaning.specs.Fitting.{levels_of}
use Rattle.policy_meaning.specs.Hops.{hop_size}
use Rattle.policy_meaning.specs.Networks.{fabric_of, switch_size}
use Rattle.policy_meaning.specs.Switches.{SwitchOf}
use Rattle.policy_meaning.specs.declared.network.Place.{Place}
use Rattle.policy_meaning.proofs.Lists.{all-map}
use Rattle.switch_meaning.proofs.Members.{from-place, in-filter, place as place-in}
use Rattle.virtual_topology.specs.declared.plan.TopologyPlan.{TopologyPlan}
use Rattle.virtual_topology.specs.Wires.{Joint, outside_joints}
use Rattle.composed_tables.specs.Rules.{AreHandedOver, AreRulesOf, AreSound, AreTied, AreTreesOf, IsEmptyTable}
use Rattle.composed_tables.specs.Rules.{IsLaidOut, IsOutside, IsReadyFor, KeepsRest, LeadsToParted, RulesOf}
use Rattle.composed_tables.specs.Steps.{building_steps, compile_steps, first_steps}
use Rattle.composed_tables.proofs.Building.{over-hops}
use Rattle.composed_tables.proofs.Pushing.{index-mapped}
use Rattle.composed_tables.proofs.Tests.{more-spent}

capped-same : (n : ℕ) → n < 2 ^ 64 → capped n ≡ n
capped-same n lt = omega arith

few-of : (m n : ℕ) → m ≡ n → n ≤ 65534 → m < 2 ^ 64
few-of m n e le = omega arith

module _ (s : Setting) (plan : TopologyPlan) (ready : IsReadyFor plan s) (sizes : List ℕ) (whole : List Bool)
    (sizes-are : sizes ≡ map (λ (x : SwitchOf). capped (levels_of s.network.tables x.expr)) s.network.switches)
    (whole-are : whole ≡ map (λ (x : SwitchOf). x.whole) s.network.switches) where
  -- the size of each virtual switch
  pub size-at : (v : ℕ) → slice_index_or sizes v 1 ≡ (fabric_of s.network).sizes v
  size-at v =
      ap (λ (z : List ℕ). slice_index_or z v 1) sizes-are
      ∙ index-mapped (λ (x : SwitchOf). capped (levels_of s.network.tables x.expr)) 1 (switch_size s.network.tables)
      s.network.switches v refl
      (λ x at. capped-same (levels_of s.network.tables x.expr) (ready.can.size v x at))

  pub whole-at : (v : ℕ) (x : SwitchOf) → slice_get s.network.switches v ≡ Some x
      → slice_index_or whole v false ≡ x.whole
  whole-at v x at =
      ap (λ (z : List Bool). slice_index_or z v false) whole-are
      ∙ (index-mapped (λ (y : SwitchOf). y.whole) false
      (λ (o : Option SwitchOf). option_map_or (λ (y : SwitchOf). y.whole) o false) s.network.switches v refl
      (λ y e. refl)
      ∙ ap (λ (o : Option SwitchOf). option_map_or (λ (y : SwitchOf). y.whole) o false) at)

  module _ (trees : List Tree) (empty hops : TableOf) (is : IsEmptyTable sizes whole empty)
      (plan-is : empty.plan ≡ plan) (hops-are : empty.hops ≡ s.hops)
      (rest : KeepsRest empty hops) (count : length trees ≡ length s.network.switches) where
    plan-same : hops.plan ≡ plan
    plan-same = ap (λ (z : TableOf). z.plan) rest ∙ plan-is

    sizes-same : hops.sizes ≡ sizes
    sizes-same = ap (λ (z : TableOf). z.sizes) rest ∙ is.sizes_are

    wholes-same : hops.whole ≡ whole
    wholes-same = ap (λ (z : TableOf). z.whole) rest ∙ is.wholes

    whole-of : (v : ℕ) (x : SwitchOf) → slice_get s.network.switches v ≡ Some x → is_whole hops v ≡ x.whole
    whole-of v x at = ap (λ (z : List Bool). slice_index_or z v false) wholes-same ∙ whole-at v x at

    own-port : (v : ℕ) (x : SwitchOf) → slice_get s.network.switches v ≡ Some x → x.whole ≡ false → (p : ℕ)
        → IsOutside plan v p
        → Contains (own_ports hops) (record { v = v; port = p })
    own-port v x at w p out =
        let here : Contains (map (λ (j : Joint). place j.0) (outside_joints hops.plan)) (record { v = v; port = p }) =
        subst (λ (z : TopologyPlan). Contains (map (λ (j : Joint). place j.0) (outside_joints z))
        (record { v = v; port = p })) (sym plan-same) out in
        place-in (record { v = v; port = p }) (own_ports hops)
        (in-filter (λ (q : Place). not (is_whole hops q.v))
        (from-place (record { v = v; port = p }) (map (λ (j : Joint). place j.0) (outside_joints hops.plan)) here)
        (ap not (whole-of v x at ∙ w)))

    laid-out : IsLaidOut s hops
    laid-out = record {
      hops = ap (λ (z : TableOf). z.hops) rest ∙ hops-are;
      count = ap (λ (z : TopologyPlan). length z.virtuals) plan-same ∙ sym ready.count;
      sizes = λ v. ap (λ (z : List ℕ). slice_index_or z v 1) sizes-same ∙ size-at v;
      links_are = λ v. ap (λ (z : TopologyPlan). links z v) plan-same ∙ ready.links_are v;
      leads = λ v. subst (λ (z : TopologyPlan). AllByRecursion (LeadsToParted s.network) (links z v)) (sym plan-same)
          (ready.leads v);
      whole = whole-of;
      ports = λ v x at w. all-map (IsOutside plan v) (λ (p : ℕ). Contains (own_ports hops) (record { v = v; port = p }))
          x.outside (own-port v x at w) (ready.ports v x at);
    }

    module _ (trees-are : AreTreesOf s.network trees) (sound : AreSound trees) where
      abbrev pub made : RulesOf
      made = record { trees = trees; sizes = sizes; whole = whole; hops = hops }

      pub made-of : AreRulesOf s made
      made-of = record { count = count; trees_are = trees-are; laid_out = laid-out }

      pub made-tied : AreHandedOver trees empty hops → AreTied made
      made-tied over = record {
        kept = ap (λ (z : TableOf). z.lost) rest ∙ is.kept;
        sizes = sizes-same;
        wholes = wholes-same;
        count = ap length sizes-are
            ∙ (length-map s.network.switches (λ (x : SwitchOf). capped (levels_of s.network.tables x.expr))
            ∙ sym count);
        count_whole = ap length whole-are ∙ (length-map s.network.switches (λ (x : SwitchOf). x.whole) ∙ sym count);
        sound = sound;
        each = λ v t at w. over.each v t at (sym (ap (λ (z : TableOf). is_whole z v) rest) ∙ w);
      }

  -- the steps of compiling and of handing over
  pub made-steps : (trees : List Tree) (empty : TableOf) → IsEmptyTable sizes whole empty → empty.plan ≡ plan
      → empty.hops ≡ s.hops → length trees ≡ length s.network.switches
      → AreTreesOf s.network trees → AreSound trees → (items : List Tree) → items ≡ trees → (s0 s1 s2 : ℕ)
      → s1 ≤ s0 + sum_by (compile_steps s.network.tables) s.network.switches
      → ((s : Setting) → AreSound items
      → AreRulesOf s (record { trees = items; sizes = sizes; whole = whole; hops = empty })
      → s2 ≤ s1 + first_steps empty.plan s (length items))
      → s2 ≤ s0 + building_steps plan s
  made-steps trees empty is plan-is hops-are count are sound items same s0 s1 s2 compiled handed =
      let of = made-of trees empty empty is plan-is hops-are refl count are sound in
      let there : s2 ≤ s1 + first_steps empty.plan s (length items) =
      handed s (subst AreSound (sym same) sound)
      (subst (λ (z : List Tree). AreRulesOf s (record { trees = z; sizes = sizes; whole = whole; hops = empty }))
      (sym same) of) in
      let now : s2 ≤ s1 + first_steps plan s (length s.network.switches) =
      subst (λ (z : TopologyPlan). s2 ≤ s1 + first_steps z s (length s.network.switches)) plan-is
      (subst (λ (n : ℕ). s2 ≤ s1 + first_steps empty.plan s n) (ap length same ∙ count) there) in
      more-spent s0 s1 s2 (sum_by (compile_steps s.network.tables) s.network.switches)
      (first_steps plan s (length s.network.switches)) compiled now

  -- the sizes over hops leave room for priorities
  pub few-over-hops : IsFittingSetting s → (v : ℕ)
      → hop_size (fabric (empty_table plan sizes s.hops whole)) s.hops v < 2 ^ 64
  few-over-hops fits v =
      let e = over-hops (fabric (empty_table plan sizes s.hops whole)) (fabric_of s.network) size-at ready.links_are
      s.hops v in
      let f = fits.sizes v in
      few-of _ _ e f
