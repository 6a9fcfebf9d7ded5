-- The ports of the wiring of a policy have numbers of ports.
use Rattle.std.proofs.Common.{◌≡◌, ℕ, ◌<◌, Bool, true, false, List, [], ◌∷◌, Option, Some, None, refl, subst}
use Rattle.std.specs.Prelude.{◌==◌, IfSome, filter_map, if◌then◌else◌, length, option_map, slice_get}
use Rattle.std.specs.List.{AllByRecursion, cons_option, range_with_len}
use Rattle.std.specs.Option.{option_and_then}
use Rattle.std.proofs.lemmas.List.Elements.{recursion_from_All}
use Rattle.inner_paths.specs.Distances.{distance, ways_of}
use Rattle.inner_paths.specs.Hops.{Lead, hop_between, is_nearer, lead_by, nearer, nearest, next_hop_of}
use Rattle.policy_setting.specs.Premises.{HaveNumbers}
use Rattle.policy_setting.specs.Wirings.{cable, hop, hops_among, outside, wiring}
use Rattle.policy_setting.proofs.Joints.{EndsAre, IsOutside, all_filtered, all_units, outside_are}
use Rattle.policy_setting.proofs.Numbers.{tags_small}
use Rattle.policy_setting.proofs.Parts.{all_joined, all_weaker, mapped_all}
use Rattle.policy_setting.proofs.Paths.{IsEnd, cable_ends_are, ways_ends}
use Rattle.switch_meaning.specs.declared.wiring.Cable.{Cable}
use Rattle.switch_meaning.specs.declared.wiring.NextHop.{NextHop}
use Rattle.switch_meaning.specs.declared.wiring.Outside.{Outside}
use Rattle.virtual_topology.specs.Faults.{fault_of}
use Rattle.virtual_topology.specs.Wires.{Joint, cable_joints, outside_joints}
use Rattle.virtual_topology.specs.declared.plan.SwitchItem.{SwitchItem}
use Rattle.virtual_topology.specs.declared.plan.TopologyPlan.{TopologyPlan}
use Rattle.machine_meaning.proofs.FitActions.{IsNumbered}

-- next hops ---------------------------------------------------------------------------------------------------------

abbrev IsSmall : Lead → Type 0
IsSmall l = l.1 < 65280

nearest-small : (xs : List Lead) → AllByRecursion IsSmall xs → IfSome (nearest xs) IsSmall
nearest-small [] h = tt
nearest-small (a ∷ xs) h = by (nearest xs) (nearest-small xs h.1)
  where
    either : (b : Lead) → IsSmall b → (t : Bool) → IsSmall (if t then b else a)
    either b k true = k
    either b k false = h.0

    by : (o : Option Lead) → IfSome o IsSmall → IsSmall (nearer a o)
    by None k = h.0
    by (Some b) k = either b k (is_nearer b a)

module _ (plan : TopologyPlan) (numbers : HaveNumbers plan.switches) where
  led-small : (left : ℕ → Option ℕ) (from : ℕ) (w : Joint) → w.0.1 < 65280 → (l : Lead) → lead_by left from w ≡ Some l
      → IsSmall l
  led-small left from w small l e = by (w.0.0 == from) (left w.1.0) e
    where
      by : (b : Bool) (o : Option ℕ) → (if b then option_map (λ d. (d, w.0.1)) o else None) ≡ Some l → IsSmall l
      by true (Some d) f = let same : (d, w.0.1) ≡ l = cc f in subst IsSmall same small
      by true None f = absurd (cc f)
      by false o f = absurd (cc f)

  all-led : (left : ℕ → Option ℕ) (from : ℕ) (ws : List Joint) → AllByRecursion (λ (w : Joint). w.0.1 < 65280) ws
      → AllByRecursion IsSmall (filter_map (lead_by left from) ws)
  all-led left from [] h = tt
  all-led left from (w ∷ ws) h = by (lead_by left from w) (led-small left from w h.0) (all-led left from ws h.1)
    where
      by : (o : Option Lead) → ((l : Lead) → o ≡ Some l → IsSmall l)
          → AllByRecursion IsSmall (filter_map (lead_by left from) ws)
          → AllByRecursion IsSmall (cons_option o (filter_map (lead_by left from) ws))
      by None f r = r
      by (Some l) f r = (f l refl, r)

  ways-small : AllByRecursion (λ (w : Joint). w.0.1 < 65280) (ways_of plan)
  ways-small =
      all_weaker (λ (w : Joint). IsEnd plan w.0 × IsEnd plan w.1) (λ (w : Joint). w.0.1 < 65280) (λ w k. k.0.number)
      (ways_of plan) (ways_ends plan numbers)

  abbrev IsHop : Option ℕ → Type 0
  IsHop o = IfSome o (λ port. port < 65280)

  of-lead : (o : Option Lead) → IfSome o IsSmall → IsHop (option_map (λ (l : Lead). l.1) o)
  of-lead None h = tt
  of-lead (Some l) h = h

  between-small : (from to : ℕ) → IsHop (hop_between plan from to)
  between-small from to = by (from == to)
    where
      leads : List Lead
      leads = filter_map (lead_by (λ s. distance plan s to) from) (ways_of plan)

      by : (b : Bool) → IsHop (if b then None else option_map (λ (l : Lead). l.1) (nearest leads))
      by true = tt
      by false =
          of-lead (nearest leads)
          (nearest-small leads (all-led (λ s. distance plan s to) from (ways_of plan) ways-small))

  next-small : (from to : ℕ) → IsHop (next_hop_of plan from to)
  next-small from to = by (slice_get plan.switches from) (slice_get plan.switches to)
    where
      by : (a b : Option SwitchItem)
          → IsHop
          (option_and_then (λ (a : SwitchItem). option_and_then (λ (b : SwitchItem). hop_between plan from to) b) a)
      by None b = tt
      by (Some a) None = tt
      by (Some a) (Some b) = between-small from to

  abbrev HopSmall : NextHop → Type 0
  HopSmall h = h.port < 65280

  hop-small : (from to : ℕ) (h : NextHop) → hop plan from to ≡ Some h → HopSmall h
  hop-small from to h e = by (next_hop_of plan from to) (next-small from to) e
    where
      by : (o : Option ℕ) → IsHop o → option_map (λ port. record { from = from; to = to; port = port }) o ≡ Some h
          → HopSmall h
      by None k f = absurd (cc f)
      by (Some port) k f =
          let one : NextHop = record { from = from; to = to; port = port } in
          let same : one ≡ h = cc f in subst HopSmall same k

  hops-small : (count : ℕ) → AllByRecursion HopSmall (hops_among plan count)
  hops-small count =
      all_joined (λ from. filter_map (hop plan from) (range_with_len 0 count)) HopSmall (range_with_len 0 count)
      (all_weaker (λ _. Unit {0})
      (λ from. AllByRecursion HopSmall (filter_map (hop plan from) (range_with_len 0 count)))
      (λ from _. all_filtered (hop plan from) HopSmall (λ to h e. hop-small from to h e) (range_with_len 0 count))
      (range_with_len 0 count) (all_units (range_with_len 0 count)))

  pub numbered : fault_of plan ≡ None → IsNumbered (wiring plan)
  numbered none = record {
    outside =
        mapped_all (outside plan) (λ (o : Outside). o.at.port < 65280) (outside_joints plan)
        (all_weaker (IsOutside plan) (λ (j : Joint). j.1.1 < 65280) (λ j k. k.number) (outside_joints plan)
        (outside_are plan numbers));
    tags =
        recursion_from_All (λ (o : Outside). IfSome o.tag (λ t. t < 4096)) (wiring plan).outside (tags_small plan none);
    cables =
        mapped_all cable (λ (c : Cable). (c.one.port < 65280) × (c.other.port < 65280)) (cable_joints plan)
        (all_weaker (EndsAre (IsEnd plan)) (λ (j : Joint). (j.0.1 < 65280) × (j.1.1 < 65280))
        (λ j k. (k.one.number, k.other.number)) (cable_joints plan) (cable_ends_are plan numbers));
    next_hops = hops-small (length plan.switches);
  }
