-- Where a switch is still, members are told of none of its ports.
use Rattle.std.proofs.Common.{◌≡◌, ◌∙◌, ℕ, zero, suc, Bool, true, false, ◌||◌, not, List, [], ◌∷◌, Option, None, Some}
use Rattle.std.proofs.Common.{refl, sym, ap, ap₂, subst}
use Rattle.std.specs.Prelude.{◌==◌, IfSome, flat_map, if◌then◌else◌, slice_get}
use Rattle.std.specs.List.{AllByRecursion}
use Rattle.std.specs.Option.{option_map_or}
use Rattle.std.proofs.lemmas.Bool.{eqb-true}
use Rattle.policies.specs.Policies.{PolicyOf, plan}
use Rattle.policies.specs.declared.policy.MemberItem.{MemberItem}
use Rattle.switch_state.specs.Known.{is_one_of}
use Rattle.virtual_topology.specs.Rows.{Spot}
use Rattle.virtual_topology.specs.Wires.{outside_of}
use Rattle.virtual_topology.specs.declared.plan.TopologyPlan.{TopologyPlan}
use Rattle.machine_drafts.specs.InsideSessions.{is_member_up}
use Rattle.machine_drafts.specs.InsideSwitches.{is_dark_among, is_dark_over}
use Rattle.event_ends.specs.InsideTelling.{IsStillAt, has_turned, letters_on, lies_over, member_letters, port_letter}
use Rattle.event_ends.specs.InsideTelling.{switches_before, turn_letters}
use Rattle.machine_meaning.proofs.Numbered.{flat_none}
use Rattle.machine_meaning.specs.Lists.{places}
use Rattle.machine_meaning.specs.Names.{virtual_of}
use Rattle.machine_drafts.specs.Outcomes.{switches_in}
use Rattle.machine_meaning.specs.States.{MemberOf}
use Rattle.machine_drafts.specs.SwitchDrafts.{IsStill, SwitchDraftOf}
use Rattle.machine_meaning.specs.Telling.{differ}

differ_same : (b : Bool) → differ b b ≡ false
differ_same true = refl
differ_same false = refl

pub still_at : (xs : List SwitchDraftOf) → AllByRecursion IsStill xs → (n : ℕ) → IsStillAt xs n
still_at [] h n = tt
still_at (x ∷ xs) h zero = h.0
still_at (x ∷ xs) h (suc n) = still_at xs h.1 n

-- a still switch's ports are as dark as they were
spot_still : (xs : List SwitchDraftOf) (n q : ℕ) → IsStillAt xs n
    → is_dark_among (switches_before xs) (n, q) ≡ is_dark_among (switches_in xs) (n, q)
spot_still [] n q h = refl
spot_still (x ∷ xs) zero q h =
    ap₂ (λ (up : Bool) (dark : List ℕ). not up || is_one_of dark q) (sym h.up) (sym h.dark)
spot_still (x ∷ xs) (suc n) q h = spot_still xs n q h

module _ (t : TopologyPlan) (xs : List SwitchDraftOf) (k : ℕ) (h : IsStillAt xs k) where
  port_still : (o : Option Spot) → option_map_or (λ (s : Spot). s.0 == k) o false ≡ true
      → option_map_or (is_dark_among (switches_before xs)) o false
      ≡ option_map_or (is_dark_among (switches_in xs)) o false
  port_still None here = refl
  port_still (Some spot) here = spot_still xs spot.0 spot.1 (subst (IsStillAt xs) (sym (eqb-true spot.0 k here)) h)

  -- no outside port turned that lies on it
  none_turned : (v port : ℕ) → lies_over t v k port ≡ true
      → has_turned t (switches_before xs) (switches_in xs) v port ≡ false
  none_turned v port here =
      subst (λ (b : Bool). differ b (is_dark_over t (switches_in xs) v port) ≡ false)
      (sym (port_still (outside_of t v port) here)) (differ_same (is_dark_over t (switches_in xs) v port))

  no_letter : (n v port : ℕ) → lies_over t v k port ≡ true
      → turn_letters t (switches_before xs) (switches_in xs) n v port ≡ []
  no_letter n v port here =
      ap (λ (b : Bool). if b then port_letter t (switches_in xs) n v port ∷ [] else []) (none_turned v port here)

  pub none_on : (n v : ℕ) (ports : List ℕ) → letters_on t (switches_before xs) (switches_in xs) n v ports k ≡ []
  none_on n v ports =
      flat_none
      (λ port. if lies_over t v k port then turn_letters t (switches_before xs) (switches_in xs) n v port else [])
      (λ port. by port (lies_over t v k port) refl) ports
    where
      by : (port : ℕ) (b : Bool) → lies_over t v k port ≡ b
          → (if b then turn_letters t (switches_before xs) (switches_in xs) n v port else []) ≡ []
      by port true here = no_letter n v port here
      by port false here = refl

-- where all are, no member is told of one
module _ (p : PolicyOf) (members : List MemberOf) (xs : List SwitchDraftOf) (h : AllByRecursion IsStill xs) where
  none_to : (x : ℕ × MemberItem) → member_letters p members (switches_before xs) (switches_in xs) x ≡ []
  none_to (n, m) = by (is_member_up members n)
    where
      by : (b : Bool)
          → (if b then flat_map (letters_on (plan p) (switches_before xs) (switches_in xs) n (virtual_of m)
          m.grant.ports.outside) (places p.switches) else []) ≡ []
      by true =
          flat_none (letters_on (plan p) (switches_before xs) (switches_in xs) n (virtual_of m) m.grant.ports.outside)
          (λ k. none_on (plan p) xs k (still_at xs h k) n (virtual_of m) m.grant.ports.outside) (places p.switches)
      by false = refl

  pub none_told : (ms : List (ℕ × MemberItem))
      → flat_map (member_letters p members (switches_before xs) (switches_in xs)) ms ≡ []
  none_told ms = flat_none (member_letters p members (switches_before xs) (switches_in xs)) none_to ms
