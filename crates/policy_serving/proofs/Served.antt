-- Who can come up at the places of a policy, and how many places there are.
use Rattle.std.proofs.Common.{◌≡◌, ◌∙◌, ℕ, suc, ◌<◌, ◌≤◌, ◌+◌, ◌*◌, ◌^◌, List, [], ◌∷◌, All, length, map, subst, sym}
use Rattle.std.proofs.Common.{arith}
use Rattle.std.specs.List.{AllByRecursion, enumerate_from}
use Rattle.std.proofs.lemmas.List.{length-append, length-map}
use Rattle.std.proofs.lemmas.List.FromFn.{length-enumerate_from}
use Rattle.std.proofs.lemmas.List.Elements.{All-append, All-from_recursion, All-map}
use Rattle.cv_io.specs.declared.leaf.Who.{Who}
use Rattle.cv_io.specs.declared.leaf.Who.TheVariants as whos
use Rattle.endpoint_works.specs.Sides.{IsServedSide}
use Rattle.policies.specs.Policies.{PolicyOf, plan}
use Rattle.policies.specs.Sound.{IsSound}
use Rattle.policies.specs.declared.policy.MemberItem.{MemberItem}
use Rattle.virtual_topology.proofs.Counted.{few_switches}
use Rattle.virtual_topology.specs.declared.plan.SwitchItem.{SwitchItem}
use Rattle.serving.specs.declared.place.Place.{Place}
use Rattle.policy_serving.specs.Places.{dpid_of, member_place, places_of, switch_place}

-- what holds of each number below the length, and the item there, holds of all numbered items
numbered_from : {X : Type 0} (P : ℕ × X → Type 0) (m : ℕ) (xs : List X)
    → ((i : ℕ) (x : X) → i < length xs → P (m + i, x)) → AllByRecursion P (enumerate_from m xs)
numbered_from P m [] each = tt
numbered_from P m (x ∷ xs) each =
    let here : m + 0 ≡ m = omega arith in
    let next = λ (i : ℕ). let same : m + suc i ≡ (m + 1) + i = omega arith in same in (
      subst (λ n. P (n, x)) here (each 0 x (omega arith)),
      numbered_from P (m + 1) xs (λ i y lt. subst (λ n. P (n, y)) (next i) (each (suc i) y (omega (arith, lt)))),
    )

numbered : {X : Type 0} (P : ℕ × X → Type 0) (xs : List X) → ((i : ℕ) (x : X) → i < length xs → P (i, x))
    → All P (enumerate_from 0 xs)
numbered P xs each =
    let same = λ (i : ℕ). let is : i ≡ 0 + i = omega arith in is in
    All-from_recursion P (enumerate_from 0 xs)
    (numbered_from P 0 xs (λ i x lt. subst (λ n. P (n, x)) (same i) (each i x lt)))

-- whoever serves each member and each switch serves whoever can come up at a place
pub places_served : (serves : Who → Type 0) (p : PolicyOf) → length p.switches < 2 ^ 32
    → ((n : ℕ) → n < length p.members → serves (whos.Member n))
    → ((n : ℕ) → n < length p.switches → serves (whos.Switch n))
    → All (λ (place : Place). IsServedSide serves place.side) (places_of p)
unfolding places_of
places_served serves p few members switches =
    let P = λ (place : Place). IsServedSide serves place.side in
    let dpids = map dpid_of p.switches in
    let as_many : length dpids ≡ length p.switches = length-map p.switches dpid_of in
    let any : (length dpids < 2 ^ 32) × ((n : ℕ) → n < length dpids → serves (whos.Switch n)) =
    subst (λ count. (count < 2 ^ 32) × ((n : ℕ) → n < count → serves (whos.Switch n))) (sym as_many) (few, switches) in
    All-append P (map (member_place p.rounds) (enumerate_from 0 p.members))
    (map (switch_place p.listen p.rounds dpids) (enumerate_from 0 p.switches))
    (All-map P (member_place p.rounds) (enumerate_from 0 p.members)
    (numbered (λ (y : ℕ × MemberItem). P (member_place p.rounds y)) p.members (λ n x lt. members n lt)))
    (All-map P (switch_place p.listen p.rounds dpids) (enumerate_from 0 p.switches)
    (numbered (λ (y : ℕ × SwitchItem). P (switch_place p.listen p.rounds dpids y)) p.switches (λ n x lt. any)))

pub few_in : (p : PolicyOf) → IsSound p → length p.switches ≤ 16
few_in p sound = few_switches (plan p) sound.together.topology

pub counted : (p : PolicyOf) → length (places_of p) ≡ length p.members + length p.switches
unfolding places_of
counted p =
    let dpids = map dpid_of p.switches in
    let members : length (map (member_place p.rounds) (enumerate_from 0 p.members)) ≡ length p.members =
    length-map (enumerate_from 0 p.members) (member_place p.rounds) ∙ length-enumerate_from 0 p.members in
    let switches : length (map (switch_place p.listen p.rounds dpids) (enumerate_from 0 p.switches))
    ≡ length p.switches =
    length-map (enumerate_from 0 p.switches) (switch_place p.listen p.rounds dpids)
    ∙ length-enumerate_from 0 p.switches in
    length-append (map (member_place p.rounds) (enumerate_from 0 p.members))
    (map (switch_place p.listen p.rounds dpids) (enumerate_from 0 p.switches))
    ∙ (λ i. members i + switches i)

pub few : (p : PolicyOf) → IsSound p → 2 * length (places_of p) + 1 < 2 ^ 32
few p sound =
    let all = counted p in
    let a : length p.switches ≤ 16 = few_in p sound in
    let b : length p.members ≤ 32 = sound.limits.few_members in
    omega (arith, all, a, b)
