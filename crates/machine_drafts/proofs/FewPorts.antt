-- A virtual switch has few ports, and so has what a grant shows of it.
use Rattle.std.proofs.Common.{◌≡◌, ℕ, zero, suc, ◌+◌, ◌<◌, ◌≤◌, Bool, true, false, List, [], ◌∷◌, Option, Some, None}
use Rattle.std.proofs.Common.{length, get_or, refl, ◌∙◌, subst, arith}
use Rattle.std.specs.Prelude.{◌==◌, not, filter, cond, ◌&&◌, ◌||◌, IfSome, is_none, is_some, nat_le, nat_lt}
use Rattle.std.specs.Prelude.{slice_get, if◌then◌else◌}
use Rattle.std.specs.List.{AllByRecursion, AllPairs, enumerate_from, list_any}
use Rattle.std.specs.Option.{option_or}
use Rattle.std.proofs.lemmas.Bool.Decides.{nat_tests}
use Rattle.std.proofs.lemmas.List.Filters.{length-filter_both}
use Rattle.std.proofs.lemmas.List.Kept.{AllPairs-from_increasing}
use Rattle.std.proofs.lemmas.Map.Views.{any-filter_same}
use Rattle.grants.specs.declared.grant.Grant.{Grant}
use Rattle.member_replies.specs.Ports.{HasFewPorts}
use Rattle.policies.specs.Policies.{PolicyOf, plan}
use Rattle.policies.specs.Sound.{IsSound, IsSoundGrant, IsSoundMember}
use Rattle.policies.specs.declared.policy.MemberItem.{MemberItem}
use Rattle.virtual_topology.specs.Faults.{crowded, fault_of, first_answer, mixed_among, shape_among, too_many}
use Rattle.virtual_topology.specs.Faults.{too_many_at, too_many_of, too_many_pairs, twice_among, unknown_among}
use Rattle.virtual_topology.specs.Places.{uses}
use Rattle.virtual_topology.specs.Rows.{rows}
use Rattle.virtual_topology.specs.Wires.{link_joints, outside_joints}
use Rattle.virtual_topology.specs.declared.fault.TopologyFault.TheVariants.{TooMany}
use Rattle.virtual_topology.specs.declared.plan.TopologyPlan.{TopologyPlan}
use Rattle.virtual_topology.specs.declared.plan.VirtualItem.{VirtualItem}
use Rattle.virtual_topology.specs.declared.plan.VirtualPort.{VirtualPort}
use Rattle.virtual_topology.proofs.Counted.{neither}

-- ports by their numbers --------------------------------------------------------------------------------------------

-- the port of a number
abbrev is_port : ℕ → VirtualPort → Bool
is_port n q = q.port == n

-- a list that has some item that passes keeps one
some_kept : {A : Type 0} (p : A → Bool) (xs : List A) → list_any p xs ≡ true → 1 ≤ length (filter p xs)
some_kept p [] e = absurd (cc)
some_kept p (x ∷ xs) e = by (p x) (some_kept p xs) e
  where
    by : (b : Bool) → (list_any p xs ≡ true → 1 ≤ length (filter p xs)) → (b || list_any p xs) ≡ true
        → 1 ≤ length (cond b (x ∷ filter p xs) (filter p xs))
    by true rest e = omega arith
    by false rest e = rest e

-- without the ports of a number there are fewer
fewer : (n : ℕ) (qs : List VirtualPort) → list_any (is_port n) qs ≡ true
    → length (filter (λ q. not (is_port n q)) qs) + 1 ≤ length qs
fewer n qs e =
    let some : 1 ≤ length (filter (is_port n) qs) = some_kept (is_port n) qs e in
    let both : length (filter (is_port n) qs) + length (filter (λ q. not (is_port n q)) qs) ≡ length qs =
    length-filter_both (is_port n) (λ q. not (is_port n q)) (λ q. refl) qs in
    omega arith

-- the port of a greater number is kept
other : (n m k : ℕ) → n < m → (k == m) ≡ true → not (k == n) ≡ true
other n m k lt e = grind (arith, nat_tests)

kept : (n m : ℕ) (qs : List VirtualPort) → n < m → list_any (is_port m) qs ≡ true
    → list_any (is_port m) (filter (λ q. not (is_port n q)) qs) ≡ true
kept n m qs lt e =
    any-filter_same (is_port m) (λ q. not (is_port n q)) true (λ q t. other n m q.port lt t) qs ∙ e

kept_all : (n : ℕ) (ms : List ℕ) (qs : List VirtualPort) → ((j d : ℕ) → j < length ms → n < get_or ms j d)
    → AllByRecursion (λ m. list_any (is_port m) qs ≡ true) ms
    → AllByRecursion (λ m. list_any (is_port m) (filter (λ q. not (is_port n q)) qs) ≡ true) ms
kept_all n [] qs up h = tt
kept_all n (m ∷ ms) qs up h =
    (kept n m qs (up 0 0 (omega arith)) h.0, kept_all n ms qs (λ j d lt. up (suc j) d (omega arith)) h.1)

-- rising numbers of ports are at most as many as the ports
rising_few : (ns : List ℕ) (qs : List VirtualPort) → AllPairs (λ (x y : ℕ). x < y) ns
    → AllByRecursion (λ n. list_any (is_port n) qs ≡ true) ns → length ns ≤ length qs
rising_few [] qs up h = omega arith
rising_few (n ∷ ns) qs up h =
    let fits : length (filter (λ q. not (is_port n q)) qs) + 1 ≤ length qs = fewer n qs h.0 in
    let rest : length ns ≤ length (filter (λ q. not (is_port n q)) qs) =
    rising_few ns (filter (λ q. not (is_port n q)) qs)
    (λ i j d a b. up (suc i) (suc j) d (omega arith) (omega arith))
    (kept_all n ns qs (λ j d lt. up 0 (suc j) d (omega arith) (omega arith)) h.1) in
    omega arith

-- one side of a virtual switch --------------------------------------------------------------------------------------

not_both : (a rest : Bool) → ((a && false) || rest) ≡ true → rest ≡ true
not_both true rest e = e
not_both false rest e = e

either : (a rest more : Bool) → ((a && true) || rest) ≡ true → (rest ≡ true → more ≡ true) → (a || more) ≡ true
either true rest more e go = refl
either false rest more e go = go e

on_side : (side : VirtualPort → Bool) (n : ℕ) (qs : List VirtualPort)
    → list_any (λ (q : VirtualPort). (q.port == n) && side q) qs ≡ true → list_any (is_port n) (filter side qs) ≡ true
on_side side n [] e = e
on_side side n (q ∷ qs) e = by (side q) (on_side side n qs) e
  where
    by : (b : Bool)
        → (list_any (λ (r : VirtualPort). (r.port == n) && side r) qs ≡ true
        → list_any (is_port n) (filter side qs) ≡ true)
        → (((q.port == n) && b) || list_any (λ (r : VirtualPort). (r.port == n) && side r) qs) ≡ true
        → list_any (is_port n) (cond b (q ∷ filter side qs) (filter side qs)) ≡ true
    by true rest e = either (q.port == n) _ _ e rest
    by false rest e = rest (not_both (q.port == n) _ e)

all_on_side : (side : VirtualPort → Bool) (ns : List ℕ) (qs : List VirtualPort)
    → AllByRecursion (λ n. list_any (λ (q : VirtualPort). (q.port == n) && side q) qs ≡ true) ns
    → AllByRecursion (λ n. list_any (is_port n) (filter side qs) ≡ true) ns
all_on_side side [] qs h = tt
all_on_side side (n ∷ ns) qs h = (on_side side n qs h.0, all_on_side side ns qs h.1)

grant_few : (g : Grant) (v : VirtualItem) → IsSoundGrant g v → length v.ports ≤ 64 → HasFewPorts g.ports
grant_few g v sound few =
    let outside : length g.ports.outside ≤ length (filter (λ (q : VirtualPort). is_some q.at) v.ports) =
    rising_few g.ports.outside _ (AllPairs-from_increasing g.ports.outside sound.rising.outside)
    (all_on_side (λ q. is_some q.at) g.ports.outside v.ports sound.outside) in
    let links : length g.ports.links ≤ length (filter (λ (q : VirtualPort). is_none q.at) v.ports) =
    rising_few g.ports.links _ (AllPairs-from_increasing g.ports.links sound.rising.links)
    (all_on_side (λ q. is_none q.at) g.ports.links v.ports sound.links) in
    let both =
    length-filter_both (λ (q : VirtualPort). is_some q.at) (λ q. is_none q.at) (λ q. opposite q.at) v.ports in
    omega (arith, both)
  where
    opposite : {A : Type 0} (o : Option A) → is_none o ≡ not (is_some o)
    opposite None = refl
    opposite (Some x) = refl

-- a plan without fault ----------------------------------------------------------------------------------------------

not_many : (v : ℕ) (name : List ℕ) (ports : ℕ) → too_many v name ports ≡ None → ports ≤ 64
not_many v name ports e = by (nat_le 16 v) (nat_lt 64 ports) refl e
  where
    by : (a b : Bool) → nat_lt 64 ports ≡ b
        → (if a then Some (TooMany name 16) else (if b then Some (TooMany name 64) else None)) ≡ None → ports ≤ 64
    by true b t e = absurd (cc)
    by false true t e = absurd (cc)
    by false false t e = grind (arith, nat_tests)

none_at : {A B : Type 0} (f : ℕ × A → Option B) (k : ℕ) (xs : List A) (n : ℕ) (x : A)
    → first_answer f (enumerate_from k xs) ≡ None → slice_get xs n ≡ Some x → (i : ℕ) × (f (i, x) ≡ None)
none_at f k [] n x e there = absurd (cc)
none_at f k (y ∷ ys) zero x e there =
    let y-is : y ≡ x = cc in
    (k, subst (λ z. f (k, z) ≡ None) y-is (neither (f (k, y)) (first_answer f (enumerate_from (k + 1) ys)) e).0)
none_at f k (y ∷ ys) (suc n) x e there =
    none_at f (k + 1) ys n x (neither (f (k, y)) (first_answer f (enumerate_from (k + 1) ys)) e).1 there

not_crowded : (t : TopologyPlan) → fault_of t ≡ None → crowded t ≡ None
not_crowded t e =
    (neither (mixed_among (link_joints t) (outside_joints t) t.virtuals) (crowded t)
    (neither (shape_among (rows t) (uses t) t) _
    (neither (unknown_among (rows t) (uses t)) _ (neither (twice_among (uses t)) _ e).1).1).1).1

virtual_few : (t : TopologyPlan) (v : ℕ) (x : VirtualItem) → fault_of t ≡ None → slice_get t.virtuals v ≡ Some x
    → length x.ports ≤ 64
virtual_few t v x e there =
    let after : option_or (first_answer too_many_of (enumerate_from 0 t.virtuals)) (too_many_pairs t.links) ≡ None =
    (neither (too_many_pairs t.cables) _
    (neither (first_answer too_many_at (enumerate_from 0 t.switches)) _ (not_crowded t e)).1).1 in
    let none = none_at too_many_of 0 t.virtuals v x
    (neither (first_answer too_many_of (enumerate_from 0 t.virtuals)) (too_many_pairs t.links) after).0 there in
    not_many none.0 x.name (length x.ports) none.1

-- members -----------------------------------------------------------------------------------------------------------

all_at : {A : Type 0} (P : A → Type 0) (xs : List A) (n : ℕ) (x : A) → AllByRecursion P xs → slice_get xs n ≡ Some x
    → P x
all_at P [] n x h there = absurd (cc)
all_at P (y ∷ ys) zero x h there = let y-is : y ≡ x = cc in subst P y-is h.0
all_at P (y ∷ ys) (suc n) x h there = all_at P ys n x h.1 there

grant_at : (g : Grant) (t : TopologyPlan) (v : ℕ) (o : Option VirtualItem) → slice_get t.virtuals v ≡ o
    → v < length t.virtuals → fault_of t ≡ None → IfSome o (IsSoundGrant g) → HasFewPorts g.ports
grant_at g t v None is lt fault h = absurd (missing t.virtuals v lt is)
  where
    missing : {A : Type 0} (xs : List A) (n : ℕ) → n < length xs → slice_get xs n ≡ None → ⊥
    missing [] n lt e = omega arith
    missing (x ∷ xs) zero lt e = cc
    missing (x ∷ xs) (suc n) lt e = missing xs n (omega arith) e
grant_at g t v (Some x) is lt fault h = grant_few g x h (virtual_few t v x fault is)

-- a member sees few ports
pub member_few : (p : PolicyOf) (n : ℕ) (m : MemberItem) → IsSound p → slice_get p.members n ≡ Some m
    → HasFewPorts m.grant.ports
member_few p n m sound there =
    let item = all_at (IsSoundMember p.virtuals) p.members n m sound.limits.members there in
    grant_at m.grant (plan p) m.grant.ports.v (slice_get p.virtuals m.grant.ports.v) refl item.there
    sound.together.topology item.grant
