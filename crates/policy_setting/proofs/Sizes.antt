-- The sizes of a setting over hops are the widths of its policy, where those aren't cut off.
use Rattle.std.proofs.Common.{◌≡◌, ◌∙◌, sym, ap, subst, ℕ, zero, suc, ◌+◌, ◌*◌, ◌-◌, ◌^◌, ◌<◌, ◌≤◌, ◌==◌, max, Bool}
use Rattle.std.proofs.Common.{true, false, List, [], ◌∷◌, length, Option, Some, None, map, inl, inr, arith, refl}
use Rattle.std.specs.Prelude.{slice_get, filter_map, if◌then◌else◌, nat_le, min}
use Rattle.std.specs.List.{AllByRecursion, cons_option, enumerate_from}
use Rattle.std.specs.Option.{option_map, option_map_or}
use Rattle.std.proofs.lemmas.Bool.{cases_lt}
use Rattle.std.proofs.lemmas.Bool.Decides.{nat_tests}
use Rattle.std.proofs.lemmas.Option.{slice_get-map, slice_get_within}
use Rattle.std.proofs.Math.Nat.{le-mul_of_pos_right, mul_comm}
use Rattle.std.proofs.Math.Path.{fun_ext}
use Rattle.agreement.specs.Fitting.{SizesFit}
use Rattle.alg_priority.specs.Levels.{capped}
use Rattle.policy_expr.specs.Policy.{Policy, member}
use Rattle.policy_expr.specs.Sizes.{size_of}
use Rattle.policy_meaning.specs.Hops.{hop_size, peers_size, greatest as greatest_of}
use Rattle.policy_meaning.specs.Networks.{fabric_of, switch_links, switch_size, table_size}
use Rattle.policy_meaning.specs.Switches.{SwitchOf}
use Rattle.policy_meaning.specs.declared.leaf.LeafTable.{LeafTable}
use Rattle.policy_meaning.specs.declared.network.Link.{Link}
use Rattle.virtual_topology.specs.declared.plan.TopologyPlan.{TopologyPlan}
use Rattle.virtual_topology.specs.declared.plan.VirtualItem.{VirtualItem}
use Rattle.virtual_topology.specs.declared.plan.VirtualPort.{VirtualPort}
use Rattle.virtual_topology.specs.Rows.{Spot}
use Rattle.virtual_topology.specs.Wires.{peer_of}
use Rattle.policies.specs.declared.fault.PolicyFault.{PolicyFault}
use Rattle.policies.specs.declared.policy.MemberItem.{MemberItem}
use Rattle.policies.specs.Widths.{bits_of, size, greatest, number_at, beyond, over_hop, width, too_wide, too_wide_at}
use Rattle.policies.specs.Widths.{too_wide_in}
use Rattle.policy_setting.specs.Networks.{link, place, virtual_switch}
use Rattle.policy_setting.specs.Settings.{expr_at, holds_at, setting, switches}
use Rattle.policy_setting.specs.OfPolicies.{AreSized}
use Rattle.policy_setting.proofs.Apart.{answers_none}
use Rattle.policy_setting.proofs.Mixed.{numbered_is}
use Rattle.policy_setting.proofs.Placing.{switch_at}

-- products of numbers that are cut off
at_least_first : (a b : ℕ) → 1 ≤ b → a ≤ a * b
at_least_first a b h = le-mul_of_pos_right a h

at_least_second : (a b : ℕ) → 1 ≤ a → b ≤ a * b
at_least_second a b h = let t : b * a ≡ a * b = mul_comm b a in subst (λ (n : ℕ). b ≤ n) t (le-mul_of_pos_right b h)

least_of : (n m : ℕ) → m ≤ n → min n m ≡ m
least_of n m h = omega arith

least_is : (n m : ℕ) → n ≤ m → min n m ≡ n
least_is n m h = omega arith

cut_second : (top a b : ℕ) → top < b → min (a * top) top ≡ min (a * b) top
cut_second top zero b h = let p : 0 * top ≡ 0 * b = omega arith in ap (λ (n : ℕ). min n top) p
cut_second top (suc a) b h =
    let one : 1 ≤ suc a = omega arith in
    let p : top ≤ suc a * top = at_least_second (suc a) top one in
    let q : b ≤ suc a * b = at_least_second (suc a) b one in
    least_of (suc a * top) top p ∙ sym (least_of (suc a * b) top (omega arith))

cut_product : (top a b : ℕ) → 1 ≤ top → 1 ≤ b → min (min a top * min b top) top ≡ min (a * b) top
cut_product top a b t h = elim (cases_lt top a) [
  | inl large ↦
      let p : min a top ≡ top = omega arith in
      let low : 1 ≤ min b top = omega arith in
      let q : top ≤ top * min b top = at_least_first top (min b top) low in
      let r : a ≤ a * b = at_least_first a b h in
      rw p (least_of (top * min b top) top q ∙ sym (least_of (a * b) top (omega arith)))
  | inr small ↦
      let p : min a top ≡ a = omega arith in
      elim (cases_lt top b) [
        | inl more ↦
            let q : min b top ≡ top = omega arith in
            rw (p, q) (cut_second top a b more)
        | inr less ↦ let q : min b top ≡ b = omega arith in rw (p, q) refl
      ]
]

capped_product : (a b : ℕ) → 1 ≤ b → capped (capped a * capped b) ≡ capped (a * b)
capped_product a b h = cut_product (2 ^ 64 - 1) a b (omega arith) h

cut_max : (top a b : ℕ) → max (min a top) (min b top) ≡ min (max a b) top
cut_max top a b = omega arith

-- the greatest sizes behind ports, and behind links
some_size : (ns : List ℕ) → 1 ≤ greatest_of ns
some_size [] = omega arith
some_size (n ∷ ns) = omega (arith, some_size ns)

at_least_one : (top n : ℕ) → 1 ≤ top → 1 ≤ n → max 1 (min n top) ≡ min n top
at_least_one top n t h = omega arith

behind_next : (plan : TopologyPlan) (f : ℕ → ℕ) (v : ℕ) (q : VirtualPort) (o : Option Spot) (rest : List Link) (m : ℕ)
    → peer_of plan v q.port ≡ o → m ≡ capped (greatest_of (map (λ (l : Link). f l.peer.v) rest))
    → max (option_map_or (λ (s : Spot). capped (f s.0)) o 1) m
    ≡ capped
    (greatest_of
    (map (λ (l : Link). f l.peer.v)
    (cons_option (option_map (λ s. record { port = q.port; peer = place s }) o) rest)))
behind_next plan f v q None rest m t e =
    let one : 1 ≤ greatest_of (map (λ (l : Link). f l.peer.v) rest) = some_size (map (λ (l : Link). f l.peer.v) rest) in
    rw e (at_least_one (2 ^ 64 - 1) (greatest_of (map (λ (l : Link). f l.peer.v) rest)) (omega arith) one)
behind_next plan f v q (Some s) rest m t e =
    rw e (cut_max (2 ^ 64 - 1) (f s.0) (greatest_of (map (λ (l : Link). f l.peer.v) rest)))

behind : (plan : TopologyPlan) (f : ℕ → ℕ) (v : ℕ) (qs : List VirtualPort)
    → greatest (map (λ (p : VirtualPort). beyond plan (λ u. capped (f u)) v p.port) qs)
    ≡ capped (greatest_of (map (λ (l : Link). f l.peer.v) (filter_map (link plan v) qs)))
behind plan f v [] = refl
behind plan f v (q ∷ qs) = behind_next plan f v q (peer_of plan v q.port) (filter_map (link plan v) qs) _ refl
    (behind plan f v qs)

-- the size of an expression is that over tables of these sizes
abbrev IsSizedAt : List MemberItem → List LeafTable → Type 0
IsSizedAt members tables = (i : ℕ) → table_size (slice_get tables i) ≡ 2 ^ bits_of members i

level_of : (o : Option LeafTable)
    → table_size o ≡ option_map_or (λ (n : ℕ). n) (option_map (λ (t : LeafTable). t.size) o) 1
level_of None = refl
level_of (Some t) = refl

bit_level : (o : Option MemberItem)
    → option_map_or (λ (n : ℕ). n) (option_map (λ (m : MemberItem). 2 ^ m.bits) o) 1
    ≡ 2 ^ option_map_or (λ (m : MemberItem). m.bits) o 0
bit_level None = refl
bit_level (Some m) = refl

sized_at : (members : List MemberItem) (tables : List LeafTable) → AreSized members tables → IsSizedAt members tables
sized_at members tables h = λ i.
    level_of (slice_get tables i)
    ∙ (ap (λ (o : Option ℕ). option_map_or (λ (n : ℕ). n) o 1)
    (sym (slice_get-map (λ (t : LeafTable). t.size) tables i)
    ∙ (ap (λ (ns : List ℕ). slice_get ns i) h ∙ slice_get-map (λ (m : MemberItem). 2 ^ m.bits) members i))
    ∙ bit_level (slice_get members i))

size_is : (members : List MemberItem) (tables : List LeafTable) → IsSizedAt members tables → (p : Policy)
    → size members p ≡ capped (size_of (λ i. table_size (slice_get tables i)) p)
size_is members tables h p = ap (λ (f : ℕ → ℕ). capped (size_of f p)) (sym (fun_ext h))

record IsThere {A : Type 0} (xs : List A) (i : ℕ) : Type 0 where
  item : A
  is : slice_get xs i ≡ Some item

there : {A : Type 0} (xs : List A) (i : ℕ) → i < length xs → IsThere xs i
there [] i lt = absurd (omega arith)
there (x ∷ xs) zero lt = record { item = x; is = refl }
there (x ∷ xs) (suc i) lt = let t = there xs i (omega arith) in record { item = t.item; is = t.is }

number_is : (members : List MemberItem) (exprs : List Policy) (v : ℕ) → v < length exprs
    → number_at (map (size members) exprs) v ≡ size members (expr_at exprs v)
number_is members exprs v lt =
    let t = there exprs v lt in
    ap (λ (o : Option ℕ). option_map_or (λ (n : ℕ). n) o 1) (slice_get-map (size members) exprs v
    ∙ ap (option_map (size members)) t.is)
    ∙ ap (λ (o : Option Policy). size members (option_map_or (λ (p : Policy). p) o (member 0))) (sym t.is)

width_at : (plan : TopologyPlan) (members : List MemberItem) (exprs : List Policy) (seen : List Bool)
    (tables : List LeafTable) → length exprs ≡ length plan.virtuals → IsSizedAt members tables → (n v : ℕ)
    → width plan (map (size members) exprs) n
    ≡ (λ u. capped (hop_size (fabric_of (record { tables = tables; switches = switches plan exprs seen })) n u))
    → (o : Option VirtualItem) → slice_get plan.virtuals v ≡ o
    → option_map_or (λ (x : VirtualItem). over_hop plan (map (size members) exprs)
    (width plan (map (size members) exprs) n) (v, x)) o 1
    ≡ capped (hop_size (fabric_of (record { tables = tables; switches = switches plan exprs seen })) (suc n) v)
width_at plan members exprs seen tables len h n v e None t =
    let f = hop_size (fabric_of (record { tables = tables; switches = switches plan exprs seen })) n in
    let at : slice_get (switches plan exprs seen) v ≡ None = switch_at plan exprs seen v
    ∙ ap (option_map (λ (x : VirtualItem). virtual_switch plan (expr_at exprs v) (holds_at seen v) (v, x))) t in
    sym (ap (λ (o : Option SwitchOf). capped (switch_size tables o * peers_size f (switch_links o))) at)
width_at plan members exprs seen tables len h n v e (Some x) t =
    let f = hop_size (fabric_of (record { tables = tables; switches = switches plan exprs seen })) n in
    let s = size_of (λ i. table_size (slice_get tables i)) (expr_at exprs v) in
    let g = greatest_of (map (λ (l : Link). f l.peer.v) (filter_map (link plan v) x.ports)) in
    let at : slice_get (switches plan exprs seen) v
    ≡ Some (virtual_switch plan (expr_at exprs v) (holds_at seen v) (v, x)) = switch_at plan exprs seen v
    ∙ ap (option_map (λ (x : VirtualItem). virtual_switch plan (expr_at exprs v) (holds_at seen v) (v, x))) t in
    let below : v < length exprs = subst (λ (k : ℕ). v < k) (sym len) (slice_get_within plan.virtuals v x t) in
    let own : number_at (map (size members) exprs) v ≡ capped s = number_is members exprs v below
    ∙ size_is members tables h (expr_at exprs v) in
    let far : greatest (map (λ (p : VirtualPort). beyond plan (width plan (map (size members) exprs) n) v p.port)
    x.ports) ≡ capped g = ap (λ (w : ℕ → ℕ). greatest (map (λ (p : VirtualPort). beyond plan w v p.port) x.ports)) e
    ∙ behind plan f v x.ports in
    (λ i. capped (own i * far i))
    ∙ (capped_product s g (some_size (map (λ (l : Link). f l.peer.v) (filter_map (link plan v) x.ports)))
    ∙ sym (ap (λ (o : Option SwitchOf). capped (switch_size tables o * peers_size f (switch_links o))) at))

-- the width of a virtual switch is its size, cut off
width_is : (plan : TopologyPlan) (members : List MemberItem) (exprs : List Policy) (seen : List Bool)
    (tables : List LeafTable) → length exprs ≡ length plan.virtuals → IsSizedAt members tables → (n v : ℕ)
    → width plan (map (size members) exprs) n v
    ≡ capped (hop_size (fabric_of (record { tables = tables; switches = switches plan exprs seen })) n v)
width_is plan members exprs seen tables len h zero v = refl
width_is plan members exprs seen tables len h (suc n) v =
    width_at plan members exprs seen tables len h n v (fun_ext (width_is plan members exprs seen tables len h n))
    (slice_get plan.virtuals v) refl

-- where no virtual switch is too wide, each size leaves room
not_wide : (x : VirtualItem) (n : ℕ) → too_wide x n ≡ None → n ≤ 65534
not_wide x n e = grind (arith, nat_tests)

uncut_by : (top n : ℕ) → 65534 < top → min n top ≤ 65534 → n ≤ 65534
uncut_by top n t h = omega arith

uncut : (n : ℕ) → capped n ≤ 65534 → n ≤ 65534
uncut n h = uncut_by (2 ^ 64 - 1) n (omega arith) h

none_wide : (plan : TopologyPlan) (exprs : List Policy) (seen : List Bool) (tables : List LeafTable) (n v : ℕ)
    → slice_get plan.virtuals v ≡ None
    → hop_size (fabric_of (record { tables = tables; switches = switches plan exprs seen })) n v ≤ 65534
none_wide plan exprs seen tables zero v t = omega arith
none_wide plan exprs seen tables (suc n) v t =
    let f = hop_size (fabric_of (record { tables = tables; switches = switches plan exprs seen })) n in
    let at : slice_get (switches plan exprs seen) v ≡ None = switch_at plan exprs seen v
    ∙ ap (option_map (λ (x : VirtualItem). virtual_switch plan (expr_at exprs v) (holds_at seen v) (v, x))) t in
    let one : switch_size tables (slice_get (switches plan exprs seen) v) * peers_size f
    (switch_links (slice_get (switches plan exprs seen) v)) ≡ 1 =
    ap (λ (o : Option SwitchOf). switch_size tables o * peers_size f (switch_links o)) at in
    omega (arith, one)

fits_at : (plan : TopologyPlan) (members : List MemberItem) (exprs : List Policy) (seen : List Bool)
    (tables : List LeafTable) → length exprs ≡ length plan.virtuals → IsSizedAt members tables → (hops : ℕ)
    → too_wide_in plan members exprs hops ≡ None
    → (v : ℕ) (o : Option VirtualItem) → slice_get plan.virtuals v ≡ o
    → hop_size (fabric_of (record { tables = tables; switches = switches plan exprs seen })) hops v ≤ 65534
fits_at plan members exprs seen tables len h hops e v None t = none_wide plan exprs seen tables hops v t
fits_at plan members exprs seen tables len h hops e v (Some x) t =
    let needed = width plan (map (size members) exprs) hops in
    let p : 0 + v ≡ v = omega arith in
    let narrow : needed v ≤ 65534 =
    not_wide x (needed v)
    (subst (λ (n : ℕ). too_wide x (needed n) ≡ None) p
    (numbered_is (λ (i : ℕ × VirtualItem). too_wide_at needed i ≡ None) 0 plan.virtuals v x t
    (answers_none (too_wide_at needed) (enumerate_from 0 plan.virtuals) e))) in
    uncut (hop_size (fabric_of (record { tables = tables; switches = switches plan exprs seen })) hops v)
    (subst (λ (n : ℕ). n ≤ 65534) (width_is plan members exprs seen tables len h hops v) narrow)

pub sizes_fit : (plan : TopologyPlan) (members : List MemberItem) (exprs : List Policy) (seen : List Bool)
    (tables : List LeafTable) (up : List Bool) (hops : ℕ) → length exprs ≡ length plan.virtuals
    → AreSized members tables → too_wide_in plan members exprs hops ≡ None
    → SizesFit (setting plan exprs seen tables up hops)
sizes_fit plan members exprs seen tables up hops len h e =
    λ v. fits_at plan members exprs seen tables len (sized_at members tables h) hops e v (slice_get plan.virtuals v)
    refl
