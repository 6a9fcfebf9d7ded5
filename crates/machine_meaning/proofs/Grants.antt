-- The grants of a policy are as members' tables ask.
use Rattle.std.proofs.Common.{◌≡◌, ◌∙◌, ℕ, zero, suc, ◌<◌, ◌≤◌, ◌==◌, Bool, true, false, true≢false, ◌&&◌, ◌||◌, List}
use Rattle.std.proofs.Common.{[], ◌∷◌, ◌++◌, length, Option, Some, None, IfSome, arith, refl, sym, ap, ap₂, subst}
use Rattle.std.proofs.Common.{eqb-true}
use Rattle.std.specs.Prelude.{flat_map, if◌then◌else◌, is_none, is_some, slice_get}
use Rattle.std.specs.List.{AllByRecursion, list_any}
use Rattle.std.proofs.lemmas.Bool.{ne_eqb}
use Rattle.std.proofs.lemmas.Slice.Eq.{bytes_eq-Decides}
use Rattle.member_state.specs.Sound.{IsSoundGrant, NamesNoPort}
use Rattle.of10_actions.specs.Numbers.{MAX}
use Rattle.of10_match.specs.Normal.{IsNormal}
use Rattle.policies.specs.Policies.{PolicyOf, plan}
use Rattle.policies.specs.Sound.{EachToEarlier, IsPortNumber, IsSound, IsSoundBox, IsSoundGrant as IsGrantAt}
use Rattle.policies.specs.Sound.{IsSoundMember as IsSoundItem, IsSoundVirtual, LiesApart, has_at_side, is_at_side}
use Rattle.policies.specs.declared.policy.MemberItem.{MemberItem}
use Rattle.policies.proofs.Rising.{RiseFrom, rise_from}
use Rattle.policy_meaning.specs.LeafFact.{EachPair}
use Rattle.policy_setting.proofs.Apart.{Apart, faultless}
use Rattle.policy_setting.proofs.Parts.{all_both, all_first, all_second, pairs_across, pairs_first, pairs_second}
use Rattle.virtual_topology.specs.Places.{at_port, in_role, item_uses, pair_uses, port_uses, same_use, virtual_uses}
use Rattle.virtual_topology.specs.declared.plan.PortPlace.{PortPlace}
use Rattle.virtual_topology.specs.declared.plan.VirtualItem.{VirtualItem}
use Rattle.virtual_topology.specs.declared.plan.VirtualPort.{VirtualPort}
use Rattle.virtual_topology.specs.declared.uses.Role.TheVariants.{Link, Physical, Virtual}
use Rattle.machine_meaning.proofs.Places.{at_place}
use Rattle.machine_meaning.proofs.Unchanged.{all_weaker}

-- pairs -------------------------------------------------------------------------------------------------------------

-- what is so of each item to those before it is so of each pair, turned
earlier_pairs : {A : Type 0} (R : A → A → Type 0) (xs : List A) → EachToEarlier R xs → EachPair (λ x y. R y x) xs
earlier_pairs R [] h = tt
earlier_pairs R (x ∷ xs) h = (h.0, earlier_pairs R xs h.1)

pairs_both : {A : Type 0} (R : A → A → Type 0) (xs ys : List A) → EachPair R xs → EachPair R ys
    → AllByRecursion (λ x. AllByRecursion (R x) ys) xs → EachPair R (xs ++ ys)
pairs_both R [] ys h k a = k
pairs_both R (x ∷ xs) ys h k a = (all_both (R x) xs ys h.0 a.0, pairs_both R xs ys h.1 k a.1)

-- two numbers differ
abbrev Differ : ℕ → ℕ → Type 0
Differ p q = (q == p) ≡ false

above : (low : ℕ) (xs : List ℕ) → RiseFrom low xs → AllByRecursion (λ x. low ≤ x) xs
above low [] h = tt
above low (x ∷ xs) h = (
  h.0,
  all_weaker (λ y. suc x ≤ y) (λ y. low ≤ y) (λ y k. let l : low ≤ x = h.0 in omega (arith, k, l)) xs
      (above (suc x) xs h.1),
)

rising_pairs : (low : ℕ) (xs : List ℕ) → RiseFrom low xs → EachPair Differ xs
rising_pairs low [] h = tt
rising_pairs low (x ∷ xs) h = (
  all_weaker (λ y. suc x ≤ y) (Differ x) (λ y k. ne_eqb y x (λ e. omega (arith, k, e))) xs (above (suc x) xs h.1),
  rising_pairs (suc x) xs h.1,
)

-- ports of one virtual switch ---------------------------------------------------------------------------------------

-- one of a flat list's lists
of_flat : {X Y : Type 0} (R : Y → Y → Type 0) (f : X → List Y) (xs : List X) (n : ℕ) (x : X)
    → EachPair R (flat_map f xs)
    → slice_get xs n ≡ Some x → EachPair R (f x)
of_flat R f [] n x h e = absurd (cc e)
of_flat R f (y ∷ ys) zero x h e =
    let p : y ≡ x = cc e in subst (λ z. EachPair R (f z)) p (pairs_first R (f y) (flat_map f ys) h)
of_flat R f (y ∷ ys) (suc n) x h e = of_flat R f ys n x (pairs_second R (f y) (flat_map f ys) h) e

same_port : (name : List ℕ) (p q : ℕ) → (q == p) ≡ true
    → same_use (in_role Virtual (at_port name q)) (in_role Virtual (at_port name p)) ≡ true
same_port name p q e = ap₂ (λ (a b : Bool). a && b) ((bytes_eq-Decides name name).1 refl) e

matches : (side : Bool) (p : ℕ) (q : VirtualPort) → is_at_side side p q ≡ true → (q.port == p) ≡ true
matches side p q e = by (q.port == p) e
  where
    by : (b : Bool) → (b && (if side then is_none q.at else is_some q.at)) ≡ true → b ≡ true
    by true h = refl
    by false h = h

-- a port that none of these is, isn't there
none_there : (name : List ℕ) (side : Bool) (p : ℕ) (qs : List VirtualPort)
    → AllByRecursion (Apart (in_role Virtual (at_port name p))) (flat_map (port_uses name) qs)
    → list_any (is_at_side side p) qs ≡ false
none_there name side p [] h = refl
none_there name side p (q ∷ qs) h =
    let rest = none_there name side p qs
    (all_second (Apart (in_role Virtual (at_port name p))) (port_uses name q) (flat_map (port_uses name) qs) h) in
    by (is_at_side side p q) refl rest
    (all_first (Apart (in_role Virtual (at_port name p))) (port_uses name q) (flat_map (port_uses name) qs) h).0
  where
    by : (b : Bool) → is_at_side side p q ≡ b → list_any (is_at_side side p) qs ≡ false
        → same_use (in_role Virtual (at_port name q.port)) (in_role Virtual (at_port name p)) ≡ false
        → (b || list_any (is_at_side side p) qs) ≡ false
    by true e r a = absurd (true≢false (sym (same_port name p q.port (matches side p q e)) ∙ a))
    by false e r a = r

-- no port is both an outside port and a link port
one_side : (name : List ℕ) (p : ℕ) (qs : List VirtualPort) → EachPair Apart (flat_map (port_uses name) qs)
    → list_any (is_at_side false p) qs ≡ true → list_any (is_at_side true p) qs ≡ true → ⊥
one_side name p [] h a b = true≢false (sym a)
one_side name p (q ∷ qs) h a b =
    by q.at (q.port == p) refl a b
    (one_side name p qs (pairs_second Apart (port_uses name q) (flat_map (port_uses name) qs) h))
    (λ side t. none_there name side p qs
    (subst (λ (port : ℕ). AllByRecursion (Apart (in_role Virtual (at_port name port))) (flat_map (port_uses name) qs))
    (eqb-true q.port p t) (pairs_across Apart (port_uses name q) (flat_map (port_uses name) qs) h).0))
  where
    by : (at : Option PortPlace) (t : Bool) → (q.port == p) ≡ t
        → ((t && (if false then is_none at else is_some at)) || list_any (is_at_side false p) qs) ≡ true
        → ((t && (if true then is_none at else is_some at)) || list_any (is_at_side true p) qs) ≡ true
        → (list_any (is_at_side false p) qs ≡ true → list_any (is_at_side true p) qs ≡ true → ⊥)
        → ((side : Bool) → (q.port == p) ≡ true → list_any (is_at_side side p) qs ≡ false) → ⊥
    by at false e x y rest none = rest x y
    by None true e x y rest none = true≢false (sym x ∙ none false e)
    by (Some place) true e x y rest none = true≢false (sym y ∙ none true e)

-- the grant ---------------------------------------------------------------------------------------------------------

-- the virtual switch of a member
pub record IsItemOf (p : PolicyOf) (m : MemberItem) : Type 0 where
  pub item : VirtualItem
  pub there : slice_get p.virtuals m.grant.ports.v ≡ Some item
  pub grant : IsGrantAt m.grant item

never_past : {A : Type 0} (xs : List A) (i : ℕ) → i < length xs → slice_get xs i ≡ None → ⊥
never_past [] i below e = omega (arith, below)
never_past (x ∷ xs) zero below e = cc e
never_past (x ∷ xs) (suc i) below e = never_past xs i (omega (arith, below)) e

pub item_of : (p : PolicyOf) → IsSound p → (i : ℕ) (m : MemberItem) → slice_get p.members i ≡ Some m → IsItemOf p m
item_of p h i m at =
    let s = at_place (IsSoundItem p.virtuals) p.members i m h.limits.members at in
    by s.there (slice_get p.virtuals m.grant.ports.v) refl s.grant
  where
    by : m.grant.ports.v < length p.virtuals → (o : Option VirtualItem) → slice_get p.virtuals m.grant.ports.v ≡ o
        → IfSome o (IsGrantAt m.grant) → IsItemOf p m
    by below (Some x) e g = record { item = x; there = e; grant = g }
    by below None e g = absurd (never_past p.virtuals m.grant.ports.v below e)

ports_apart : (p : PolicyOf) → IsSound p → (v : ℕ) (x : VirtualItem) → slice_get p.virtuals v ≡ Some x
    → EachPair Apart (item_uses x)
ports_apart p h v x at =
    let once = (faultless (plan p) h.together.topology).once in
    of_flat Apart item_uses p.virtuals v x
    (pairs_first Apart (virtual_uses p.virtuals) (pair_uses Link p.links)
    (pairs_second Apart (pair_uses Physical p.cables) (virtual_uses p.virtuals ++ pair_uses Link p.links) once))
    at

-- a port that is there has a number of ports
numbered_port : (side : Bool) (n : ℕ) (qs : List VirtualPort)
    → AllByRecursion (λ (q : VirtualPort). IsPortNumber q.port) qs
    → list_any (is_at_side side n) qs ≡ true → n < MAX
numbered_port side n [] h e = absurd (true≢false (sym e))
numbered_port side n (q ∷ qs) h e = by (is_at_side side n q) refl e (numbered_port side n qs h.1)
  where
    by : (b : Bool) → is_at_side side n q ≡ b → (b || list_any (is_at_side side n) qs) ≡ true
        → (list_any (is_at_side side n) qs ≡ true → n < MAX) → n < MAX
    by true t k f =
        let same : q.port ≡ n = eqb-true q.port n (matches side n q t) in
        let most = h.0.1 in
        omega (arith, same, most)
    by false t k f = f k

differ_across : (x : VirtualItem) → EachPair Apart (item_uses x) → (outside links : List ℕ)
    → AllByRecursion (λ port. has_at_side x false port ≡ true) outside
    → AllByRecursion (λ port. has_at_side x true port ≡ true) links
    → AllByRecursion (λ p. AllByRecursion (Differ p) links) outside
differ_across x once outside links a b =
    all_weaker (λ port. has_at_side x false port ≡ true) (λ p. AllByRecursion (Differ p) links)
    (λ p h. all_weaker (λ port. has_at_side x true port ≡ true) (Differ p)
    (λ q k. ne_eqb q p (λ e. one_side x.name p x.ports once h (ap (has_at_side x true) (sym e) ∙ k))) links b)
    outside a

pub grant_sound : (p : PolicyOf) → IsSound p → (i : ℕ) (m : MemberItem)
    → slice_get p.members i ≡ Some m → IsSoundGrant m.grant
grant_sound p h i m at =
    let x = item_of p h i m at in
    let ports = (at_place IsSoundVirtual p.virtuals m.grant.ports.v x.item h.limits.virtuals x.there).ports in
    record {
      boxes = all_weaker IsSoundBox IsNormal (λ b k. k.normal) m.grant.regions x.grant.boxes;
      disjoint = earlier_pairs LiesApart m.grant.regions x.grant.apart;
      portless = all_weaker IsSoundBox NamesNoPort (λ b k. k.port) m.grant.regions x.grant.boxes;
      visible =
          pairs_both Differ m.grant.ports.outside m.grant.ports.links
          (rising_pairs 0 m.grant.ports.outside
          (rise_from m.grant.ports.outside 0 x.grant.rising.outside (λ _. omega arith)))
          (rising_pairs 0 m.grant.ports.links (rise_from m.grant.ports.links 0 x.grant.rising.links (λ _. omega arith)))
          (differ_across x.item
          (ports_apart p h m.grant.ports.v x.item x.there) m.grant.ports.outside m.grant.ports.links
          x.grant.outside x.grant.links);
      numbers =
          all_weaker (λ port. has_at_side x.item true port ≡ true) (λ port. port < MAX)
          (λ port k. numbered_port true port x.item.ports ports k) m.grant.ports.links x.grant.links;
    }
