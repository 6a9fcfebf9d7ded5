-- Next hops that lie on shortest paths are ways, over no more cables and switches than there are.
use Rattle.std.proofs.Common.{◌≡◌, ◌≢◌, ℕ, zero, suc, ◌+◌, ◌<◌, ◌≤◌, ◌⊎◌, inl, inr, Bool, true, false, ◌&&◌, ◌||◌, List}
use Rattle.std.proofs.Common.{[], ◌∷◌, Some, refl, ap, ◌∙◌, sym, subst, arith, eq-eqb, eqb-true, length}
use Rattle.std.specs.Prelude.{◌==◌, IfSome, filter, if◌then◌else◌, not}
use Rattle.std.specs.Cmp.{both_ways}
use Rattle.std.specs.List.{AllByRecursion, enumerate_from, list_any}
use Rattle.policy_meaning.specs.LeafFact.{EachPair}
use Rattle.policy_meaning.proofs.Booleans.{or_right, some_injective, split_and}
use Rattle.policy_meaning.proofs.Lists.{all-map, all-zip}
use Rattle.switch_meaning.specs.Wirings.{far_end, next_hop, other_end, same_spot}
use Rattle.switch_meaning.specs.declared.wiring.Cable.{Cable}
use Rattle.switch_meaning.specs.declared.wiring.SwitchPort.{SwitchPort}
use Rattle.switch_meaning.specs.declared.wiring.Wiring.{Wiring}
use Rattle.agreement.specs.declared.state.PhysicalSwitch.{PhysicalSwitch}
use Rattle.agreement.specs.declared.state.Setting.{Setting}
use Rattle.agreement.specs.Premises.{GetsTo, HasWay, cable_ends}
use Rattle.agreement.specs.Ways.{AreSoundCables, HasPath, HasShortestHops, IsDistance, ShortestHopsAreWays}
use Rattle.agreement.proofs.Cables.{is_end, peer-end, spot-is, spot-self}

-- no more items than boxes, where each is in a box and no two are in one
module _ {A B : Type 0} (on : A → B → Bool) where
  abbrev Away : A → A → Type 0
  Away x y = (b : B) → on x b ≡ true → on y b ≡ true → ⊥

  none-out : (b : B) (ys : List A) → AllByRecursion (λ y. on y b ≡ true → ⊥) ys
      → length ys ≤ length (filter (λ x. not (on x b)) ys)
  none-out b [] a = omega arith
  none-out b (y ∷ ys) a = by (on y b) refl (none-out b ys a.1)
    where
      by : (t : Bool) → on y b ≡ t → length ys ≤ length (filter (λ x. not (on x b)) ys)
          → length (y ∷ ys) ≤ length (if not t then y ∷ filter (λ x. not (on x b)) ys
          else filter (λ x. not (on x b)) ys)
      by true e le = absurd (a.0 e)
      by false e le = omega arith

  one-out : (b : B) (xs : List A) → EachPair Away xs → length xs ≤ suc (length (filter (λ x. not (on x b)) xs))
  one-out b [] p = omega arith
  one-out b (x ∷ xs) p = by (on x b) refl (one-out b xs p.1)
    where
      by : (t : Bool) → on x b ≡ t → length xs ≤ suc (length (filter (λ x. not (on x b)) xs))
          → length (x ∷ xs) ≤ suc
          (length (if not t then x ∷ filter (λ x. not (on x b)) xs else filter (λ x. not (on x b)) xs))
      by true e le = let n = none-out b xs (all-map (Away x) (λ y. on y b ≡ true → ⊥) xs (λ y f t. f b e t) p.0) in
          omega (arith, n)
      by false e le = omega arith

  all-kept : (P : A → Type 0) (t : A → Bool) (xs : List A) → AllByRecursion P xs → AllByRecursion P (filter t xs)
  all-kept P t [] a = tt
  all-kept P t (x ∷ xs) a = by (t x) (all-kept P t xs a.1)
    where
      by : (b : Bool) → AllByRecursion P (filter t xs) → AllByRecursion P (if b then x ∷ filter t xs else filter t xs)
      by true q = (a.0, q)
      by false q = q

  kept-pairs : (t : A → Bool) (xs : List A) → EachPair Away xs → EachPair Away (filter t xs)
  kept-pairs t [] p = tt
  kept-pairs t (x ∷ xs) p = by (t x) (kept-pairs t xs p.1) (all-kept (Away x) t xs p.0)
    where
      by : (b : Bool) → EachPair Away (filter t xs) → AllByRecursion (Away x) (filter t xs)
          → EachPair Away (if b then x ∷ filter t xs else filter t xs)
      by true q a = (a, q)
      by false q a = q

  passing : (t : A → Bool) (xs : List A) → AllByRecursion (λ x. t x ≡ true) (filter t xs)
  passing t [] = tt
  passing t (x ∷ xs) = by (t x) refl (passing t xs)
    where
      by : (b : Bool) → t x ≡ b → AllByRecursion (λ x. t x ≡ true) (filter t xs)
          → AllByRecursion (λ x. t x ≡ true) (if b then x ∷ filter t xs else filter t xs)
      by true e q = (e, q)
      by false e q = q

  elsewhere : (a b : Bool) → (a || b) ≡ true → not a ≡ true → b ≡ true
  elsewhere true b e f = cc
  elsewhere false b e f = e

  pub no-more : (bs : List B) (xs : List A) → AllByRecursion (λ x. list_any (on x) bs ≡ true) xs → EachPair Away xs
      → length xs ≤ length bs
  no-more [] [] a p = omega arith
  no-more [] (x ∷ xs) a p = let f : false ≡ true = a.0 in cc
  no-more (b ∷ bs) xs a p =
      let out = λ (x : A). not (on x b) in
      let rest = all-map (λ x. (list_any (on x) (b ∷ bs) ≡ true) × (not (on x b) ≡ true))
      (λ x. list_any (on x) bs ≡ true) (filter out xs) (λ x q. elsewhere (on x b) (list_any (on x) bs) q.0 q.1)
      (all-zip (λ x. list_any (on x) (b ∷ bs) ≡ true) (λ x. not (on x b) ≡ true) (filter out xs)
      (all-kept (λ x. list_any (on x) (b ∷ bs) ≡ true) out xs a) (passing out xs)) in
      let le = no-more bs (filter out xs) rest (kept-pairs out xs p) in
      let one = one-out b xs p in
      omega (arith, le, one)

-- the other end of a cable leads back

flips : (a b : SwitchPort) → same_spot a b ≡ same_spot b a
flips a b = both_ways (same_spot a b) (same_spot b a)
    (λ t. subst (λ z. same_spot z a ≡ true) (spot-is a b t) (spot-self a))
    (λ t. subst (λ z. same_spot z b ≡ true) (spot-is b a t) (spot-self b))

apart-any : (x p : SwitchPort) (ends : List SwitchPort) → AllByRecursion (λ b. same_spot b x ≡ false) ends
    → list_any (λ q. same_spot q p) ends ≡ true → same_spot x p ≡ false
apart-any x p [] a e = cc
apart-any x p (b ∷ bs) a e = by (same_spot b p) refl e (λ t. apart-any x p bs a.1 t)
  where
    by : (t : Bool) → same_spot b p ≡ t → (t || list_any (λ q. same_spot q p) bs) ≡ true
        → (list_any (λ q. same_spot q p) bs ≡ true → same_spot x p ≡ false) → same_spot x p ≡ false
    by true t u f = flips x p ∙ subst (λ z. same_spot z x ≡ false) (spot-is b p t) a.0
    by false t u f = f u

back : (cs : List Cable) (s p : SwitchPort) → EachPair (λ (a b : SwitchPort). same_spot b a ≡ false) (cable_ends cs)
    → other_end cs s ≡ Some p → other_end cs p ≡ Some s
back [] s p once e = cc
back (c ∷ cs) s p once e = by (same_spot c.one s) (same_spot c.other s) refl refl e (λ f. back cs s p once.1.1 f)
  where
    by : (a b : Bool) → same_spot c.one s ≡ a → same_spot c.other s ≡ b
        → (if a then Some c.other else (if b then Some c.one else other_end cs s)) ≡ Some p
        → (other_end cs s ≡ Some p → other_end cs p ≡ Some s)
        → (if same_spot c.one p then Some c.other else (if same_spot c.other p then Some c.one else other_end cs p))
        ≡ Some s
    by true b f g u later =
        let is : c.other ≡ p = some_injective u in
        let first : same_spot c.one p ≡ false =
        subst (λ z. same_spot c.one z ≡ false) is (flips c.one c.other ∙ once.0.0) in
        let second : same_spot c.other p ≡ true = subst (λ z. same_spot c.other z ≡ true) is (spot-self c.other) in
        rw (first, second) (ap Some (spot-is c.one s f))
    by false true f g u later =
        let is : c.one ≡ p = some_injective u in
        let first : same_spot c.one p ≡ true = subst (λ z. same_spot c.one z ≡ true) is (spot-self c.one) in
        rw first (ap Some (spot-is c.other s g))
    by false false f g u later =
        let end : is_end cs p ≡ true = peer-end cs s p u in
        let first : same_spot c.one p ≡ false = apart-any c.one p (cable_ends cs) once.0.1 end in
        let second : same_spot c.other p ≡ false = apart-any c.other p (cable_ends cs) once.1.0 end in
        rw (first, second) (later u)

-- one step of a way
pub record Step : Type 0 where
  pub from : SwitchPort
  pub peer : SwitchPort

abbrev joins : Step → Cable → Bool
joins st c = (same_spot c.one st.from && same_spot c.other st.peer) ||
    (same_spot c.other st.from && same_spot c.one st.peer)

joined : (cs : List Cable) (s p : SwitchPort) → other_end cs s ≡ Some p
    → list_any (joins (record { from = s; peer = p })) cs ≡ true
joined [] s p e = cc
joined (c ∷ cs) s p e = by (same_spot c.one s) (same_spot c.other s) refl e (λ f. joined cs s p f)
  where
    by : (a b : Bool) → same_spot c.other s ≡ b
        → (if a then Some c.other else (if b then Some c.one else other_end cs s)) ≡ Some p
        → (other_end cs s ≡ Some p → list_any (joins (record { from = s; peer = p })) cs ≡ true)
        → (((a && same_spot c.other p) || (same_spot c.other s && same_spot c.one p)) || list_any
        (joins (record { from = s; peer = p })) cs) ≡ true
    by true b g u later = let t : same_spot c.other p ≡ true =
        subst (λ z. same_spot c.other z ≡ true) (some_injective u) (spot-self c.other) in rw t refl
    by false true g u later = let t : same_spot c.one p ≡ true =
        subst (λ z. same_spot c.one z ≡ true) (some_injective u) (spot-self c.one) in rw (g, t) refl
    by false false g u later = or_right (same_spot c.other s && same_spot c.one p) _ (later u)

module _ (w : Wiring) (to : ℕ) where
  -- one switch has one distance
  one-distance : (n m v : ℕ) → IsDistance w to n v → IsDistance w to m v → n ≢ m → ⊥
  one-distance n m v a b ne = by (λ lt. b.least n lt a.path) (λ lt. a.least m lt b.path)
    where
      by : (n < m → ⊥) → (m < n → ⊥) → ⊥
      by f g = ne (omega arith)

  -- a step from a distance to the one below
  record Falls (n : ℕ) (st : Step) : Type 0 where
    k : ℕ
    below : k < n
    start : IsDistance w to (suc k) st.from.switch
    goal : IsDistance w to k st.peer.switch

  -- a cable that joins a step has both its switches
  ends-of : (st : Step) (c : Cable) → joins st c ≡ true
      → ((c.one ≡ st.from) × (c.other ≡ st.peer)) ⊎ ((c.other ≡ st.from) × (c.one ≡ st.peer))
  ends-of st c e = by (same_spot c.one st.from && same_spot c.other st.peer) refl e
    where
      by : (b : Bool) → (same_spot c.one st.from && same_spot c.other st.peer) ≡ b
          → (b || (same_spot c.other st.from && same_spot c.one st.peer)) ≡ true
          → ((c.one ≡ st.from) × (c.other ≡ st.peer)) ⊎ ((c.other ≡ st.from) × (c.one ≡ st.peer))
      by true f t = let s = split_and (same_spot c.one st.from) (same_spot c.other st.peer) f in
          inl (spot-is c.one st.from s.0, spot-is c.other st.peer s.1)
      by false f t = let s = split_and (same_spot c.other st.from) (same_spot c.one st.peer) t in
          inr (spot-is c.other st.from s.0, spot-is c.one st.peer s.1)

  -- where a step starts, no step from nearer starts or ends
  module _ (n : ℕ) (st : Step) (far : IsDistance w to (suc n) st.from.switch) (x : Step) (near : Falls n x) where
    not-start : st.from ≡ x.from → ⊥
    not-start e = let b = near.below in one-distance (suc n) (suc near.k) st.from.switch far
        (subst (λ (z : SwitchPort). IsDistance w to (suc near.k) z.switch) (sym e) near.start)
        (λ same. absurd (omega arith))

    not-goal : st.from ≡ x.peer → ⊥
    not-goal e = let b = near.below in one-distance (suc n) near.k st.from.switch far
        (subst (λ (z : SwitchPort). IsDistance w to near.k z.switch) (sym e) near.goal) (λ same. absurd (omega arith))

    apart-by : (c : Cable) → ((c.one ≡ st.from) × (c.other ≡ st.peer)) ⊎ ((c.other ≡ st.from) × (c.one ≡ st.peer))
        → ((c.one ≡ x.from) × (c.other ≡ x.peer)) ⊎ ((c.other ≡ x.from) × (c.one ≡ x.peer)) → ⊥
    apart-by c (inl a) (inl b) = not-start (sym a.0 ∙ b.0)
    apart-by c (inl a) (inr b) = not-goal (sym a.0 ∙ b.1)
    apart-by c (inr a) (inl b) = not-goal (sym a.0 ∙ b.1)
    apart-by c (inr a) (inr b) = not-start (sym a.0 ∙ b.0)

    steps-apart : (c : Cable) → joins st c ≡ true → joins x c ≡ true → ⊥
    steps-apart c e f = apart-by c (ends-of st c e) (ends-of x c f)

module _ (s : Setting) (good : AreSoundCables s) (to : ℕ) (hops : HasShortestHops s.wiring to) where
  abbrev w : Wiring
  w = s.wiring

  abbrev stands : Step → ℕ × PhysicalSwitch → Bool
  stands st i = st.from.switch == i.0

  there-from : (v n : ℕ) (xs : List PhysicalSwitch) → n ≤ v → v < n + length xs
      → list_any (λ (i : ℕ × PhysicalSwitch). v == i.0) (enumerate_from n xs) ≡ true
  there-from v n [] le lt = absurd (omega arith)
  there-from v n (x ∷ xs) le lt = by (v == n) refl (λ ne. there-from v (n + 1) xs (omega arith) (omega arith))
    where
      by : (b : Bool) → (v == n) ≡ b
          → (v ≢ n → list_any (λ (i : ℕ × PhysicalSwitch). v == i.0) (enumerate_from (n + 1) xs) ≡ true)
          → (b || list_any (λ (i : ℕ × PhysicalSwitch). v == i.0) (enumerate_from (n + 1) xs)) ≡ true
      by true e f = refl
      by false e f = f (λ same. let t : (v == n) ≡ true = eq-eqb v n same in cc)

  numbered : (n : ℕ) (xs : List PhysicalSwitch) → length (enumerate_from n xs) ≡ length xs
  numbered n [] = refl
  numbered n (x ∷ xs) = ap suc (numbered (n + 1) xs)

  record Journey (n v : ℕ) : Type 0 where
    way : GetsTo w to n v
    steps : List Step
    count : length steps ≡ n
    falls : AllByRecursion (Falls w to n) steps
    cables : AllByRecursion (λ st. list_any (joins st) w.cables ≡ true) steps
    switches : AllByRecursion (λ st. list_any (stands st) (enumerate_from 0 s.switches) ≡ true) steps
    by_cable : EachPair (Away joins) steps
    by_switch : EachPair (Away stands) steps

  nearer : (n v : ℕ) (peer : SwitchPort) (port : ℕ) → far_end w (record { switch = v; port = port }) ≡ Some peer
      → IsDistance w to (suc n) v → HasPath w to n peer.switch → IsDistance w to n peer.switch
  nearer n v peer port cable d path =
      record {
        path = path;
        least = λ m lt p. d.least (suc m) (omega arith)
            (record { port = port; peer = peer; cable = cable; rest = p });
      }

  -- the next hop from a peer doesn't lead back
  onward : (n v : ℕ) (peer : SwitchPort) (port : ℕ) → far_end w (record { switch = v; port = port }) ≡ Some peer
      → IsDistance w to (suc n) v → IsDistance w to n peer.switch
      → IfSome (next_hop w peer.switch to) (λ q. q ≢ peer.port)
  onward zero v peer port cable d e = rw (e.path, hops.stays) tt
  onward (suc n) v peer port cable d e =
      let h = hops.hops n peer.switch e in
      rw h.hop (λ same.
      let again : far_end w peer ≡ Some h.peer =
      subst (λ q. far_end w (record { switch = peer.switch; port = q }) ≡ Some h.peer) same h.cable in
      let home : far_end w peer ≡ Some (record { switch = v; port = port }) =
      back w.cables (record { switch = v; port = port }) peer good.once cable in
      let is : h.peer ≡ record { switch = v; port = port } = some_injective (sym again ∙ home) in
      d.least n (omega arith) (subst (λ (z : SwitchPort). HasPath w to n z.switch) is h.path))

  number-apart : (n : ℕ) (st x : Step) → IsDistance w to (suc n) st.from.switch → Falls w to n x
      → (i : ℕ × PhysicalSwitch) → stands st i ≡ true → stands x i ≡ true → ⊥
  number-apart n st x far near i e f =
      let same : st.from.switch ≡ x.from.switch = eqb-true st.from.switch i.0 e ∙ sym (eqb-true x.from.switch i.0 f) in
      let b = near.below in
      one-distance w to (suc n) (suc near.k) st.from.switch far
      (subst (λ z. IsDistance w to (suc near.k) z) (sym same) near.start) (λ same. absurd (omega arith))

  weaker : (n : ℕ) (st : Step) → Falls w to n st → Falls w to (suc n) st
  weaker n st f = let b = f.below in record { k = f.k; below = omega arith; start = f.start; goal = f.goal }

  journey : (n v : ℕ) → v < length s.switches → IsDistance w to n v → Journey n v
  journey zero v there d = record {
    way = d.path;
    steps = [];
    count = refl;
    falls = tt;
    cables = tt;
    switches = tt;
    by_cable = tt;
    by_switch = tt;
  }
  journey (suc n) v there d =
      let h = hops.hops n v d in
      let e = nearer n v h.peer h.port h.cable d h.path in
      let rest = journey n h.peer.switch (good.ends (record { switch = v; port = h.port }) h.peer h.cable) e in
      let st : Step = record { from = record { switch = v; port = h.port }; peer = h.peer } in
      record {
        way =
            inr (record {
              port = h.port;
              peer = h.peer;
              hop = h.hop;
              number = h.number;
              cable = h.cable;
              onward = onward n v h.peer h.port h.cable d e;
              rest = rest.way;
            });
        steps = st ∷ rest.steps;
        count = ap suc rest.count;
        falls = (
          record { k = n; below = omega arith; start = d; goal = e },
          all-map (Falls w to n) (Falls w to (suc n)) rest.steps (λ x f. weaker n x f) rest.falls,
        );
        cables = (joined w.cables (record { switch = v; port = h.port }) h.peer h.cable, rest.cables);
        switches = (there-from v 0 s.switches (omega arith) (omega arith), rest.switches);
        by_cable = (
          all-map (Falls w to n) (Away joins st) rest.steps (λ x f. steps-apart w to n st d x f) rest.falls,
          rest.by_cable,
        );
        by_switch = (
          all-map (Falls w to n) (Away stands st) rest.steps (λ x f. number-apart n st x d f) rest.falls,
          rest.by_switch,
        );
      }

  way : (n v : ℕ) → v < length s.switches → IsDistance w to n v → HasWay s v to
  way n v there d =
      let j = journey n v there d in
      let a : length j.steps ≤ length w.cables = no-more joins w.cables j.steps j.cables j.by_cable in
      let b : length j.steps ≤ length (enumerate_from 0 s.switches) =
      no-more stands (enumerate_from 0 s.switches) j.steps j.switches j.by_switch in
      let c = j.count in
      let e : length (enumerate_from 0 s.switches) ≡ length s.switches = numbered 0 s.switches in
      record { steps = n; way = j.way; cables = omega arith; switches = omega arith }

pub shortest-hops-are-ways : ShortestHopsAreWays
shortest-hops-are-ways s good to hops n from there d = way s good to hops n from there d
