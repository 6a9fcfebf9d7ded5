-- The ports of each virtual switch, and virtual switches that are alone on their switch.
use Rattle.std.proofs.Common.{◌≡◌, ◌∙◌, sym, ap, subst, ℕ, suc, ◌+◌, ◌==◌, ◌&&◌, ◌||◌, not, Bool, true, false, cond}
use Rattle.std.proofs.Common.{List, [], ◌∷◌, ◌++◌, Option, Some, None, map, inl, inr, arith, refl}
use Rattle.std.specs.Prelude.{slice_get, flat_map, filter_map, filter, find, is_some, is_none, if◌then◌else◌}
use Rattle.std.specs.List.{AllByRecursion, cons_option, enumerate_from, list_any}
use Rattle.std.specs.Option.{option_map, option_map_or, option_and_then}
use Rattle.std.proofs.lemmas.Bool.{eqb-true, eq-eqb}
use Rattle.agreement.proofs.Cables.{found-there}
use Rattle.policy_expr.specs.Policy.{Policy}
use Rattle.policy_meaning.proofs.Booleans.{split_and, join_and, fails, some_injective, not_false, split_or, or_right}
use Rattle.policy_meaning.specs.LeafFact.{EachPair}
use Rattle.policy_meaning.specs.Switches.{SwitchOf}
use Rattle.policy_meaning.specs.declared.leaf.LeafTable.{LeafTable}
use Rattle.switch_meaning.specs.Wirings.{far_end, outside_at}
use Rattle.switch_meaning.specs.declared.wiring.Outside.{Outside}
use Rattle.virtual_topology.specs.declared.plan.TopologyPlan.{TopologyPlan}
use Rattle.virtual_topology.specs.declared.plan.VirtualItem.{VirtualItem}
use Rattle.virtual_topology.specs.declared.plan.VirtualPort.{VirtualPort}
use Rattle.virtual_topology.specs.Rows.{Spot, rows}
use Rattle.virtual_topology.specs.Wires.{Joint, both_ways, item_joints, outside_joints, cable_joints, peer_of}
use Rattle.virtual_topology.specs.Wires.{lie_apart, is_spread_of, is_link, touches, is_shared, is_lone_with, is_lone_of}
use Rattle.policy_setting.specs.Networks.{is_of, outside_ports, link, virtual_switch}
use Rattle.policy_setting.specs.Premises.{HaveNumbers, HasSoundPorts, LiesAlone}
use Rattle.policy_setting.specs.Settings.{expr_at, holds_at, switches, setting}
use Rattle.policy_setting.specs.Wirings.{switch_port, outside, wiring}
use Rattle.policy_setting.proofs.Parts.{all_weaker, all_of_two, mapped_all, mapped_pairs, pairs_weaker}
use Rattle.policy_setting.proofs.Spots.{has_link}
use Rattle.policy_setting.proofs.Apart.{Faultless, joint_ends}
use Rattle.policy_setting.proofs.Joints.{Differ, virtual_once}
use Rattle.policy_setting.proofs.Linked.{way_is}
use Rattle.policy_setting.proofs.Placing.{found_is, none_ends}
use Rattle.policy_setting.proofs.Mixed.{OnOne, together_on, OwnOn, item_all, own_switch, no_links, spread_unlinked}
use Rattle.policy_setting.proofs.Mixed.{switch_is}

-- items that pass
all_passing_next : {A : Type 0} (t : A → Bool) (x : A) (xs : List A) (b : Bool) → t x ≡ b
    → AllByRecursion (λ x. t x ≡ true) (filter t xs)
    → AllByRecursion (λ x. t x ≡ true) (cond b (x ∷ filter t xs) (filter t xs))
all_passing_next t x xs true e h = (e, h)
all_passing_next t x xs false e h = h

all_passing : {A : Type 0} (t : A → Bool) (xs : List A) → AllByRecursion (λ x. t x ≡ true) (filter t xs)
all_passing t [] = tt
all_passing t (x ∷ xs) = all_passing_next t x xs (t x) refl (all_passing t xs)

filtered_next : {A : Type 0} (P : A → Type 0) (x : A) (xs : List A) (b : Bool) → P x → AllByRecursion P xs
    → AllByRecursion P (cond b (x ∷ xs) xs)
filtered_next P x xs true p h = (p, h)
filtered_next P x xs false p h = h

all_filter : {A : Type 0} (P : A → Type 0) (t : A → Bool) (xs : List A) → AllByRecursion P xs
    → AllByRecursion P (filter t xs)
all_filter P t [] h = tt
all_filter P t (x ∷ xs) h = filtered_next P x (filter t xs) (t x) h.0 (all_filter P t xs h.1)

pairs_next : {A : Type 0} (R : A → A → Type 0) (x : A) (xs : List A) (b : Bool) → AllByRecursion (R x) xs
    → EachPair R xs → EachPair R (cond b (x ∷ xs) xs)
pairs_next R x xs true p h = (p, h)
pairs_next R x xs false p h = h

pairs_filter : {A : Type 0} (R : A → A → Type 0) (t : A → Bool) (xs : List A) → EachPair R xs → EachPair R (filter t xs)
pairs_filter R t [] h = tt
pairs_filter R t (x ∷ xs) h = pairs_next R x (filter t xs) (t x) (all_filter (R x) t xs h.0) (pairs_filter R t xs h.1)

-- no outside port of a virtual switch is named twice
same_pair : (s t : Spot) → s.0 ≡ t.0 → s.1 ≡ t.1 → s ≡ t
same_pair s t a b = λ i. (a i, b i)

distinct : (plan : TopologyPlan) → Faultless plan → (v : ℕ) → EachPair (λ p q. (q == p) ≡ false) (outside_ports plan v)
distinct plan f v = mapped_pairs (λ (j : Joint). j.0.1) (λ p q. (q == p) ≡ false)
    (filter (is_of v) (outside_joints plan))
    (pairs_weaker (λ (j : Joint). is_of v j ≡ true) (λ (j k : Joint). Differ j.0 k.0)
    (λ (j k : Joint). (k.0.1 == j.0.1) ≡ false)
    (λ j k a b d. fails (k.0.1 == j.0.1)
    (λ e. d (same_pair j.0 k.0 (eqb-true j.0.0 v a ∙ sym (eqb-true k.0.0 v b)) (sym (eqb-true k.0.1 j.0.1 e)))))
    (filter (is_of v) (outside_joints plan)) (all_passing (is_of v) (outside_joints plan))
    (pairs_filter (λ (j k : Joint). Differ j.0 k.0) (is_of v) (outside_joints plan) (virtual_once plan f)))

-- what a virtual switch is that is alone on a switch
record IsLone (plan : TopologyPlan) (v : ℕ) (x : VirtualItem) (js : List Joint) : Type 0 where
  switch : ℕ
  together : lie_apart js ≡ false
  own : AllByRecursion (λ (j : Joint). j.1.0 ≡ switch) js
  plain : list_any is_link x.ports ≡ false
  bare : list_any (touches switch) (both_ways (cable_joints plan)) ≡ false
  alone : list_any (is_shared v switch) (outside_joints plan) ≡ false

not_is : (b : Bool) → not b ≡ true → b ≡ false
not_is true e = absurd (cc)
not_is false e = refl

off_none : (s : ℕ) (js : List Joint) → list_any (λ (k : Joint). not (k.1.0 == s)) js ≡ false
    → AllByRecursion (λ (j : Joint). j.1.0 ≡ s) js
off_none s [] e = tt
off_none s (j ∷ js) e = let h = split_or (not (j.1.0 == s)) (list_any (λ (k : Joint). not (k.1.0 == s)) js) e in
    (eqb-true j.1.0 s (not_false (j.1.0 == s) h.0), off_none s js h.1)

lone_with : (plan : TopologyPlan) (v : ℕ) (x : VirtualItem) (js : List Joint)
    → is_lone_with (cable_joints plan) (outside_joints plan) v x js ≡ true → IsLone plan v x js
lone_with plan v x [] e = absurd (cc)
lone_with plan v x (j ∷ js) e =
    let a = split_and (not (lie_apart (j ∷ js))) _ e in
    let b = split_and (not (list_any is_link x.ports)) _ a.1 in
    let c = split_and (not (list_any (touches j.1.0) (both_ways (cable_joints plan)))) _ b.1 in
    let apart = not_is (lie_apart (j ∷ js)) a.0 in
    record {
      switch = j.1.0;
      together = apart;
      own = off_none j.1.0 (j ∷ js) apart;
      plain = not_is (list_any is_link x.ports) b.0;
      bare = not_is (list_any (touches j.1.0) (both_ways (cable_joints plan))) c.0;
      alone = not_is (list_any (is_shared v j.1.0) (outside_joints plan)) c.1;
    }

lone_is : (plan : TopologyPlan) (v : ℕ) (x : VirtualItem) → slice_get plan.virtuals v ≡ Some x
    → is_lone_of plan v ≡ true → IsLone plan v x (item_joints (rows plan) (v, x))
lone_is plan v x t e = lone_with plan v x (item_joints (rows plan) (v, x))
    (sym (ap (λ (o : Option VirtualItem). option_map_or
    (λ x. is_lone_with (cable_joints plan) (outside_joints plan) v x (item_joints (rows plan) (v, x))) o false) t) ∙ e)

-- it has no links
plain_next : (n : ℕ) (q : VirtualPort) (b : Bool) → is_none q.at ≡ b → b ≡ false → (b && (q.port == n)) ≡ false
plain_next n q true t e = absurd (cc)
plain_next n q false t e = refl

plain_ports : (n : ℕ) (qs : List VirtualPort) → list_any is_link qs ≡ false → list_any (has_link n) qs ≡ false
plain_ports n [] e = refl
plain_ports n (q ∷ qs) e = let h = split_or (is_none q.at) (list_any is_link qs) e in
    rw (plain_next n q (is_none q.at) refl h.0) (plain_ports n qs h.1)

lone_unlinked : (plan : TopologyPlan) → HaveNumbers plan.switches → (v : ℕ) (x : VirtualItem)
    → slice_get plan.virtuals v ≡ Some x → list_any is_link x.ports ≡ false → (p : ℕ) (s : Spot)
    → peer_of plan v p ≡ Some s → ⊥
lone_unlinked plan h v x t e p s k =
    let w = way_is plan h v p s k in
    let same : w.from.item ≡ x = some_injective (sym w.from.there ∙ t) in
    let listed : list_any (has_link p) x.ports ≡ true =
    subst (λ (y : VirtualItem). list_any (has_link p) y.ports ≡ true) same w.from.listed in
    let none = plain_ports p x.ports e in
    cc

-- no cable touches its switch
untouched : (s : ℕ) (js : List Joint) → list_any (touches s) (both_ways js) ≡ false
    → AllByRecursion (λ (t : Spot). t.0 ≡ s → ⊥) (joint_ends js)
untouched s [] e = tt
untouched s (j ∷ js) e =
    let a = split_or (j.0.0 == s) _ e in
    let b = split_or (j.1.0 == s) (list_any (touches s) (both_ways js)) a.1 in
    ((λ k. let t = eq-eqb j.0.0 s k in cc), ((λ k. let t = eq-eqb j.1.0 s k in cc), untouched s js b.1))

bare : (plan : TopologyPlan) (s q : ℕ) → list_any (touches s) (both_ways (cable_joints plan)) ≡ false
    → far_end (wiring plan) (record { switch = s; port = q }) ≡ None
bare plan s q e = none_ends (cable_joints plan) (s, q)
    (all_weaker (λ (t : Spot). t.0 ≡ s → ⊥) (λ (t : Spot). Differ t (s, q)) (λ t f k. f (ap (λ (z : Spot). z.0) k))
    (joint_ends (cable_joints plan)) (untouched s (cable_joints plan) e))

own_of : {P : Type 0} (a b : Bool) → a ≡ true → a && not b ≡ false → (b ≡ true → P) → P
own_of true true t e f = f refl
own_of true false t e f = absurd (cc)
own_of false b t e f = absurd (cc)

-- no other virtual switch has a port there
unshared : (v s : ℕ) (js : List Joint) → list_any (is_shared v s) js ≡ false
    → AllByRecursion (λ (j : Joint). j.1.0 ≡ s → j.0.0 ≡ v) js
unshared v s [] e = tt
unshared v s (j ∷ js) e =
    let h = split_or (is_shared v s j) (list_any (is_shared v s) js) e in
    ((λ k. own_of (j.1.0 == s) (j.0.0 == v) (eq-eqb j.1.0 s k) h.0 (eqb-true j.0.0 v)), unshared v s js h.1)

lies_alone : (plan : TopologyPlan) → HaveNumbers plan.switches
    → (exprs : List Policy) (seen : List Bool) (tables : List LeafTable) (up : List Bool) (hops : ℕ) (v : ℕ)
    (y : VirtualItem) → slice_get plan.virtuals v ≡ Some y → is_lone_of plan v ≡ true
    → LiesAlone (setting plan exprs seen tables up hops) v
    (virtual_switch plan (expr_at exprs v) (holds_at seen v) (v, y))
lies_alone plan h exprs seen tables up hops v y t e =
    let l = lone_is plan v y t e in
    let on : OwnOn plan v =
    record { switch = l.switch; all = item_all plan (λ (j : Joint). j.1.0 ≡ l.switch) v y t l.own } in
    record {
      links = no_links plan v y.ports (lone_unlinked plan h v y t l.plain);
      lone = ap (λ (o : Option VirtualItem). option_map_or (λ x. lie_apart (item_joints (rows plan) (v, x))) o false) t
          ∙ l.together;
      bare = λ p q a k. ap (λ (s : ℕ). far_end (wiring plan) (record { switch = s; port = q }))
          (own_switch plan v p a on k) ∙ bare plan l.switch q l.bare;
      alone = λ u p q a b k m s.
          let there = found_is (λ (o : Outside). o.at.switch ≡ l.switch
          → o.v ≡ v) (wiring plan).outside u q b
          (mapped_all (outside plan) (λ (o : Outside). o.at.switch ≡ l.switch
          → o.v ≡ v) (outside_joints plan) (unshared v l.switch (outside_joints plan) l.alone)) m in
          sym (found-there u q (wiring plan).outside b m).0.0 ∙ there (sym s ∙ own_switch plan v p a on k);
    }

pub sound_ports : (plan : TopologyPlan) → HaveNumbers plan.switches → Faultless plan
    → (exprs : List Policy) (seen : List Bool) (tables : List LeafTable) (up : List Bool) (hops : ℕ) (v : ℕ)
    (x : SwitchOf) → slice_get (switches plan exprs seen) v ≡ Some x
    → HasSoundPorts (setting plan exprs seen tables up hops) v x
sound_ports plan h f exprs seen tables up hops v x e =
    let s = switch_is plan exprs seen v x e in
    subst (HasSoundPorts (setting plan exprs seen tables up hops) v) s.is (record {
      distinct = distinct plan f v;
      unlinked = λ k. no_links plan v s.item.ports (spread_unlinked plan h f v k);
      whole = λ k. lies_alone plan h exprs seen tables up hops v s.item s.there
          (split_and (is_lone_of plan v) (holds_at seen v) k).0;
    })
