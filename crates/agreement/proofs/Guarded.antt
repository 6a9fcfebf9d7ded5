-- The best entry for a packet with a tag that comes to a spread virtual switch is a guard, and for one that is carried
-- between switches a transit entry.
use Rattle.std.proofs.Common.{◌≡◌, ℕ, Bool, true, false, ◌&&◌, List, [], ◌∷◌, Option, Some, None, refl, ap, ◌∙◌, sym}
use Rattle.std.proofs.Common.{subst, eq-eqb, eqb-true}
use Rattle.std.specs.Prelude.{◌==◌, ◌<◌, IfSome, filter, flat_map, if◌then◌else◌, is_some, map, option_to_list}
use Rattle.std.specs.Prelude.{slice_get}
use Rattle.std.specs.List.{AllByRecursion, enumerate_from, list_any}
use Rattle.of10_match.specs.Fields.{HeaderOf}
use Rattle.of10_match.specs.Matching.{fits, holds}
use Rattle.policy_meaning.specs.Networks.{switch_spread}
use Rattle.policy_meaning.specs.Walk.{takes}
use Rattle.policy_meaning.specs.declared.network.VirtualSwitch.{VirtualSwitch}
use Rattle.policy_meaning.proofs.Booleans.{fails, split_and}
use Rattle.policy_meaning.proofs.Lists.{all-map}
use Rattle.switch_meaning.specs.BestLaw.{IsBest, IsBestEntry}
use Rattle.switch_meaning.specs.Fixed.{drops, ends_at, guard, guards, is_guarded, passes, transit, transits}
use Rattle.switch_meaning.specs.Fixed.{transits_to}
use Rattle.switch_meaning.specs.Wirings.{far_end, outside_at, same_spot}
use Rattle.switch_meaning.specs.declared.entry.PhysEntry.{PhysEntry}
use Rattle.switch_meaning.specs.declared.wiring.Outside.{Outside}
use Rattle.switch_meaning.specs.declared.wiring.SwitchPort.{SwitchPort}
use Rattle.agreement.specs.declared.state.Setting.{Setting}
use Rattle.agreement.specs.Entries.{dropping, entries_of, is_whole, ports_at, stands_on}
use Rattle.agreement.specs.Premises.{IsSoundSetting, cable_ends}
use Rattle.agreement.proofs.Alone.{Alone, Lower, all-numbered, alone-map, alone-zip, best-above, best-after, best-alone}
use Rattle.agreement.proofs.Alone.{best-flat_map}
use Rattle.agreement.proofs.Cables.{IsFound, all-found, alone-by, alone-filter, alone-found, ends-as, found-there}
use Rattle.agreement.proofs.Cables.{is_end, is_port, no-end, spot-is}
use Rattle.agreement.proofs.Finding.{find-gives}
use Rattle.agreement.proofs.Fixed.{IsEndHere, all-ends-here, all-guards, all-passing, transits-to}
use Rattle.agreement.proofs.RuleEntries.{Stands, by, stands-where}
use Rattle.agreement.proofs.SwitchEntries.{all-silent, drops-silent, is_at, k, ruled, tagged-ruled, transits-silent}
use Rattle.agreement.proofs.Turned.{fits-other, rest}

any-none : {A : Type 0} (p : A → Bool) (xs : List A) → AllByRecursion (λ x. p x ≡ false) xs → list_any p xs ≡ false
any-none p [] a = refl
any-none p (x ∷ xs) a = rw (a.0) (any-none p xs a.1)

and_false : (a b : Bool) → b ≡ false → (a && b) ≡ false
and_false true b e = e
and_false false b e = refl

quiet : (passes : PhysEntry → Bool) (c : PhysEntry) (ys : List PhysEntry) → AllByRecursion (λ d. passes d ≡ false) ys
    → Lower passes by c ys
quiet passes c ys a = all-map (λ d. passes d ≡ false) (λ d. passes d ≡ true → by d < by c) ys (λ d f t. cc) a

module _ (s : Setting) (good : IsSoundSetting s) where
  -- a port of a spread virtual switch has a tag
  pub has-tag : (v p : ℕ) (o : Outside) → outside_at s.wiring v p ≡ Some o
      → switch_spread (slice_get s.network.switches v) ≡ true → is_some o.tag ≡ true
  has-tag v p o at e =
      let f = find-gives (λ (o : Outside). is_some o.tag ≡ switch_spread (slice_get s.network.switches o.v))
      (λ (o : Outside). (o.v == v) && (o.port == p)) s.wiring.outside o good.placing.tags at in
      let n = found-there v p s.wiring.outside o at in
      f.0 ∙ (ap (λ z. switch_spread (slice_get s.network.switches z)) n.0.0 ∙ e)

  -- each other outside port, under its own numbers
  others : (v p : ℕ) (o : Outside) → outside_at s.wiring v p ≡ Some o
      → Alone (λ q. (is_port q o ≡ false) × IsFound s.wiring.outside q) s.wiring.outside o
  others v p o at = alone-zip (λ q. is_port q o ≡ false) (IsFound s.wiring.outside)
      (alone-found v p s.wiring.outside o good.placing.once at) (all-found s.wiring.outside good.placing.once)

  -- two outside ports under one number are one
  one-port : (v p : ℕ) (o q : Outside) → outside_at s.wiring v p ≡ Some o → (q.v ≡ v) × (q.port ≡ p)
      → is_port q o ≡ false → ⊥
  one-port v p o q at n f =
      let g = (found-there v p s.wiring.outside o at).0 in
      let t : is_port q o ≡ true = rw (eq-eqb q.v o.v (n.0 ∙ sym g.0), eq-eqb q.port o.port (n.1 ∙ sym g.1)) refl in cc

  module _ (v : ℕ) (x : VirtualSwitch) (e : is_at s good v x) (h : HeaderOf) (o : Outside)
      (at : outside_at s.wiring v h.in_port ≡ Some o) (tagged : takes x.spread h ≡ false) where
    abbrev holds_it : PhysEntry → Bool
    holds_it d = holds d.m (k s good v x e h o at)

    spread-by : (b : Bool) → takes b h ≡ false → b ≡ true
    spread-by true t = refl
    spread-by false t = cc

    guarded : is_guarded o.at.switch o ≡ true
    guarded =
        rw (
          eq-eqb o.at.switch o.at.switch refl,
          has-tag v h.in_port o at
              (ap (λ z. switch_spread z) e ∙ spread-by x.spread tagged),
        ) refl

    other-guard : (q : Outside) → ((is_port q o ≡ false) × IsFound s.wiring.outside q)
        × (is_guarded o.at.switch q ≡ true) → holds_it (guard q) ≡ false
    other-guard q g =
        ap (λ (b : Bool). b && rest (guard q).m (k s good v x e h o at))
        (fits-other (Some q.at.port) q.at.port o.at.port refl (λ same.
        let switch : q.at.switch ≡ o.at.switch =
        eqb-true q.at.switch o.at.switch (split_and (q.at.switch == o.at.switch) (is_some q.tag) g.1).0 in
        let n = good.placing.wiring.apart v h.in_port q.v q.port o q at g.0.1 (sym switch) same in
        one-port v h.in_port o q at (sym n.0, sym n.1) g.0.0))

    best-guard : IsBest holds_it by (guards s.wiring o.at.switch) (guard o)
    best-guard =
        best-alone holds_it by (rw (eq-eqb o.at.port o.at.port refl) refl)
        (alone-map (λ q. ((is_port q o ≡ false) × IsFound s.wiring.outside q) × (is_guarded o.at.switch q ≡ true))
        (λ d. holds_it d ≡ false) guard other-guard
        (alone-zip (λ q. (is_port q o ≡ false) × IsFound s.wiring.outside q) (λ q. is_guarded o.at.switch q ≡ true)
        (alone-filter (λ q. (is_port q o ≡ false) × IsFound s.wiring.outside q) (is_guarded o.at.switch) guarded
        (others v h.in_port o at)) (all-passing (is_guarded o.at.switch) s.wiring.outside)))

    pub guard-is-best : IsBestEntry (k s good v x e h o at) (entries_of s o.at.switch) (guard o)
    guard-is-best =
        best-after holds_it by (ruled s good o.at.switch) (tagged-ruled s good v x e h o at tagged)
        (best-above holds_it by (dropping s o.at.switch)
        (best-above holds_it by (transits s.wiring o.at.switch) best-guard
        (quiet holds_it (guard o) (transits s.wiring o.at.switch) (transits-silent s good v x e h o at)))
        (quiet holds_it (guard o) (dropping s o.at.switch) (drops-silent s good v x e h o at)))

  -- a packet that is carried to a port: it comes by an end of a cable, with the tag of the port
  module _ (v p t : ℕ) (goal : Outside) (at : outside_at s.wiring v p ≡ Some goal) (tag : goal.tag ≡ Some t)
      (spot : SwitchPort) (is : is_end s.wiring.cables spot ≡ true) (passing : passes s.wiring spot goal ≡ true)
      (hd : HeaderOf) (comes : hd.in_port ≡ spot.port) (carries : hd.dl_vlan ≡ t) where
    abbrev carries_it : PhysEntry → Bool
    carries_it d = holds d.m hd

    -- a spot without a far end is another
    not-here : (q : SwitchPort) → far_end s.wiring q ≡ None → q.switch ≡ spot.switch → q.port ≡ spot.port → ⊥
    not-here q none a b =
        let same : q ≡ spot = λ i. record { switch = a i; port = b i } in
        let f : is_end s.wiring.cables spot ≡ false = ap (λ (z : SwitchPort). is_end s.wiring.cables z) (sym same)
        ∙ no-end s.wiring.cables q none in cc

    ends-open : (u q : ℕ) (b : Outside) → outside_at s.wiring u q ≡ Some b → far_end s.wiring b.at ≡ None
    ends-open u q b f = let g : IfSome (Some b) (λ o. far_end s.wiring o.at ≡ None) =
        rw f at (good.placing.open_ends u q) in g

    no-whole : (u : ℕ) (y : VirtualSwitch) → is_at s good u y → y.whole ≡ true → Stands s.wiring spot.switch u y.outside
        → ⊥
    no-whole u y f w l =
        let none = ((good.virtuals u y f).whole w).bare l.port spot.port l.lies.o l.lies.at in
        not-here (record { switch = l.lies.o.at.switch; port = spot.port }) none l.lies.here refl

    rules-silent : AllByRecursion (λ d. carries_it d ≡ false) (ruled s good spot.switch)
    rules-silent = all-silent s good spot.switch hd
        (λ u q b f same e. not-here b.at (ends-open u q b f) same (sym e ∙ comes)) no-whole

    guards-silent : AllByRecursion (λ d. carries_it d ≡ false) (guards s.wiring spot.switch)
    guards-silent =
        all-guards s good (λ d. carries_it d ≡ false) spot.switch (λ o f same.
        ap (λ (b : Bool). b && rest (guard o).m hd)
        (fits-other (Some o.at.port) o.at.port hd.in_port refl
        (λ e. not-here o.at (ends-open o.v o.port o f) same (sym e ∙ comes))))

    other-transit : (o : Outside) (u : ℕ) (q : SwitchPort) → is_port o goal ≡ false
        → outside_at s.wiring o.v o.port ≡ Some o → o.tag ≡ Some u → carries_it (transit s.wiring q o u) ≡ false
    other-transit o u q n f g =
        let vlan : fits (Some u) hd.dl_vlan ≡ false = fits-other (Some u) u hd.dl_vlan refl (λ e.
        let m = good.placing.own_tags v p o.v o.port t goal o at f tag (g ∙ ap Some (sym e ∙ carries)) in
        one-port v p goal o at (sym m.0, sym m.1) n) in
        rw vlan (and_false (fits (Some q.port) hd.in_port) false refl)

    other-end : (q : SwitchPort) → (same_spot q spot ≡ false) × IsEndHere s spot.switch q
        → carries_it (transit s.wiring q goal t) ≡ false
    other-end q g =
        let port : fits (Some q.port) hd.in_port ≡ false = fits-other (Some q.port) q.port hd.in_port refl (λ e.
        let u : same_spot q spot ≡ true =
        rw (eq-eqb q.switch spot.switch g.1.1, eq-eqb q.port spot.port (sym e ∙ comes)) refl in cc) in
        ap (λ (b : Bool). b && rest (transit s.wiring q goal t).m hd) port

    abbrev made : SwitchPort → PhysEntry
    made q = transit s.wiring q goal t

    own-passes : carries_it (made spot) ≡ true
    own-passes = rw (comes, carries, eq-eqb spot.port spot.port refl, eq-eqb t t refl) refl

    best-end : IsBest carries_it by
        (map made (filter (λ (q : SwitchPort). passes s.wiring q goal) (ends_at spot.switch s.wiring.cables)))
        (made spot)
    best-end =
        best-alone carries_it by own-passes
        (alone-map (λ q. (same_spot q spot ≡ false) × IsEndHere s spot.switch q) (λ d. carries_it d ≡ false) made
        other-end
        (alone-filter (λ q. (same_spot q spot ≡ false) × IsEndHere s spot.switch q)
        (λ (q : SwitchPort). passes s.wiring q goal) passing
        (alone-zip (λ q. same_spot q spot ≡ false) (IsEndHere s spot.switch)
        (subst (λ (xs : List SwitchPort). Alone (λ q. same_spot q spot ≡ false) xs spot)
        (sym (ends-as spot.switch s.wiring.cables))
        (alone-filter (λ q. same_spot q spot ≡ false) (λ (q : SwitchPort). q.switch == spot.switch)
        (eq-eqb spot.switch spot.switch refl)
        (alone-by same_spot spot-is (cable_ends s.wiring.cables) spot good.placing.one_cable is)))
        (all-ends-here s spot.switch))))

    best-goal : IsBest carries_it by (transits_to s.wiring spot.switch goal) (made spot)
    best-goal =
        subst (λ (o : Option ℕ). IsBest carries_it by
        (flat_map (λ (tag : ℕ). map (λ (q : SwitchPort). transit s.wiring q goal tag)
        (filter (λ (q : SwitchPort). passes s.wiring q goal) (ends_at spot.switch s.wiring.cables)))
        (option_to_list o)) (made spot)) (sym tag)
        (best-above carries_it by [] best-end tt)

    best-transits : IsBest carries_it by (transits s.wiring spot.switch) (made spot)
    best-transits =
        best-flat_map carries_it by (λ q. (is_port q goal ≡ false) × IsFound s.wiring.outside q)
        (transits_to s.wiring spot.switch)
        (λ o g. transits-to s good (λ d. carries_it d ≡ false) spot.switch o (λ u q m _. other-transit o u q g.0 g.1 m))
        best-goal (others v p goal at)

    no-drops : is_whole s spot.switch ≡ false
    no-drops =
        any-none (λ (y : ℕ × VirtualSwitch). y.1.whole && stands_on s.wiring spot.switch y.0 y.1.outside)
        (enumerate_from 0 s.network.switches)
        (all-map (λ (i : ℕ × VirtualSwitch). is_at s good i.0 i.1)
        (λ (i : ℕ × VirtualSwitch). (i.1.whole && stands_on s.wiring spot.switch i.0 i.1.outside) ≡ false)
        (enumerate_from 0 s.network.switches)
        (λ i f. fails (i.1.whole && stands_on s.wiring spot.switch i.0 i.1.outside) (λ u.
        let w = split_and i.1.whole (stands_on s.wiring spot.switch i.0 i.1.outside) u in
        no-whole i.0 i.1 f w.0 (stands-where s.wiring spot.switch i.0 i.1.outside w.1)))
        (all-numbered s.network.switches))

    pub transit-is-best : IsBestEntry hd (entries_of s spot.switch) (made spot)
    transit-is-best =
        best-after carries_it by (ruled s good spot.switch) rules-silent
        (best-above carries_it by (dropping s spot.switch)
        (best-after carries_it by (guards s.wiring spot.switch) guards-silent best-transits)
        (subst (λ (b : Bool). Lower carries_it by (made spot)
        (if b then drops s.wiring spot.switch (ports_at s spot.switch) else [])) (sym no-drops) tt))
