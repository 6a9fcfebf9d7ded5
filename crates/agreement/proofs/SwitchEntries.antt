-- Of the entries of a switch the best for a packet is that of the best rule.
use Rattle.std.proofs.Common.{◌≡◌, ◌≢◌, ℕ, ◌+◌, ◌<◌, ◌^◌, Bool, true, false, ◌&&◌, List, [], ◌∷◌, Option, Some, None}
use Rattle.std.proofs.Common.{refl, ap, ◌∙◌, sym, subst, arith, eq-eqb, eqb-true, lit<}
use Rattle.std.specs.Prelude.{◌==◌, filter_map, flat_map, if◌then◌else◌, IfSome, is_some, map, option_map, slice_get}
use Rattle.std.specs.List.{AllByRecursion, enumerate_from, list_any}
use Rattle.std.specs.Option.{option_and_then}
use Rattle.of10_match.specs.Fields.{HeaderOf, MatchOf}
use Rattle.of10_match.specs.Matching.{fits, holds}
use Rattle.policy_meaning.specs.Best as rules
use Rattle.policy_meaning.specs.Hops.{hop_size, node}
use Rattle.policy_meaning.specs.Leaf.{has_port}
use Rattle.policy_meaning.specs.Networks.{entering, fabric_of, switch_rules, switch_spread}
use Rattle.policy_meaning.specs.Walk.{takes}
use Rattle.policy_meaning.specs.declared.network.VirtualSwitch.{VirtualSwitch}
use Rattle.policy_meaning.specs.declared.fabric.Entering.{Entering}
use Rattle.policy_meaning.specs.declared.rule.Rule.{Rule}
use Rattle.policy_meaning.proofs.Booleans.{fails, or_right, some_injective}
use Rattle.policy_meaning.proofs.Lists.{all-append, all-filter_map, all-flat_map, all-map, all-mapped}
use Rattle.switch_meaning.specs.BestLaw.{IsBest, IsBestEntry}
use Rattle.switch_meaning.specs.Fixed.{drop_entry, transit, transits}
use Rattle.switch_meaning.specs.Placing.{entry_of, ingress_of}
use Rattle.switch_meaning.specs.Wirings.{far_end, outside_at}
use Rattle.switch_meaning.specs.declared.entry.PhysEntry.{PhysEntry}
use Rattle.switch_meaning.specs.declared.entry.Site.{Site}
use Rattle.switch_meaning.specs.declared.wiring.Outside.{Outside}
use Rattle.switch_meaning.specs.declared.wiring.SwitchPort.{SwitchPort}
use Rattle.agreement.specs.declared.state.Setting.{Setting}
use Rattle.agreement.specs.Entries.{dropping, entries_for, entries_of, flat, lies_on, placed, site_at, stands_on}
use Rattle.agreement.specs.Premises.{IsSoundSetting, outside_ports}
use Rattle.agreement.specs.Reach.{at_once}
use Rattle.agreement.specs.Seeing.{comes_by}
use Rattle.agreement.proofs.Alone.{Lower, Silent, all-numbered, all-ports, alone-map, alone-numbered, alone-port}
use Rattle.agreement.proofs.Alone.{alone-zip, best-above, best-flat_map}
use Rattle.agreement.proofs.Cables.{is_end, no-end}
use Rattle.agreement.proofs.Fixed.{all-dropping, all-fixed, all-guards, all-transits, fixed_at, is_spot, not-dropped}
use Rattle.agreement.proofs.Levels.{all-below, all-name, left-holds, left-port, left_of, whole-below}
use Rattle.agreement.proofs.NodeRules.{Names}
use Rattle.agreement.proofs.RuleEntries.{Best, Lies, Stands, best-entry, best-there, by, left-all, left-takes}
use Rattle.agreement.proofs.RuleEntries.{lies-where, never-taken, none-holds, stands-where, written}
use Rattle.agreement.proofs.Turned.{by_port, fits-named, fits-other, holds-apart, holds-turned, rest}
use Rattle.agreement.proofs.WholeRules.{RuleKeeps, switch-keeps}

module _ (s : Setting) (good : IsSoundSetting s) where
  abbrev pub is_at : ℕ → VirtualSwitch → Type 0
  is_at v x = slice_get s.network.switches v ≡ Some x

  -- the rules of a port, and of all ports of a whole virtual switch
  abbrev pub at_node : ℕ → ℕ → Entering
  at_node v q = record { port = Some q; rules = node (fabric_of s.network) s.hops v q }

  abbrev pub at_all : VirtualSwitch → Entering
  at_all x = record { port = None; rules = switch_rules s.network.tables (Some x) }

  -- the entries of these
  abbrev pub entries : ℕ → ℕ → VirtualSwitch → Entering → List PhysEntry
  entries switch v x en = filter_map (λ r. entry_of s.wiring (site_at switch v x) (flat r)) en.rules

  pub entering-part : (v : ℕ) (x : VirtualSwitch) → x.whole ≡ false
      → entering s.network s.hops v (Some x) ≡ map (at_node v) x.outside
  entering-part v x e = rw e refl

  pub entering-whole : (v : ℕ) (x : VirtualSwitch) → x.whole ≡ true
      → entering s.network s.hops v (Some x) ≡ at_all x ∷ []
  entering-whole v x e = rw e refl

  -- what is placed where its port lies, and what is not
  pub placed-by : (P : PhysEntry → Type 0) (b : Bool) (es : List PhysEntry) → (b ≡ true → AllByRecursion P es)
      → AllByRecursion P (if b then es else [])
  placed-by P true es f = f refl
  placed-by P false es f = tt

  part-all : (P : PhysEntry → Type 0) (switch v : ℕ) (x : VirtualSwitch) (q : ℕ) → x.whole ≡ false
      → (Lies s.wiring switch v q → AllByRecursion P (entries switch v x (at_node v q)))
      → AllByRecursion P (placed s.wiring (site_at switch v x) x.outside (at_node v q))
  part-all P switch v x q e f =
      placed-by P (lies_on s.wiring switch v q) (entries switch v x (at_node v q))
      (λ t. f (lies-where s.wiring switch v q t))

  -- what holds of the entries of each port
  for-part : (P : PhysEntry → Type 0) (switch v : ℕ) (x : VirtualSwitch) → x.whole ≡ false
      → ((q : ℕ) → has_port x.outside q ≡ true → Lies s.wiring switch v q
      → AllByRecursion P (entries switch v x (at_node v q))) → AllByRecursion P (entries_for s switch (v, x))
  for-part P switch v x e f =
      subst (λ (es : List Entering). AllByRecursion P (flat_map (placed s.wiring (site_at switch v x) x.outside) es))
      (sym (entering-part v x e))
      (all-flat_map (λ (en : Entering). AllByRecursion P (placed s.wiring (site_at switch v x) x.outside en)) P
      (placed s.wiring (site_at switch v x) x.outside) (map (at_node v) x.outside) (λ en a. a)
      (all-mapped (λ q. has_port x.outside q ≡ true)
      (λ (en : Entering). AllByRecursion P (placed s.wiring (site_at switch v x) x.outside en)) (at_node v)
      x.outside (λ q has. part-all P switch v x q e (f q has)) (all-ports x.outside)))

  for-whole : (P : PhysEntry → Type 0) (switch v : ℕ) (x : VirtualSwitch) → x.whole ≡ true
      → (Stands s.wiring switch v x.outside → AllByRecursion P (entries switch v x (at_all x)))
      → AllByRecursion P (entries_for s switch (v, x))
  for-whole P switch v x e f =
      subst (λ (es : List Entering). AllByRecursion P (flat_map (placed s.wiring (site_at switch v x) x.outside) es))
      (sym (entering-whole v x e))
      (all-append P (placed s.wiring (site_at switch v x) x.outside (at_all x)) []
      (placed-by P (stands_on s.wiring switch v x.outside) (entries switch v x (at_all x))
      (λ t. f (stands-where s.wiring switch v x.outside t))) tt)

  pub for-any : (P : PhysEntry → Type 0) (switch v : ℕ) (x : VirtualSwitch) (b : Bool) → x.whole ≡ b
      → ((q : ℕ) → has_port x.outside q ≡ true → Lies s.wiring switch v q
      → AllByRecursion P (entries switch v x (at_node v q)))
      → (x.whole ≡ true → Stands s.wiring switch v x.outside → AllByRecursion P (entries switch v x (at_all x)))
      → AllByRecursion P (entries_for s switch (v, x))
  for-any P switch v x true e part all = for-whole P switch v x e (all e)
  for-any P switch v x false e part all = for-part P switch v x e part

  -- the entries of rules
  abbrev pub ruled : ℕ → List PhysEntry
  ruled switch = flat_map (entries_for s switch) (enumerate_from 0 s.network.switches)

  pub all-ruled : (P : PhysEntry → Type 0) (switch : ℕ)
      → ((v : ℕ) (x : VirtualSwitch) → is_at v x → AllByRecursion P (entries_for s switch (v, x)))
      → AllByRecursion P (ruled switch)
  all-ruled P switch f = all-flat_map (λ (i : ℕ × VirtualSwitch). is_at i.0 i.1) P (entries_for s switch)
      (enumerate_from 0 s.network.switches) (λ i e. f i.0 i.1 e) (all-numbered s.network.switches)

  -- the rules of a whole virtual switch name its ports alone
  pub keeps : (v : ℕ) (x : VirtualSwitch) → is_at v x → x.whole ≡ true
      → AllByRecursion (RuleKeeps x.outside) (at_all x).rules
  keeps v x e t = switch-keeps x.outside s.network.tables x ((good.virtuals v x e).whole t).names

  -- all priorities fit
  abbrev Fits : PhysEntry → Type 0
  Fits d = d.priority < 2 ^ 16

  entries-fit : (switch v : ℕ) (x : VirtualSwitch) (en : Entering)
      → AllByRecursion (λ (r : Rule). (m : MatchOf) → left_of x.spread r.m ≡ Some m
      → r.level < hop_size (fabric_of s.network) s.hops v) en.rules → AllByRecursion Fits (entries switch v x en)
  entries-fit switch v x en low =
      all-filter_map (λ (r : Rule). (m : MatchOf) → left_of x.spread r.m ≡ Some m
      → r.level < hop_size (fabric_of s.network) s.hops v) Fits
      (λ r. entry_of s.wiring (site_at switch v x) (flat r)) en.rules
      (λ r d u f. let t = written s.wiring (site_at switch v x) (flat r) d u in
      let lt : r.level < hop_size (fabric_of s.network) s.hops v = f t.left t.is_left in
      let p : d.priority ≡ r.level + 1 = t.priority in let size = good.sizes v in omega arith) low

  pub all-fit : (switch : ℕ) → AllByRecursion Fits (entries_of s switch)
  all-fit switch =
      all-append Fits (ruled switch) (fixed_at s switch)
      (all-ruled Fits switch (λ v x e. for-any Fits switch v x x.whole refl
      (λ q has _. entries-fit switch v x (at_node v q) (all-below s.network good.network s.hops v x e q has good.hops))
      (λ t at. entries-fit switch v x (at_all x)
      (all-map (rules.Below (hop_size (fabric_of s.network) s.hops v)) (λ (r : Rule). (m : MatchOf)
      → left_of x.spread r.m ≡ Some m → r.level < hop_size (fabric_of s.network) s.hops v) (at_all x).rules
      (λ r lt m _. lt)
      (whole-below s.network good.network v x e (keeps v x e t) at.port at.has s.hops good.hops
      ((good.virtuals v x e).whole t).links)))))
      (all-fixed s Fits switch (all-guards s good Fits switch (λ o _ _. lit< tt))
      (all-transits s good Fits switch (λ o _ t p _ _. lit< tt)) (all-dropping s good Fits switch (λ p _. lit< tt)))

  pub ingress : (switch u : ℕ) (y : VirtualSwitch) (q : ℕ) (b : Outside) → outside_at s.wiring u q ≡ Some b → (r : Rule)
      → Names q r → ingress_of s.wiring (site_at switch u y) (flat r) ≡ Some b.at.port
  ingress switch u y q b f r n = rw (n, f) refl

  -- the entries of a port hold no packet that comes by another
  part-silent : (switch : ℕ) (k : HeaderOf) (u : ℕ) (y : VirtualSwitch) (q : ℕ) (l : Lies s.wiring switch u q)
      → k.in_port ≢ l.o.at.port
      → AllByRecursion (λ (d : PhysEntry). holds d.m k ≡ false) (entries switch u y (at_node u q))
  part-silent switch k u y q l ne =
      none-holds s.wiring (site_at switch u y) (Names q) k
      (λ r n. fits-other _ l.o.at.port k.in_port (ingress switch u y q l.o l.at r n) ne) (at_node u q).rules
      (all-name s.network s.hops u q good.hops)

  -- the entries of rules hold no packet that comes by a port of no virtual switch, where none is whole
  pub all-silent : (switch : ℕ) (k : HeaderOf)
      → ((u q : ℕ) (b : Outside) → outside_at s.wiring u q ≡ Some b → b.at.switch ≡ switch → k.in_port ≢ b.at.port)
      → ((u : ℕ) (y : VirtualSwitch) → is_at u y → y.whole ≡ true → Stands s.wiring switch u y.outside → ⊥)
      → AllByRecursion (λ (d : PhysEntry). holds d.m k ≡ false) (ruled switch)
  all-silent switch k apart none =
      all-ruled (λ (d : PhysEntry). holds d.m k ≡ false) switch
      (λ u y e. for-any (λ (d : PhysEntry). holds d.m k ≡ false) switch u y y.whole refl
      (λ q _ l. part-silent switch k u y q l (apart u q l.o l.at l.here)) (λ t l. absurd (none u y e t l)))

  module _ (v : ℕ) (x : VirtualSwitch) (e : is_at v x) (h : HeaderOf) (o : Outside)
      (at : outside_at s.wiring v h.in_port ≡ Some o) where
    abbrev pub site : Site
    site = site_at o.at.switch v x

    abbrev pub k : HeaderOf
    k = comes_by o.at.port h

    abbrev pub holding : PhysEntry → Bool
    holding d = holds d.m k

    -- another port of the switch has another number
    other-port-apart : (u q : ℕ) (l : Lies s.wiring o.at.switch u q) → ((v ≡ u) × (h.in_port ≡ q) → ⊥)
        → k.in_port ≢ l.o.at.port
    other-port-apart u q l ne same = ne (good.placing.wiring.apart v h.in_port u q o l.o at l.at (sym l.here) same)

    -- entries of another virtual switch hold no packet of this one
    pub others-silent : (u : ℕ) (y : VirtualSwitch) → u ≢ v → is_at u y
        → Silent holding by (entries_for s o.at.switch (u, y))
    others-silent u y ne f =
        for-any (λ d. holding d ≡ false) o.at.switch u y y.whole refl
        (λ q _ l. part-silent o.at.switch k u y q l (other-port-apart u q l (λ same. ne (sym same.0))))
        (λ t l. absurd
        (ne (sym (((good.virtuals u y f).whole t).alone v l.port h.in_port l.lies.o o l.lies.at at l.lies.here))))

    -- no end of a cable is an outside port
    not-end : (p : SwitchPort) → is_end s.wiring.cables p ≡ true → p.switch ≡ o.at.switch → o.at.port ≢ p.port
    not-end p is here same =
        let ends : IfSome (Some o) (λ o. far_end s.wiring o.at ≡ None) =
        rw at at (good.placing.open_ends v h.in_port) in
        let spot : o.at ≡ p = λ i. record { switch = (sym here) i; port = same i } in
        let none : is_end s.wiring.cables p ≡ false = ap (λ (z : SwitchPort). is_end s.wiring.cables z) (sym spot)
        ∙ no-end s.wiring.cables o.at ends in cc

    pub transits-silent : Silent holding by (transits s.wiring o.at.switch)
    transits-silent =
        all-transits s good (λ d. holding d ≡ false) o.at.switch
        (λ b _ t p _ g. ap (λ (c : Bool). c && rest (transit s.wiring p b t).m k)
        (fits-other (Some p.port) p.port o.at.port refl (not-end p g.0 g.1)))

    pub drops-silent : Silent holding by (dropping s o.at.switch)
    drops-silent =
        all-dropping s good (λ d. holding d ≡ false) o.at.switch
        (λ p none. holds-apart (Some p) (drop_entry p).m h o.at.port (fits-other (Some p) p o.at.port refl (λ same.
        let there : list_any (is_spot o.at.switch p) s.wiring.outside ≡ true =
        ap (λ (q : ℕ). list_any (is_spot o.at.switch q) s.wiring.outside) (sym same)
        ∙ not-dropped s.wiring v h.in_port o at in cc)))

    pub quiet-lower : (c : PhysEntry) (ys : List PhysEntry) → Silent holding by ys → Lower holding by c ys
    quiet-lower c ys a = all-map (λ (d : PhysEntry). holding d ≡ false) (λ (d : PhysEntry). holding d ≡ true
        → by d < by c) ys (λ d f t. cc) a

    -- entries of rules are above those in which tables have no part
    fixed-lower : (c : PhysEntry) → 0 < c.priority → Lower holding by c (fixed_at s o.at.switch)
    fixed-lower c lt =
        all-fixed s (λ (d : PhysEntry). holding d ≡ true
        → by d < by c) o.at.switch (all-guards s good (λ (d : PhysEntry). holding d ≡ true
        → by d < by c) o.at.switch (λ o _ _ _. lt))
        (quiet-lower c (transits s.wiring o.at.switch) transits-silent)
        (quiet-lower c (dropping s o.at.switch) drops-silent)

    -- the best entry of the virtual switch is that of the switch
    best-of-switch : (c : PhysEntry) → 0 < c.priority → IsBest holding by (entries_for s o.at.switch (v, x)) c
        → IsBestEntry k (entries_of s o.at.switch) c
    best-of-switch c lt best =
        best-above holding by (fixed_at s o.at.switch)
        (best-flat_map holding by (λ (i : ℕ × VirtualSwitch). (i.0 ≢ v) × is_at i.0 i.1) (entries_for s o.at.switch)
        (λ i g. others-silent i.0 i.1 g.0 g.1) best
        (alone-zip (λ (i : ℕ × VirtualSwitch). i.0 ≢ v) (λ (i : ℕ × VirtualSwitch). is_at i.0 i.1)
        (alone-numbered v 0 v s.network.switches x (omega arith) e) (all-numbered s.network.switches)))
        (fixed-lower c lt)

    above-none : (r : Rule) (c : PhysEntry) → entry_of s.wiring site (flat r) ≡ Some c → 0 < c.priority
    above-none r c f = let p = (written s.wiring site (flat r) c f).priority in omega arith

    -- where a match names the port, it holds a packet there as here
    part-turned : (r : Rule) → Names h.in_port r → (m : MatchOf) → left_of x.spread r.m ≡ Some m
        → holds (by_port (ingress_of s.wiring site (flat r)) m) k ≡ holds m h
    part-turned r n m l =
        holds-turned (ingress_of s.wiring site (flat r)) m h o.at.port
        (fits-named _ o.at.port o.at.port (ingress o.at.switch v x h.in_port o at r n) refl
        ∙ sym (fits-named m.in_port h.in_port h.in_port (left-port x.spread r.m m h.in_port l n) refl))

    part-up : (r : Rule) (d : PhysEntry) → Names h.in_port r → entry_of s.wiring site (flat r) ≡ Some d
        → holding d ≡ true → holds r.m h ≡ true
    part-up r d n f t =
        let u = written s.wiring site (flat r) d f in
        left-holds x.spread r.m u.left h u.is_left (sym (part-turned r n u.left u.is_left)
        ∙ (sym (ap (λ (m : MatchOf). holds m k) u.m) ∙ t))

    pub part-best : (r : Rule) → takes x.spread h ≡ true → Names h.in_port r → holds r.m h ≡ true
        → Best s.wiring site (flat r) k
    part-best r t n f = best-there s.wiring site (flat r) h o.at.port t f (part-turned r n)

    pub best-of-part : (r : Rule) (c : Best s.wiring site (flat r) k) → x.whole ≡ false
        → has_port x.outside h.in_port ≡ true → rules.IsBest h (at_node v h.in_port).rules r
        → IsBestEntry k (entries_of s o.at.switch) c.entry
    best-of-part r c t has best =
        let lies : lies_on s.wiring o.at.switch v h.in_port ≡ true = rw at (eq-eqb o.at.switch o.at.switch refl) in
        best-of-switch c.entry (above-none r c.entry c.is)
        (subst (λ (es : List Entering). IsBest holding by (flat_map (placed s.wiring site x.outside) es) c.entry)
        (sym (entering-part v x t))
        (best-flat_map holding by (λ (en : Entering). Silent holding by (placed s.wiring site x.outside en))
        (placed s.wiring site x.outside) (λ en a. a)
        (subst (λ (b : Bool). IsBest holding by (if b then entries o.at.switch v x (at_node v h.in_port) else [])
        c.entry) (sym lies)
        (best-entry s.wiring site (Names h.in_port) h holding part-up c.entry c.is c.passes
        (all-name s.network s.hops v h.in_port good.hops) best))
        (alone-map (λ q. q ≢ h.in_port) (λ (en : Entering). Silent holding by (placed s.wiring site x.outside en))
        (at_node v)
        (λ q ne. part-all (λ d. holding d ≡ false) o.at.switch v x q t
        (λ l. part-silent o.at.switch k v x q l (other-port-apart v q l (λ same. ne (sym same.1)))))
        (alone-port x.outside h.in_port (good.virtuals v x e).distinct has))))

    -- of a spread virtual switch no entry holds a packet with a tag
    tagged-silent : takes x.spread h ≡ false → (q : ℕ) → Lies s.wiring o.at.switch v q → (q == h.in_port) ≡ true
        → Silent holding by (entries o.at.switch v x (at_node v q))
    tagged-silent t q l same =
        all-filter_map (Names q) (λ (d : PhysEntry). holding d ≡ false) (λ r. entry_of s.wiring site (flat r))
        (at_node v q).rules
        (λ r d f n. fails (holding d) (λ u.
        let n' : Names h.in_port r = subst (λ (z : ℕ). Names z r) (eqb-true q h.in_port same) n in
        let w = written s.wiring site (flat r) d f in
        let held : holds w.left h ≡ true = sym (part-turned r n' w.left w.is_left)
        ∙ (sym (ap (λ (m : MatchOf). holds m k) w.m) ∙ u) in
        let taken : takes x.spread h ≡ true = left-takes x.spread r.m w.left h w.is_left held in cc))
        (all-name s.network s.hops v q good.hops)

    by-port-silent : takes x.spread h ≡ false → (q : ℕ) → Lies s.wiring o.at.switch v q → (b : Bool)
        → (q == h.in_port) ≡ b → Silent holding by (entries o.at.switch v x (at_node v q))
    by-port-silent t q l true f = tagged-silent t q l f
    by-port-silent t q l false f = part-silent o.at.switch k v x q l
        (other-port-apart v q l (λ same. let g : (q == h.in_port) ≡ true = eq-eqb q h.in_port (sym same.1) in cc))

    pub own-silent : takes x.spread h ≡ false → (b : Bool) → x.whole ≡ b
        → Silent holding by (entries_for s o.at.switch (v, x))
    own-silent t b w =
        for-any (λ d. holding d ≡ false) o.at.switch v x b w (λ q _ l. by-port-silent t q l (q == h.in_port) refl)
        (λ f _. let lone = ((good.virtuals v x e).whole f).lone in absurd (never-taken x.spread h lone t))

    by-number : (u : ℕ) (y : VirtualSwitch) → is_at u y → takes x.spread h ≡ false → (b : Bool) → (u == v) ≡ b
        → Silent holding by (entries_for s o.at.switch (u, y))
    by-number u y f t true g =
        let same : y ≡ x = some_injective (sym f ∙ (ap (λ z. slice_get s.network.switches z) (eqb-true u v g) ∙ e)) in
        subst (λ (z : ℕ × VirtualSwitch). Silent holding by (entries_for s o.at.switch z))
        (λ i. ((sym (eqb-true u v g)) i, (sym same) i)) (own-silent t x.whole refl)
    by-number u y f t false g = others-silent u y (λ same. let n : (u == v) ≡ true = eq-eqb u v same in cc) f

    pub tagged-ruled : takes x.spread h ≡ false → Silent holding by (ruled o.at.switch)
    tagged-ruled t = all-ruled (λ d. holding d ≡ false) o.at.switch (λ u y f. by-number u y f t (u == v) refl)

    -- so does a rule of a whole virtual switch
    other-port : (q : ℕ) (b : Option Outside) → outside_at s.wiring v q ≡ b → is_some b ≡ true → x.spread ≡ false
        → (c : Bool) → (q == h.in_port) ≡ c → fits (option_map (λ (z : Outside). z.at.port) b) o.at.port ≡ c
    other-port q None f t lone c g = cc
    other-port q (Some b) f t lone true g =
        let same : Some b ≡ Some o = sym f ∙ (ap (λ z. outside_at s.wiring v z) (eqb-true q h.in_port g) ∙ at) in
        eq-eqb b.at.port o.at.port (ap (λ (z : Outside). z.at.port) (some_injective same))
    other-port q (Some b) f t lone false g =
        fits-other (Some b.at.port) b.at.port o.at.port refl (λ same.
        let there = good.placing.together v v q h.in_port b o (ap (λ z. switch_spread z) e ∙ lone) at_once f at in
        let apart = good.placing.wiring.apart v q v h.in_port b o f at there (sym same) in
        let u : (q == h.in_port) ≡ true = eq-eqb q h.in_port apart.1 in cc)

    whole-fits : x.spread ≡ false → (i : Option ℕ) → IfSome i (λ p. has_port x.outside p ≡ true)
        → fits (option_and_then (λ p. option_map (λ (z : Outside). z.at.port) (outside_at s.wiring v p)) i) o.at.port
        ≡ fits i h.in_port
    whole-fits lone None n = refl
    whole-fits lone (Some q) n =
        other-port q (outside_at s.wiring v q) refl (good.placing.same v q
        ∙ (ap (λ z. has_port (outside_ports z) q) e ∙ n)) lone (q == h.in_port) refl

    whole-turned : x.spread ≡ false → (r : Rule) → RuleKeeps x.outside r → (m : MatchOf) → left_of x.spread r.m ≡ Some m
        → holds (by_port (ingress_of s.wiring site (flat r)) m) k ≡ holds m h
    whole-turned lone r n m l =
        let same : r.m ≡ m = left-all x.spread r.m m lone l in
        holds-turned (ingress_of s.wiring site (flat r)) m h o.at.port
        (whole-fits lone r.m.in_port n ∙ ap (λ (z : MatchOf). fits z.in_port h.in_port) same)

    whole-up : x.spread ≡ false → (r : Rule) (d : PhysEntry) → RuleKeeps x.outside r
        → entry_of s.wiring site (flat r) ≡ Some d → holding d ≡ true → holds r.m h ≡ true
    whole-up lone r d n f t =
        let u = written s.wiring site (flat r) d f in
        left-holds x.spread r.m u.left h u.is_left (sym (whole-turned lone r n u.left u.is_left)
        ∙ (sym (ap (λ (m : MatchOf). holds m k) u.m) ∙ t))

    pub whole-best : (r : Rule) → x.spread ≡ false → RuleKeeps x.outside r → holds r.m h ≡ true
        → Best s.wiring site (flat r) k
    whole-best r lone n f = best-there s.wiring site (flat r) h o.at.port (rw lone refl) f (whole-turned lone r n)

    here-or : (p : ℕ) (ps : List ℕ) (b : Bool) → (p == h.in_port) ≡ b
        → (b ≡ false → stands_on s.wiring o.at.switch v ps ≡ true) → stands_on s.wiring o.at.switch v (p ∷ ps) ≡ true
    here-or p ps true t f = let g : outside_at s.wiring v p ≡ Some o =
        ap (λ q. outside_at s.wiring v q) (eqb-true p h.in_port t)
        ∙ at in rw (g, eq-eqb o.at.switch o.at.switch refl) refl
    here-or p ps false t f = or_right (lies_on s.wiring o.at.switch v p) (stands_on s.wiring o.at.switch v ps) (f refl)

    stands-here : (ports : List ℕ) → has_port ports h.in_port ≡ true → stands_on s.wiring o.at.switch v ports ≡ true
    stands-here [] has = cc
    stands-here (p ∷ ps) has = here-or p ps (p == h.in_port) refl (λ t. stands-here ps (rw t at has))

    pub best-of-whole : (r : Rule) (c : Best s.wiring site (flat r) k) → x.whole ≡ true
        → has_port x.outside h.in_port ≡ true → rules.IsBest h (at_all x).rules r
        → IsBestEntry k (entries_of s o.at.switch) c.entry
    best-of-whole r c t has best =
        let stands : stands_on s.wiring o.at.switch v x.outside ≡ true = stands-here x.outside has in
        best-of-switch c.entry (above-none r c.entry c.is)
        (subst (λ (es : List Entering). IsBest holding by (flat_map (placed s.wiring site x.outside) es) c.entry)
        (sym (entering-whole v x t))
        (best-above holding by []
        (subst (λ (b : Bool). IsBest holding by (if b then entries o.at.switch v x (at_all x) else []) c.entry)
        (sym stands)
        (best-entry s.wiring site (RuleKeeps x.outside) h holding (whole-up ((good.virtuals v x e).whole t).lone)
        c.entry c.is c.passes (keeps v x e t) best)) tt))
