-- What rules of a virtual switch make with those that come to the nodes to which its links lead.
use Rattle.std.proofs.Common.{◌≡◌, ℕ, ◌+◌, ◌<◌, ◌≤◌, ◌==◌, ◌&&◌, ◌||◌, Bool, true, false, List, [], ◌∷◌, ◌++◌, Option}
use Rattle.std.proofs.Common.{Some, None, refl, sym, ap, subst, ◌∙◌, map, cond, arith}
use Rattle.std.specs.Prelude.{IfSome, IsPermutation, count_by, filter, filter_map, option_map, if◌then◌else◌}
use Rattle.std.specs.List.{AllByRecursion}
use Rattle.std.specs.Option.{option_and_then, option_map_or}
use Rattle.std.proofs.lemmas.List.Sums.{sum_by-cons}
use Rattle.std.proofs.lemmas.List.Sorted.{IsPermutation-append_right, IsPermutation-trans, sum_by-IsPermutation}
use Rattle.list_change.proofs.Permute.{by-equation}
use Rattle.of10_match.specs.Fields.{MatchOf}
use Rattle.of10_match.specs.Matching.{at_port, both, either, longer, overlaps}
use Rattle.of10_match.specs.Normal.{IsNormal}
use Rattle.of10_match.specs.declared.header.Prefix.{Prefix}
use Rattle.of10_match.proofs.Commuting.{overlaps-comm}
use Rattle.of10_actions.specs.declared.effects.Tail.{Tail}
use Rattle.op_compose.specs.Composition.{Joins, crossed, joined}
use Rattle.op_compose.specs.declared.op.Op.TheVariants.{Hop}
use Rattle.policy_meaning.specs.Hops.{at_node, hop_rule}
use Rattle.policy_meaning.specs.LeafRules.{rule_met}
use Rattle.policy_meaning.specs.declared.network.Place.{Place}
use Rattle.policy_meaning.specs.declared.rule.Rule.{Rule}
use Rattle.policy_meaning.proofs.Cells.{narrowed}
use Rattle.policy_meaning.proofs.Lists.{all-each, all-map, all-zip}
use Rattle.policy_meaning.proofs.Meeting.{some_met}
use Rattle.match_index.specs.Items.{ids_of}
use Rattle.match_index.specs.Questions.{is_meeting}
use Rattle.match_index.specs.declared.item.Item.{Item}
use Rattle.rule_ancestry.specs.Holding.{Held, id_of}
use Rattle.made_rules.specs.Rules.{rules_in}
use Rattle.made_rules.specs.declared.made.Made.{Made}
use Rattle.hop_rules.specs.Handed.{asks_by, listed}
use Rattle.hop_rules.specs.Nodes.{Arrival, AreArriving, CanMeet, IsAt, IsOwn, NodeOf, arrival, could, could_by, held_at}
use Rattle.hop_rules.specs.Nodes.{hop_way, leads_over, leads_there, leads_to, made_of_pair, pair_by}
use Rattle.hop_rules.specs.Standing.{asked, leads_back, leaving, over, standing}
use Rattle.hop_rules.specs.Under.{AreFound, under}
use Rattle.hop_rules.specs.declared.exits.Exit.{Exit}
use Rattle.hop_rules.specs.declared.standing.Departure.{Departure}
use Rattle.hop_rules.proofs.Found.{found-by, meets_by}
use Rattle.hop_rules.proofs.Arriving.{leaving-all}
use Rattle.hop_rules.proofs.Making.{joins-by, pushed-pair, stood-own, unmet}
use Rattle.hop_rules.proofs.Names.{is-same}
use Rattle.hop_rules.proofs.Under.{picked}
use Rattle.hop_rules.proofs.Walking.{under-candidates, walked}

-- ---- a rule as it stands at a port
either-none : (o : Option ℕ) → either o None ≡ o
either-none None = refl
either-none (Some v) = refl

longer-none : (o : Option Prefix) → longer o None ≡ o
longer-none None = refl
longer-none (Some p) = refl

-- only in_port is narrowed
narrowed-port : (m : MatchOf) (port : ℕ) → both m (at_port port) ≡ record m { in_port = either m.in_port (Some port) }
narrowed-port m port = λ i. record {
  in_port = either m.in_port (Some port);
  dl_src = either-none m.dl_src i;
  dl_dst = either-none m.dl_dst i;
  dl_vlan = either-none m.dl_vlan i;
  dl_vlan_pcp = either-none m.dl_vlan_pcp i;
  dl_type = either-none m.dl_type i;
  nw_tos = either-none m.nw_tos i;
  nw_proto = either-none m.nw_proto i;
  nw_src = longer-none m.nw_src i;
  nw_dst = longer-none m.nw_dst i;
  tp_src = either-none m.tp_src i;
  tp_dst = either-none m.tp_dst i;
}

pub record IsStood (a y : Rule) : Type 0 where
  pub tail : y.tail ≡ a.tail
  pub level : y.level ≡ a.level
  pub asks : (l : Departure) → asked y.m l ≡ asked a.m l

stood-by : (at : Place) (a y : Rule) (o : Option Rule) → rule_met a (at_port at.port) ≡ o
    → option_map (at_node at.v at.port) o ≡ Some y → IsStood a y
stood-by at a y None e s = absurd (cc)
stood-by at a y (Some met) e s =
    let z : at_node at.v at.port met ≡ y = cc in
    let k = some_met (narrowed a) a.m (at_port at.port) met e in
    let w : at_node at.v at.port (narrowed a (both a.m (at_port at.port))) ≡ y = ap (at_node at.v at.port) k.1 ∙ z in
    record {
      tail = sym (ap (λ (r : Rule). r.tail) w);
      level = sym (ap (λ (r : Rule). r.level) w);
      asks = λ l. sym (ap (λ (r : Rule). asked r.m l) w) ∙ ap (λ m. asked m l) (narrowed-port a.m at.port);
    }

pub stood : (at : Place) (a y : Rule) → standing at a ≡ Some y → IsStood a y
stood at a y e = stood-by at a y (rule_met a (at_port at.port)) refl e

-- ---- whether it leads over the link of a place
module _ (exits : List Exit) (port : ℕ) where
  led-by : (place : ℕ) (t : Tail) (o : Option Departure) → leaving exits port t ≡ o
      → option_map_or (λ (l : Departure). l.exit.place == place) o false ≡ true → Joins Hop t
  led-by place t None e s = absurd (cc)
  led-by place t (Some dep) e s = joins-by exits port dep t e

  pub led-joins : (place : ℕ) (t : Tail) → leads_to exits port t place ≡ true → Joins Hop t
  led-joins place t s = led-by place t (leaving exits port t) refl s

  led-pair-by : (size id place : ℕ) (a : Rule) (h : Held Rule) (o : Option Departure) → leaving exits port a.tail ≡ o
      → option_map_or (λ (l : Departure). l.exit.place == place) o false ≡ true →
      option_map (made_of_pair id (arrival place h)) (crossed a.tail size a h.item)
      ≡ pair_by size id a (arrival place h) o
  led-pair-by size id place a h None e s = absurd (cc)
  led-pair-by size id place a h (Some dep) e s = pushed-pair exits port dep size id place a h e s

  pub led-pair : (size id place : ℕ) (a : Rule) (h : Held Rule) → leads_to exits port a.tail place ≡ true →
      option_map (made_of_pair id (arrival place h)) (joined Hop size a h.item)
      ≡ pair_by size id a (arrival place h) (leaving exits port a.tail)
  led-pair size id place a h s = led-pair-by size id place a h (leaving exits port a.tail) refl s

  unled-by : (size id place : ℕ) (a : Rule) (h : Held Rule) (o : Option Departure)
      → option_map_or (λ (l : Departure). l.exit.place == place) o false ≡ false
      → pair_by size id a (arrival place h) o ≡ None
  unled-by size id place a h None s = refl
  unled-by size id place a h (Some dep) s =
      ap (λ t. if t then option_map (made_of_pair id (arrival place h)) (hop_rule size dep.rewrite a h.item) else None)
      s

module _ (at : Place) (size : ℕ) (exits : List Exit) where
  -- it makes nothing where it doesn't
  unled-stood : (h : Held Rule) (place : ℕ) (b : Held Rule) (o : Option Rule) → standing at h.item ≡ o
      → leads_to exits at.port h.item.tail place ≡ false →
      option_and_then (λ (a : Rule). pair_by size h.id a (arrival place b) (leaving exits at.port a.tail)) o ≡ None
  unled-stood h place b None e s = refl
  unled-stood h place b (Some a) e s =
      unled-by exits at.port size h.id place a b (leaving exits at.port a.tail)
      (ap (λ t. leads_to exits at.port t place) (stood at h.item a e).tail ∙ s)

  pub unled : (h : Held Rule) (place : ℕ) (b : Held Rule) → leads_to exits at.port h.item.tail place ≡ false
      → (hop_way at size exits).pair h (arrival place b) ≡ None
  unled h place b s = unled-stood h place b (standing at h.item) refl s

  pub unstood : (h : Held Rule) (y : Arrival) → standing at h.item ≡ None → (hop_way at size exits).pair h y ≡ None
  unstood h y e = ap (option_and_then (λ (a : Rule). pair_by size h.id a y (leaving exits at.port a.tail))) e

  pub led-stood : (h : Held Rule) (place : ℕ) (b : Held Rule) (a : Rule) → standing at h.item ≡ Some a
      → leads_to exits at.port h.item.tail place ≡ true →
      option_map (made_of_pair h.id (arrival place b)) (joined Hop size a b.item)
      ≡ (hop_way at size exits).pair h (arrival place b)
  led-stood h place b a e s =
      led-pair exits at.port size h.id place a b (ap (λ t. leads_to exits at.port t place) (stood at h.item a e).tail
      ∙ s)
      ∙ sym (ap (option_and_then (λ (a : Rule). pair_by size h.id a (arrival place b) (leaving exits at.port a.tail)))
      e)

  pub led-over : (h : Held Rule) (place : ℕ) (a : Rule) → standing at h.item ≡ Some a
      → leads_to exits at.port h.item.tail place ≡ true → leads_over at exits place h ≡ true
  led-over h place a e s =
      ap (λ o. option_map_or (λ (a : Rule). leads_to exits at.port a.tail place) o false) e
      ∙ ap (λ t. leads_to exits at.port t place) (stood at h.item a e).tail ∙ s

pub counts-one : {X : Type 0} (p : X → Bool) (x : X) → p x ≡ true → count_by p (x ∷ []) ≡ 1
counts-one p x e = ap (λ t. 0 + cond t 1 0) e

-- ---- who isn't found makes nothing, and who is could meet
over-of : (exits : List Exit) (port : ℕ) (t : Tail) (l : Departure) (b : Bool) → leads_back port t ≡ b
    → leaving exits port t ≡ Some l → over exits t ≡ Some l
over-of exits port t l true k e =
    absurd (let z : leaving exits port t ≡ None = ap (λ b. if b then None else over exits t) k in cc)
over-of exits port t l false k e = sym (ap (λ b. if b then None else over exits t) k) ∙ e

pub leaving-over : (exits : List Exit) (port : ℕ) (t : Tail) (l : Departure) → leaving exits port t ≡ Some l
    → over exits t ≡ Some l
leaving-over exits port t l e = over-of exits port t l (leads_back port t) refl e

module _ (at : Place) (size : ℕ) (exits : List Exit) (place : ℕ) (b : Held Rule) (met : CanMeet size exits place b.item)
  where
    -- a rule is found by what it asks
    abbrev pub asking : Held Rule → Bool
    asking h = meets_by b.item.m (asks_by h.item (over exits h.item.tail))

    asks-over : (h : Held Rule) (a : Rule) (l : Departure) → standing at h.item ≡ Some a
        → leaving exits at.port a.tail ≡ Some l → asking h ≡ overlaps (asked a.m l) b.item.m
    asks-over h a l e s =
        let k = stood at h.item a e in
        let o : over exits h.item.tail ≡ Some l = ap (over exits) (sym k.tail)
        ∙ leaving-over exits at.port a.tail l s in
        ap (λ z. meets_by b.item.m (asks_by h.item z)) o ∙ overlaps-comm b.item.m (asked h.item.m l)
        ∙ ap (λ m. overlaps m b.item.m) (sym (k.asks l))

    arrives-at : (l : Departure)
        → IfSome (Some l) (λ (l : Departure). (l.exit.place == place) ≡ true → IsAt size l.exit.peer.port b.item)
        → (l.exit.place == place) ≡ true → IsAt size l.exit.peer.port b.item
    arrives-at l f e = f e

    unmet-place : (h : Held Rule) (a : Rule) (l : Departure) (t : Bool) → (l.exit.place == place) ≡ t → IsNormal a.m
        → (t ≡ true → IsAt size l.exit.peer.port b.item) → overlaps (asked a.m l) b.item.m ≡ false
        → pair_by size h.id a (arrival place b) (Some l) ≡ None
    unmet-place h a l false s n f e =
        ap (λ t. if t then option_map (made_of_pair h.id (arrival place b)) (hop_rule size l.rewrite a b.item)
        else None)
        s
    unmet-place h a l true s n f e = unmet size h.id a l n size place b (f refl) e

    unmet-by : (h : Held Rule) (a : Rule) (o : Option Departure) → standing at h.item ≡ Some a
        → leaving exits at.port a.tail ≡ o → IsNormal a.m
        → IfSome o (λ (l : Departure). (l.exit.place == place) ≡ true → IsAt size l.exit.peer.port b.item) →
        asking h ≡ false → pair_by size h.id a (arrival place b) o ≡ None
    unmet-by h a None e s n f q = refl
    unmet-by h a (Some l) e s n f q =
        unmet-place h a l (l.exit.place == place) refl n (λ t. f t) (sym (asks-over h a l e s) ∙ q)

    unmet-stood : (own : ℕ) (h : Held Rule) (o : Option Rule) → standing at h.item ≡ o → IsOwn own h.item
        → asking h ≡ false
        → option_and_then (λ (a : Rule). pair_by size h.id a (arrival place b) (leaving exits at.port a.tail)) o ≡ None
    unmet-stood own h None e i q = refl
    unmet-stood own h (Some a) e i q =
        unmet-by h a (leaving exits at.port a.tail) e refl (stood-own own at h.item a e i).normal
        (leaving-all (λ (x : Exit). (x.place == place) ≡ true
        → IsAt size x.peer.port b.item) exits at.port a.tail met.arrives) q

    pub not-asking : (own : ℕ) (h : Held Rule) → IsOwn own h.item → asking h ≡ false
        → (hop_way at size exits).pair h (arrival place b) ≡ None
    not-asking own h i q = unmet-stood own h (standing at h.item) refl i q

    could-place : (a : Rule) (l : Departure) → (l.exit.place == place) ≡ true → overlaps (asked a.m l) b.item.m ≡ true
        → could_by a (arrival place b) (Some l) ≡ true
    could-place a l s e = ap (λ t. t && overlaps (asked a.m l) b.item.m) s ∙ e

    could-left : (h : Held Rule) (a : Rule) (o : Option Departure) → standing at h.item ≡ Some a
        → leaving exits at.port a.tail ≡ o → asking h ≡ true
        → option_map_or (λ (l : Departure). l.exit.place == place) o false ≡ true
        → could_by a (arrival place b) o ≡ true
    could-left h a None e s q k = absurd (cc)
    could-left h a (Some l) e s q k = could-place a l k (sym (asks-over h a l e s) ∙ q)

    could-stood : (h : Held Rule) (o : Option Rule) → standing at h.item ≡ o → asking h ≡ true
        → option_map_or (λ (a : Rule). leads_to exits at.port a.tail place) o false ≡ true →
        option_map_or (λ (a : Rule). could_by a (arrival place b) (leaving exits at.port a.tail)) o false ≡ true
    could-stood h None e q k = absurd (cc)
    could-stood h (Some a) e q k = could-left h a (leaving exits at.port a.tail) e refl q k

    asking-could : (h : Held Rule) → asking h ≡ true → leads_over at exits place h ≡ true
        → could at exits h (arrival place b) ≡ true
    asking-could h q k = could-stood h (standing at h.item) refl q k

    all-not-asking : (own : ℕ) (rules kept : List (Held Rule))
        → AllByRecursion (λ (a : Held Rule). IsOwn own a.item) rules → AreFound rules kept
        → AllByRecursion (λ h. asking h ≡ false → (hop_way at size exits).pair h (arrival place b) ≡ None) kept
    all-not-asking own rules [] o f = tt
    all-not-asking own rules (h ∷ kept) o f = (
      not-asking own h (picked (λ (a : Held Rule). IsOwn own a.item) rules h.id h.item o f.0),
      all-not-asking own rules kept o f.1,
    )

    asking-ids : (ids : List ℕ) (items : List Item) (kept : List (Held Rule))
        → IsPermutation ids (ids_of (is_meeting b.item.m) items) → IsPermutation items (filter_map (listed exits) kept)
        → IsPermutation ids (map id_of (filter asking kept))
    asking-ids ids items kept p l = IsPermutation-trans _ _ _ p
        (found-by (λ (h : Held Rule). asks_by h.item (over exits h.item.tail)) b.item.m items kept l)

    -- those that are found make what all that are listed make
    pub met-walked : (own : ℕ) (rules kept : List (Held Rule)) (ids : List ℕ) (items : List Item) (old new : List Made)
        → AllByRecursion (λ (a : Held Rule). IsOwn own a.item) rules → AreFound rules kept →
        IsPermutation ids (ids_of (is_meeting b.item.m) items) → IsPermutation items (filter_map (listed exits) kept) →
        new ≡ old ++ filter_map (λ h. (hop_way at size exits).pair h (arrival place b)) (under rules ids)
        → IsPermutation new (old ++ filter_map (λ h. (hop_way at size exits).pair h (arrival place b)) kept)
    met-walked own rules kept ids items old new o f p l e =
        IsPermutation-trans _ _ _ (by-equation _ _ e)
        (IsPermutation-append_right old _ _
        (walked (λ h. (hop_way at size exits).pair h (arrival place b)) asking rules kept ids f
        (asking-ids ids items kept p l) (all-not-asking own rules kept o f)))

    through-cond : (h : Held Rule) (rest : List (Held Rule)) (t u : Bool) (n : ℕ)
        → (t ≡ true → leads_over at exits place h ≡ true → u ≡ true) → count_by (leads_over at exits place) rest ≤ n →
        count_by (leads_over at exits place) (cond t (h ∷ rest) rest) ≤ cond u 1 0 + n
    through-cond h rest false u n f le = omega arith
    through-cond h rest true true n f le =
        let c = sum_by-cons (λ (h : Held Rule). cond (leads_over at exits place h) 1 0) h rest in
        let m = at-most (leads_over at exits place h) in
        omega arith
      where
        at-most : (t : Bool) → cond t 1 0 ≤ 1
        at-most true = omega arith
        at-most false = omega arith
    through-cond h rest true false n f le =
        let c = sum_by-cons (λ (h : Held Rule). cond (leads_over at exits place h) 1 0) h rest in
        let m = none (leads_over at exits place h) (f refl) in
        omega arith
      where
        none : (t : Bool) → (t ≡ true → false ≡ true) → cond {A = ℕ} t 1 0 ≡ 0
        none true g = absurd (let z : false ≡ true = g refl in cc)
        none false g = refl

    through : (kept : List (Held Rule))
        → count_by (leads_over at exits place) (filter asking kept) ≤ count_by (λ h. could at exits h (arrival place b))
        kept
    through [] = omega arith
    through (h ∷ kept) =
        let c = sum_by-cons (λ (h : Held Rule). cond (could at exits h (arrival place b)) 1 0) h kept in
        let t = through-cond h (filter asking kept) (asking h) (could at exits h (arrival place b))
        (count_by (λ h. could at exits h (arrival place b)) kept) (asking-could h) (through kept) in
        omega arith

    -- and take a step only where they could meet
    pub met-count : (rules kept : List (Held Rule)) (ids : List ℕ) (items : List Item) → AreFound rules kept
        → IsPermutation ids (ids_of (is_meeting b.item.m) items) → IsPermutation items (filter_map (listed exits) kept)
        →
        count_by (leads_over at exits place) (under rules ids) ≤ count_by (λ h. could at exits h (arrival place b)) kept
    met-count rules kept ids items f p l =
        let s = sum_by-IsPermutation (λ h. cond (leads_over at exits place h) 1 0) (under rules ids)
        (filter asking kept)
        (under-candidates asking rules kept ids f (asking-ids ids items kept p l)) in
        let t = through kept in
        omega arith

-- ---- the rules of the node to which the link of a place leads can be met
module _ (size place : ℕ) (below : List NodeOf) where
  abbrev there : List (Held Rule)
  there = rules_in (held_at below place)

  at-exit : (e : Exit) (t : Bool) → (e.place == place) ≡ t → AreArriving below size e
      → AllByRecursion (λ (b : Held Rule). (e.place == place) ≡ true → IsAt size e.peer.port b.item) there
  at-exit e true s a =
      all-map (λ (b : Held Rule). IsAt size e.peer.port b.item) (λ (b : Held Rule). (e.place == place) ≡ true
      → IsAt size e.peer.port b.item) there (λ b i s. i)
      (subst (λ k. AllByRecursion (λ (b : Held Rule). IsAt size e.peer.port b.item) (rules_in (held_at below k)))
      (is-same e.place place s) a)
  at-exit e false s a = all-each (λ (b : Held Rule). (e.place == place) ≡ true
      → IsAt size e.peer.port b.item) there (λ b t. absurd (let z : false ≡ true = sym s ∙ t in cc))

  at-exits : (es : List Exit) → AllByRecursion (AreArriving below size) es
      → AllByRecursion (λ (b : Held Rule). AllByRecursion (λ (e : Exit). (e.place == place) ≡ true
      → IsAt size e.peer.port b.item) es) there
  at-exits [] a =
      all-each (λ (b : Held Rule). AllByRecursion (λ (e : Exit). (e.place == place) ≡ true
      → IsAt size e.peer.port b.item) []) there (λ b. tt)
  at-exits (e ∷ es) a =
      all-zip (λ (b : Held Rule). (e.place == place) ≡ true
      → IsAt size e.peer.port b.item) (λ (b : Held Rule). AllByRecursion (λ (e : Exit). (e.place == place) ≡ true
      → IsAt size e.peer.port b.item) es) there
      (at-exit e (e.place == place) refl a.0) (at-exits es a.1)

  below-by : (e : Exit) (es : List Exit) (t : Bool) → (place == e.place) ≡ t → (t || leads_there place es) ≡ true
      → AreArriving below size e →
      (leads_there place es ≡ true → AllByRecursion (λ (b : Held Rule). b.item.level < size) there)
      → AllByRecursion (λ (b : Held Rule). b.item.level < size) there
  below-by e es true s i a next =
      all-map (λ (b : Held Rule). IsAt size e.peer.port b.item) (λ (b : Held Rule). b.item.level < size) there
      (λ b i. i.below)
      (subst (λ k. AllByRecursion (λ (b : Held Rule). IsAt size e.peer.port b.item) (rules_in (held_at below k)))
      (sym (is-same place e.place s)) a)
  below-by e es false s i a next = next i

  all-below : (es : List Exit) → leads_there place es ≡ true → AllByRecursion (AreArriving below size) es
      → AllByRecursion (λ (b : Held Rule). b.item.level < size) there
  all-below [] i a = absurd (cc)
  all-below (e ∷ es) i a = below-by e es (place == e.place) refl i a.0 (λ j. all-below es j a.1)

  pub all-meet : (exits : List Exit) → leads_there place exits ≡ true → AllByRecursion (AreArriving below size) exits
      → AllByRecursion (λ (b : Held Rule). CanMeet size exits place b.item) there
  all-meet exits i a =
      all-map (λ (b : Held Rule). (b.item.level < size)
      × AllByRecursion (λ (e : Exit). (e.place == place) ≡ true → IsAt size e.peer.port b.item) exits)
      (λ (b : Held Rule). CanMeet size exits place b.item) there
      (λ b z. record { below = z.0; arrives = z.1 })
      (all-zip (λ (b : Held Rule). b.item.level < size)
      (λ (b : Held Rule). AllByRecursion (λ (e : Exit). (e.place == place) ≡ true
      → IsAt size e.peer.port b.item) exits) there (all-below exits i a) (at-exits exits a))
