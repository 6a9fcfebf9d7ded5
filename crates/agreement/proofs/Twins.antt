-- No two entries of a switch have one match, priority and ancestry.
use Rattle.std.proofs.Common.{◌≡◌, ◌≢◌, ℕ, ◌+◌, ◌<◌, ◌≤◌, ◌⊎◌, inl, inr, Bool, true, false, ◌&&◌, List, [], ◌∷◌, ◌++◌}
use Rattle.std.proofs.Common.{Option, Some, None, refl, ap, ◌∙◌, sym, subst, arith, eq-eqb, eqb-true}
use Rattle.std.specs.Prelude.{◌==◌, filter, flat_map, if◌then◌else◌, IfSome, is_some, map, not, option_map}
use Rattle.std.specs.Prelude.{option_to_list}
use Rattle.std.specs.List.{AllByRecursion, IsDistinct, enumerate_from}
use Rattle.std.specs.Option.{option_and_then}
use Rattle.std.specs.Cmp.Lexicographic.{pointwise, pointwise_decides}
use Rattle.cv_io.specs.Leaves.{same_leaf}
use Rattle.of10_match.specs.Fields.{MatchOf}
use Rattle.of10_match.specs.Matching.{holds, overlaps}
use Rattle.of10_match.specs.Same.{same_match}
use Rattle.of10_match.proofs.MeetSelf.{overlaps_self}
use Rattle.of10_match.proofs.Same.{match_decides}
use Rattle.policy_meaning.specs.Best as rules
use Rattle.policy_meaning.specs.Disjoint.{AreDisjoint}
use Rattle.policy_meaning.specs.Hops.{hop_size, node}
use Rattle.policy_meaning.specs.Leaf.{has_port}
use Rattle.policy_meaning.specs.LeafFact.{EachPair}
use Rattle.policy_meaning.specs.Networks.{fabric_of, ports_of, switch_rules, switch_spread}
use Rattle.policy_meaning.specs.Switches.{SwitchOf}
use Rattle.policy_meaning.specs.declared.fabric.Entering.{Entering}
use Rattle.policy_meaning.specs.declared.rule.Rule.{Rule}
use Rattle.policy_meaning.proofs.Apart.{overlapping, pairs-append, pairs-filter_map, pairs-flat_map}
use Rattle.policy_meaning.proofs.Booleans.{fails, some_injective, split_and, true_not_false}
use Rattle.policy_meaning.proofs.Disjointness.{nodes-are-disjoint, rules-are-disjoint}
use Rattle.policy_meaning.proofs.Lists.{add-none, all-append, all-each, all-filter_map, all-map, all-mapped, all-zip}
use Rattle.policy_meaning.proofs.Meeting.{meet_there}
use Rattle.switch_meaning.specs.Fixed.{drop_entry, drops, ends_at, guard, guards, is_guarded, is_outside, passes}
use Rattle.switch_meaning.specs.Fixed.{transit, transits, transits_to}
use Rattle.switch_meaning.specs.Keys.{same_key}
use Rattle.switch_meaning.specs.Placing.{entry_of, entry_with, ingress_of, match_written}
use Rattle.switch_meaning.specs.Wirings.{outside_at, same_spot}
use Rattle.switch_meaning.specs.declared.entry.PhysEntry.{PhysEntry}
use Rattle.switch_meaning.specs.declared.entry.Site.{Site}
use Rattle.switch_meaning.specs.declared.wiring.Outside.{Outside}
use Rattle.switch_meaning.specs.declared.wiring.SwitchPort.{SwitchPort}
use Rattle.switch_meaning.specs.declared.wiring.Wiring.{Wiring}
use Rattle.switch_meaning.proofs.Alike.{leaf_decides}
use Rattle.switch_meaning.proofs.ByKey.{installed-has-one-a-key}
use Rattle.switch_meaning.proofs.Items.{mapped}
use Rattle.agreement.specs.declared.state.Setting.{Setting}
use Rattle.agreement.specs.Entries.{dropping, entries_for, entries_of, flat, is_whole, lies_on, placed, ports_at}
use Rattle.agreement.specs.Entries.{site_at, stands_on}
use Rattle.agreement.specs.OneEntry.{IsNamedOnce, NoTwins, OneEntryAKey}
use Rattle.agreement.specs.Premises.{IsSoundSetting, cable_ends, outside_ports}
use Rattle.agreement.specs.Reach.{at_once}
use Rattle.agreement.proofs.Alone.{all-numbered}
use Rattle.agreement.proofs.Cables.{IsFound, all-filter, all-found, ends-as, is_port}
use Rattle.agreement.proofs.Fixed.{IsEndHere, all-dropping, all-ends-here, all-fixed, all-guards, all-passing}
use Rattle.agreement.proofs.Fixed.{all-transits, fixed_at}
use Rattle.agreement.proofs.Levels.{all-below, all-name, left-holds, left-port, left_of, whole-below}
use Rattle.agreement.proofs.NodeRules.{Names}
use Rattle.agreement.proofs.RuleEntries.{Lies, left-all, lies-where, written}
use Rattle.agreement.proofs.SwitchEntries.{all-ruled, at_all, at_node, entering-part, entering-whole, entries, for-any}
use Rattle.agreement.proofs.SwitchEntries.{is_at, keeps, placed-by, ruled}
use Rattle.agreement.proofs.Turned.{by_port}
use Rattle.agreement.proofs.WholeRules.{RuleKeeps}

-- two entries with one match, priority and ancestry
pub record Twins (d e : PhysEntry) : Type 0 where
  pub m : d.m ≡ e.m
  pub priority : d.priority ≡ e.priority
  pub ancestry : d.ancestry ≡ e.ancestry

abbrev Apart : PhysEntry → PhysEntry → Type 0
Apart d e = Twins d e → ⊥

-- lists of which each two items are such

module _ {A B : Type 0} (R : A → A → Type 0) (S : B → B → Type 0) (G : A → Type 0) (f : A → B) (up : (x y : A) → G x
    → G y → R x y → S (f x) (f y)) where
  pairs-mapped : (xs : List A) → AllByRecursion G xs → EachPair R xs → EachPair S (map f xs)
  pairs-mapped [] g p = tt
  pairs-mapped (x ∷ xs) g p = (
    all-mapped (λ y. G y × R x y) (S (f x)) f xs (λ y q. up x y g.0 q.0 q.1) (all-zip G (R x) xs g.1 p.0),
    pairs-mapped xs g.1 p.1,
  )

module _ {A : Type 0} (R : A → A → Type 0) (t : A → Bool) where
  one-more : (b : Bool) (x : A) (xs : List A) → AllByRecursion (R x) xs → EachPair R xs
      → EachPair R (if b then x ∷ xs else xs)
  one-more true x xs a p = (a, p)
  one-more false x xs a p = p

  pairs-filter : (xs : List A) → EachPair R xs → EachPair R (filter t xs)
  pairs-filter [] p = tt
  pairs-filter (x ∷ xs) p = one-more (t x) x (filter t xs) (all-filter (R x) t xs p.0) (pairs-filter xs p.1)

numbers-from : {A : Type 0} (m n : ℕ) (xs : List A) → m ≤ n
    → AllByRecursion (λ (i : ℕ × A). m ≤ i.0) (enumerate_from n xs)
numbers-from m n [] le = tt
numbers-from m n (x ∷ xs) le = (le, numbers-from m (n + 1) xs (omega arith))

numbers-differ : {A : Type 0} (n : ℕ) (xs : List A) → EachPair (λ (i j : ℕ × A). i.0 ≢ j.0) (enumerate_from n xs)
numbers-differ n [] = tt
numbers-differ {A} n (x ∷ xs) = (
  all-map (λ (i : ℕ × A). n + 1 ≤ i.0) (λ (i : ℕ × A). n ≢ i.0) (enumerate_from (n + 1) xs)
      (λ i le same. absurd (omega arith)) (numbers-from (n + 1) (n + 1) xs (omega arith)),
  numbers-differ (n + 1) xs,
)

-- entries of rules

same-left : (i j : Option ℕ) (a b : MatchOf) → by_port i a ≡ by_port j b → a.in_port ≡ b.in_port → a ≡ b
same-left i j a b e f = λ k. record (e k) { in_port = f k }

overlap-of : (spread : Bool) (a b m n : MatchOf) → left_of spread a ≡ Some m → left_of spread b ≡ Some n → m ≡ n
    → overlaps a b ≡ true
overlap-of spread a b m n e f same =
    let w = overlapping m m (overlaps_self m) in
    let u = left-holds spread a m w.header e w.left in
    let v = left-holds spread b n w.header f (subst (λ (z : MatchOf). holds z w.header ≡ true) same w.left) in
    (meet_there a b w.header u v).1

module _ (w : Wiring) (site : Site) where
  leaves-of : (r : Rule) (d : PhysEntry) → entry_of w site (flat r) ≡ Some d → d.ancestry ≡ r.ancestry
  leaves-of r d e = ap (λ (z : PhysEntry). z.ancestry)
      (sym (mapped (entry_with w site (flat r)) (match_written w site (flat r)) d e).is)

  -- of disjoint rules that name one port
  rules-apart : (r q : Rule) (d e : PhysEntry) → AreDisjoint r q → entry_of w site (flat r) ≡ Some d
      → entry_of w site (flat q) ≡ Some e
      → ((m n : MatchOf) → left_of site.spread r.m ≡ Some m → left_of site.spread q.m ≡ Some n
      → ingress_of w site (flat r) ≡ ingress_of w site (flat q) → m.in_port ≡ n.in_port) → Apart d e
  rules-apart r q d e apart f g ports t =
      let u = written w site (flat r) d f in
      let v = written w site (flat q) e g in
      let turned = sym u.m ∙ (t.m ∙ v.m) in
      let ingress = ap (λ (z : MatchOf). z.in_port) turned in
      let same = same-left (ingress_of w site (flat r)) (ingress_of w site (flat q)) u.left v.left turned
      (ports u.left v.left u.is_left v.is_left ingress) in
      let leaves = sym (leaves-of r d f) ∙ (t.ancestry ∙ leaves-of q e g) in
      true_not_false (sym (overlap-of site.spread r.m q.m u.left v.left u.is_left v.is_left same)
      ∙ apart.first ([], leaves ∙ add-none q.ancestry))

module _ (s : Setting) (good : IsSoundSetting s) (once : IsNamedOnce s) (switch : ℕ) where
  -- of a port's node
  node-apart : (v : ℕ) (x : SwitchOf) (p : ℕ) → EachPair Apart (entries s good switch v x (at_node s good v p))
  node-apart v x p =
      pairs-filter_map AreDisjoint Apart (Names p) (λ r. entry_of s.wiring (site_at switch v x) (flat r))
      (λ r q d e n m f g o. rules-apart s.wiring (site_at switch v x) r q d e o f g
      (λ a b h k _. left-port x.spread r.m a p h n ∙ sym (left-port x.spread q.m b p k m)))
      (node (fabric_of s.network) s.hops v p) (all-name s.network s.hops v p good.hops)
      (nodes-are-disjoint s.network once.policies s.hops v p)

  -- an entry of a port
  record OfPort (v p : ℕ) (d : PhysEntry) : Type 0 where
    o : Outside
    at : outside_at s.wiring v p ≡ Some o
    here : o.at.switch ≡ switch
    names : d.m.in_port ≡ Some o.at.port

  port-entries : (v : ℕ) (x : SwitchOf) (p : ℕ) → Lies s.wiring switch v p
      → AllByRecursion (OfPort v p) (entries s good switch v x (at_node s good v p))
  port-entries v x p l =
      all-filter_map (Names p) (OfPort v p) (λ r. entry_of s.wiring (site_at switch v x) (flat r))
      (node (fabric_of s.network) s.hops v p)
      (λ r d e n. record {
        o = l.o;
        at = l.at;
        here = l.here;
        names =
            ap (λ (z : MatchOf). z.in_port) (written s.wiring (site_at switch v x) (flat r) d e).m ∙ rw (n, l.at) refl;
      })
      (all-name s.network s.hops v p good.hops)

  -- entries of two ports
  ports-apart : (v p u q : ℕ) (d e : PhysEntry) → ((v ≡ u) × (p ≡ q) → ⊥) → OfPort v p d → OfPort u q e → Apart d e
  ports-apart v p u q d e never a b t =
      never (good.placing.wiring.apart v p u q a.o b.o a.at b.at (a.here ∙ sym b.here)
      (some_injective (sym a.names ∙ (ap (λ (z : MatchOf). z.in_port) t.m ∙ b.names))))

  -- of a virtual switch that isn't whole
  module _ (v : ℕ) (x : SwitchOf) where
    abbrev place : Entering → List PhysEntry
    place en = placed s.wiring (site_at switch v x) x.outside en

    pairs-if : (b : Bool) (es : List PhysEntry) → (b ≡ true → EachPair Apart es) → EachPair Apart (if b then es else [])
    pairs-if true es f = f refl
    pairs-if false es f = tt

    record IsOfPort (en : Entering) : Type 0 where
      p : ℕ
      is : en ≡ at_node s good v p

    record OtherPorts (a b : Entering) : Type 0 where
      p : ℕ
      q : ℕ
      left : a ≡ at_node s good v p
      right : b ≡ at_node s good v q
      differ : (q == p) ≡ false

    placed-port : (p : ℕ) → AllByRecursion (OfPort v p) (place (at_node s good v p))
    placed-port p = placed-by s good (OfPort v p) (lies_on s.wiring switch v p)
        (entries s good switch v x (at_node s good v p)) (λ t. port-entries v x p (lies-where s.wiring switch v p t))

    placed-apart : (p : ℕ) → EachPair Apart (place (at_node s good v p))
    placed-apart p = pairs-if (lies_on s.wiring switch v p) (entries s good switch v x (at_node s good v p))
        (λ _. node-apart v x p)

    each-apart : (en : Entering) → IsOfPort en → EachPair Apart (place en)
    each-apart en g = subst (λ (z : Entering). EachPair Apart (place z)) (sym g.is) (placed-apart g.p)

    cross-ports : (p q : ℕ) → (q == p) ≡ false
        → AllByRecursion (λ d. AllByRecursion (Apart d) (place (at_node s good v q))) (place (at_node s good v p))
    cross-ports p q ne =
        all-map (OfPort v p) (λ d. AllByRecursion (Apart d) (place (at_node s good v q))) (place (at_node s good v p))
        (λ d a. all-map (OfPort v q) (Apart d) (place (at_node s good v q))
        (λ e b. ports-apart v p v q d e (λ same. true_not_false (sym (eq-eqb q p (sym same.1)) ∙ ne)) a b)
        (placed-port q)) (placed-port p)

    cross-entering : (a b : Entering) → OtherPorts a b
        → AllByRecursion (λ d. AllByRecursion (Apart d) (place b)) (place a)
    cross-entering a b o =
        subst (λ (z : Entering). AllByRecursion (λ d. AllByRecursion (Apart d) (place b)) (place z)) (sym o.left)
        (subst (λ (z : Entering). AllByRecursion (λ d. AllByRecursion (Apart d) (place z))
        (place (at_node s good v o.p))) (sym o.right) (cross-ports o.p o.q o.differ))

    part-apart : EachPair (λ p q. (q == p) ≡ false) x.outside
        → EachPair Apart (flat_map place (map (at_node s good v) x.outside))
    part-apart d =
        pairs-flat_map OtherPorts Apart IsOfPort place each-apart (λ a b _ _ o. cross-entering a b o)
        (map (at_node s good v) x.outside)
        (all-mapped (λ p. Unit {0}) IsOfPort (at_node s good v) x.outside (λ p _. record { p = p; is = refl })
        (all-each (λ p. Unit {0}) x.outside (λ p. tt)))
        (pairs-mapped (λ p q. (q == p) ≡ false) OtherPorts (λ p. Unit {0}) (at_node s good v)
        (λ p q _ _ ne. record { p = p; q = q; left = refl; right = refl; differ = ne }) x.outside
        (all-each (λ p. Unit {0}) x.outside (λ p. tt)) d)

    -- of one that is
    module _ (at : is_at s good v x) (whole : x.whole ≡ true) where
      lone : x.spread ≡ false
      lone = ((good.virtuals v x at).whole whole).lone

      abbrev ingress : Option ℕ → Option ℕ
      ingress i = option_and_then (λ p. option_map (λ (o : Outside). o.at.port) (outside_at s.wiring v p)) i

      abbrev Own : Option ℕ → Type 0
      Own i = IfSome i (λ p. has_port x.outside p ≡ true)

      some-port : (p : ℕ) → has_port x.outside p ≡ true → (o : Option Outside) → outside_at s.wiring v p ≡ o
          → None ≡ option_map (λ (o : Outside). o.at.port) o → ⊥
      some-port p has None e f = let t : is_some (outside_at s.wiring v p) ≡ true = good.placing.same v p
          ∙ (ap (λ z. has_port (outside_ports z) p) at ∙ has) in let g : is_some (outside_at s.wiring v p) ≡ false =
          ap (λ (z : Option Outside). is_some z) e in cc
      some-port p has (Some o) e f = cc

      one-port : (p q : ℕ) → has_port x.outside p ≡ true → has_port x.outside q ≡ true → (a b : Option Outside)
          → outside_at s.wiring v p ≡ a → outside_at s.wiring v q ≡ b
          → option_map (λ (o : Outside). o.at.port) a ≡ option_map (λ (o : Outside). o.at.port) b → p ≡ q
      one-port p q f g None b e k same = absurd (some-port p f None e refl)
      one-port p q f g (Some a) None e k same = absurd (some-port q g None k refl)
      one-port p q f g (Some a) (Some b) e k same =
          let there = good.placing.together v v p q a b (ap (λ z. switch_spread z) at ∙ lone) at_once e k in
          (good.placing.wiring.apart v p v q a b e k there (some_injective same)).1

      same-port : (i j : Option ℕ) → Own i → Own j → ingress i ≡ ingress j → i ≡ j
      same-port None None f g e = refl
      same-port None (Some q) f g e = absurd (some-port q g (outside_at s.wiring v q) refl e)
      same-port (Some p) None f g e = absurd (some-port p f (outside_at s.wiring v p) refl (sym e))
      same-port (Some p) (Some q) f g e =
          ap Some (one-port p q f g (outside_at s.wiring v p) (outside_at s.wiring v q) refl refl e)

      whole-entries : EachPair Apart (entries s good switch v x (at_all s good x))
      whole-entries =
          pairs-filter_map AreDisjoint Apart (RuleKeeps x.outside)
          (λ r. entry_of s.wiring (site_at switch v x) (flat r))
          (λ r q d e n m f g o.
          rules-apart s.wiring (site_at switch v x) r q d e o f g (λ a b h k same.
          let a' : r.m ≡ a = left-all x.spread r.m a lone h in
          let b' : q.m ≡ b = left-all x.spread q.m b lone k in
          sym (ap (λ (z : MatchOf). z.in_port) a')
          ∙ (same-port r.m.in_port q.m.in_port n m same ∙ ap (λ (z : MatchOf). z.in_port) b')))
          (switch_rules s.network.tables (Some x)) (keeps s good v x at whole)
          (rules-are-disjoint s.network.tables (ports_of x) x.expr (once.policies v x at))

    whole-apart : is_at s good v x → x.whole ≡ true → EachPair Apart (flat_map place (at_all s good x ∷ []))
    whole-apart at whole =
        pairs-append Apart (place (at_all s good x)) []
        (pairs-if (stands_on s.wiring switch v x.outside) (entries s good switch v x (at_all s good x))
        (λ _. whole-entries at whole)) tt
        (all-each (λ d. AllByRecursion (Apart d) []) (place (at_all s good x)) (λ d. tt))

    switch-apart : is_at s good v x → (b : Bool) → x.whole ≡ b → EachPair Apart (entries_for s switch (v, x))
    switch-apart at true e = subst (λ (es : List Entering). EachPair Apart (flat_map place es))
        (sym (entering-whole s good v x e)) (whole-apart at e)
    switch-apart at false e = subst (λ (es : List Entering). EachPair Apart (flat_map place es))
        (sym (entering-part s good v x e)) (part-apart (good.virtuals v x at).distinct)

  -- where entries of a virtual switch come from
  record AnyPort (v : ℕ) (d : PhysEntry) : Type 0 where
    p : ℕ
    of : OfPort v p d

  record AllPorts (v : ℕ) : Type 0 where
    x : SwitchOf
    is : is_at s good v x
    whole : x.whole ≡ true
    p : ℕ
    o : Outside
    at : outside_at s.wiring v p ≡ Some o
    here : o.at.switch ≡ switch

  abbrev From : ℕ → PhysEntry → Type 0
  From v d = AnyPort v d ⊎ AllPorts v

  all-from : (v : ℕ) (x : SwitchOf) → is_at s good v x → AllByRecursion (From v) (entries_for s switch (v, x))
  all-from v x at =
      for-any s good (From v) switch v x x.whole refl
      (λ p _ l. all-map (OfPort v p) (From v) (entries s good switch v x (at_node s good v p))
      (λ d a. inl (record { p = p; of = a })) (port-entries v x p l))
      (λ t l. all-each (From v) (entries s good switch v x (at_all s good x))
      (λ d. inr
      (record { x = x; is = at; whole = t; p = l.port; o = l.lies.o; at = l.lies.at; here = l.lies.here })))

  alone : (v u p : ℕ) (o : Outside) → v ≢ u → AllPorts v → outside_at s.wiring u p ≡ Some o → o.at.switch ≡ switch → ⊥
  alone v u p o ne a at here =
      ne (sym (((good.virtuals v a.x a.is).whole a.whole).alone u a.p p a.o o a.at at (a.here ∙ sym here)))

  others-apart : (v u : ℕ) (d e : PhysEntry) → v ≢ u → From v d → From u e → Apart d e
  others-apart v u d e ne (inl a) (inl b) t = ports-apart v a.p u b.p d e (λ same. ne same.0) a.of b.of t
  others-apart v u d e ne (inl a) (inr b) t = alone u v a.p a.of.o (λ same. ne (sym same)) b a.of.at a.of.here
  others-apart v u d e ne (inr a) (inl b) t = alone v u b.p b.of.o ne a b.of.at b.of.here
  others-apart v u d e ne (inr a) (inr b) t = alone v u b.p b.o ne a b.at b.here

  ruled-apart : EachPair Apart (ruled s good switch)
  ruled-apart =
      pairs-flat_map (λ (i j : ℕ × SwitchOf). i.0 ≢ j.0) Apart (λ (i : ℕ × SwitchOf). is_at s good i.0 i.1)
      (entries_for s switch)
      (λ i at. switch-apart i.0 i.1 at i.1.whole refl)
      (λ i j f g ne. all-map (From i.0) (λ d. AllByRecursion (Apart d) (entries_for s switch j))
      (entries_for s switch i)
      (λ d a. all-map (From j.0) (Apart d) (entries_for s switch j) (λ e b. others-apart i.0 j.0 d e ne a b)
      (all-from j.0 j.1 g)) (all-from i.0 i.1 f))
      (enumerate_from 0 s.network.switches) (all-numbered s.network.switches) (numbers-differ 0 s.network.switches)

  -- priorities

  record IsRuled (d : PhysEntry) : Type 0 where
    above : 0 < d.priority
    below : d.priority < 65535

  abbrev LowLeft : ℕ → SwitchOf → Rule → Type 0
  LowLeft v x r = (m : MatchOf) → left_of x.spread r.m ≡ Some m → r.level < hop_size (fabric_of s.network) s.hops v

  ruled-by : (v : ℕ) (x : SwitchOf) (en : Entering) → AllByRecursion (LowLeft v x) en.rules
      → AllByRecursion IsRuled (entries s good switch v x en)
  ruled-by v x en low =
      all-filter_map (LowLeft v x) IsRuled (λ r. entry_of s.wiring (site_at switch v x) (flat r)) en.rules
      (λ r d u f.
      let t = written s.wiring (site_at switch v x) (flat r) d u in
      let lt : r.level < hop_size (fabric_of s.network) s.hops v = f t.left t.is_left in
      let p : d.priority ≡ r.level + 1 = t.priority in
      let size = good.sizes v in
      record { above = omega arith; below = omega arith }) low

  all-ranked : AllByRecursion IsRuled (ruled s good switch)
  all-ranked =
      all-ruled s good IsRuled switch (λ v x e. for-any s good IsRuled switch v x x.whole refl
      (λ q has _. ruled-by v x (at_node s good v q) (all-below s.network good.network s.hops v x e q has good.hops))
      (λ t at. ruled-by v x (at_all s good x)
      (all-map (rules.Below (hop_size (fabric_of s.network) s.hops v)) (LowLeft v x) (at_all s good x).rules
      (λ r lt m _. lt)
      (whole-below s.network good.network v x e (keeps s good v x e t) at.port at.has s.hops good.hops
      ((good.virtuals v x e).whole t).links))))

  abbrev AtEnd : PhysEntry → Type 0
  AtEnd d = (d.priority ≡ 0) ⊎ (d.priority ≡ 65535)

  all-ends : AllByRecursion AtEnd (fixed_at s switch)
  all-ends = all-fixed s AtEnd switch (all-guards s good AtEnd switch (λ o _ _. inl refl))
      (all-transits s good AtEnd switch (λ o _ t p _ _. inr refl)) (all-dropping s good AtEnd switch (λ p _. inr refl))

  end-apart : (d e : PhysEntry) → IsRuled d → AtEnd e → Apart d e
  end-apart d e a (inl b) t = let p = t.priority in let q = a.above in absurd (omega arith)
  end-apart d e a (inr b) t = let p = t.priority in let q = a.below in absurd (omega arith)

  -- fixed entries

  record IsGuard (o : Outside) : Type 0 where
    found : IsFound s.wiring.outside o
    here : o.at.switch ≡ switch

  guards-apart : EachPair Apart (guards s.wiring switch)
  guards-apart =
      pairs-mapped (λ (a b : Outside). is_port b a ≡ false) Apart IsGuard guard
      (λ a b f g ne t.
      let same = good.placing.wiring.apart a.v a.port b.v b.port a b f.found g.found (f.here ∙ sym g.here)
      (some_injective (ap (λ (z : MatchOf). z.in_port) t.m)) in
      let there : is_port b a ≡ true = rw (eq-eqb b.v a.v (sym same.0), eq-eqb b.port a.port (sym same.1)) refl in cc)
      (filter (is_guarded switch) s.wiring.outside)
      (all-map (λ (o : Outside). IsFound s.wiring.outside o × (is_guarded switch o ≡ true)) IsGuard
      (filter (is_guarded switch) s.wiring.outside)
      (λ o g. record {
        found = g.0;
        here = eqb-true o.at.switch switch (split_and (o.at.switch == switch) (is_some o.tag) g.1).0;
      })
      (all-zip (IsFound s.wiring.outside) (λ o. is_guarded switch o ≡ true)
      (filter (is_guarded switch) s.wiring.outside)
      (all-filter (IsFound s.wiring.outside) (is_guarded switch) s.wiring.outside
      (all-found s.wiring.outside good.placing.once)) (all-passing (is_guarded switch) s.wiring.outside)))
      (pairs-filter (λ (a b : Outside). is_port b a ≡ false) (is_guarded switch) s.wiring.outside good.placing.once)

  -- a transit entry carries the tag of its port
  record Carries (o : Outside) (d : PhysEntry) : Type 0 where
    t : ℕ
    tag : o.tag ≡ Some t
    names : d.m.dl_vlan ≡ Some t

  here-once : EachPair (λ (a b : SwitchPort). same_spot b a ≡ false) (ends_at switch s.wiring.cables)
  here-once =
      subst (λ (xs : List SwitchPort). EachPair (λ (a b : SwitchPort). same_spot b a ≡ false) xs)
      (sym (ends-as switch s.wiring.cables))
      (pairs-filter (λ (a b : SwitchPort). same_spot b a ≡ false) (λ (q : SwitchPort). q.switch == switch)
      (cable_ends s.wiring.cables) good.placing.one_cable)

  one-goal : (o : Outside) (t : Option ℕ)
      → EachPair Apart
      (flat_map (λ (tag : ℕ). map (λ (p : SwitchPort). transit s.wiring p o tag)
      (filter (λ (p : SwitchPort). passes s.wiring p o) (ends_at switch s.wiring.cables))) (option_to_list t))
  one-goal o None = tt
  one-goal o (Some t) =
      pairs-append Apart (map (λ (p : SwitchPort). transit s.wiring p o t)
      (filter (λ (p : SwitchPort). passes s.wiring p o) (ends_at switch s.wiring.cables))) []
      (pairs-mapped (λ (a b : SwitchPort). same_spot b a ≡ false) Apart (IsEndHere s switch)
      (λ (p : SwitchPort). transit s.wiring p o t)
      (λ a b f g ne u.
      let port : a.port ≡ b.port = some_injective (ap (λ (z : MatchOf). z.in_port) u.m) in
      let there : same_spot b a ≡ true = rw (eq-eqb b.switch a.switch (g.1 ∙ sym f.1), eq-eqb b.port a.port (sym port))
      refl in cc)
      (filter (λ (p : SwitchPort). passes s.wiring p o) (ends_at switch s.wiring.cables))
      (all-filter (IsEndHere s switch) (λ (p : SwitchPort). passes s.wiring p o) (ends_at switch s.wiring.cables)
      (all-ends-here s switch))
      (pairs-filter (λ (a b : SwitchPort). same_spot b a ≡ false) (λ (p : SwitchPort). passes s.wiring p o)
      (ends_at switch s.wiring.cables) here-once)) tt
      (all-each (λ d. AllByRecursion (Apart d) []) _ (λ d. tt))

  carried-by : (o : Outside) (t : Option ℕ) → o.tag ≡ t
      → AllByRecursion (Carries o)
      (flat_map (λ (tag : ℕ). map (λ (p : SwitchPort). transit s.wiring p o tag)
      (filter (λ (p : SwitchPort). passes s.wiring p o) (ends_at switch s.wiring.cables))) (option_to_list t))
  carried-by o None e = tt
  carried-by o (Some t) e =
      all-append (Carries o) (map (λ (p : SwitchPort). transit s.wiring p o t)
      (filter (λ (p : SwitchPort). passes s.wiring p o) (ends_at switch s.wiring.cables))) []
      (all-mapped (λ (p : SwitchPort). Unit {0}) (Carries o) (λ (p : SwitchPort). transit s.wiring p o t)
      (filter (λ (p : SwitchPort). passes s.wiring p o) (ends_at switch s.wiring.cables))
      (λ p _. record { t = t; tag = e; names = refl }) (all-each (λ (p : SwitchPort). Unit {0}) _ (λ p. tt))) tt

  goals-apart : (a b : Outside) (d e : PhysEntry) → is_port b a ≡ false → IsFound s.wiring.outside a
      → IsFound s.wiring.outside b → Carries a d → Carries b e → Apart d e
  goals-apart a b d e ne f g c k u =
      let t : c.t ≡ k.t = some_injective (sym c.names ∙ (ap (λ (z : MatchOf). z.dl_vlan) u.m ∙ k.names)) in
      let same = good.placing.own_tags a.v a.port b.v b.port c.t a b f g c.tag (k.tag ∙ ap Some (sym t)) in
      let there : is_port b a ≡ true = rw (eq-eqb b.v a.v (sym same.0), eq-eqb b.port a.port (sym same.1)) refl in cc

  transits-apart : EachPair Apart (transits s.wiring switch)
  transits-apart =
      pairs-flat_map (λ (a b : Outside). is_port b a ≡ false) Apart (IsFound s.wiring.outside)
      (transits_to s.wiring switch) (λ o _. one-goal o o.tag)
      (λ a b f g ne. all-map (Carries a) (λ d. AllByRecursion (Apart d) (transits_to s.wiring switch b))
      (transits_to s.wiring switch a)
      (λ d c. all-map (Carries b) (Apart d) (transits_to s.wiring switch b) (λ e k. goals-apart a b d e ne f g c k)
      (carried-by b b.tag refl)) (carried-by a a.tag refl))
      s.wiring.outside (all-found s.wiring.outside good.placing.once) good.placing.once

  drops-apart : (b : Bool) → EachPair Apart (if b then drops s.wiring switch (ports_at s switch) else [])
  drops-apart false = tt
  drops-apart true =
      pairs-mapped (λ p q. (q == p) ≡ false) Apart (λ p. Unit {0}) drop_entry
      (λ p q _ _ ne t. true_not_false (sym (eq-eqb q p (sym (some_injective (ap (λ (z : MatchOf). z.in_port) t.m))))
      ∙ ne))
      (filter (λ (p : ℕ). not (is_outside s.wiring switch p)) (ports_at s switch))
      (all-each (λ p. Unit {0}) _ (λ p. tt))
      (pairs-filter (λ p q. (q == p) ≡ false) (λ (p : ℕ). not (is_outside s.wiring switch p)) (ports_at s switch)
      (once.ports switch))

  -- the priority, and whether a tag is named
  abbrev Lowest : PhysEntry → Type 0
  Lowest d = d.priority ≡ 0

  abbrev Highest : PhysEntry → Type 0
  Highest d = d.priority ≡ 65535

  abbrev Tagged : PhysEntry → Type 0
  Tagged d = is_some d.m.dl_vlan ≡ true

  abbrev Untagged : PhysEntry → Type 0
  Untagged d = is_some d.m.dl_vlan ≡ false

  crossing : (P Q : PhysEntry → Type 0) (xs ys : List PhysEntry) → ((d e : PhysEntry) → P d → Q e → Apart d e)
      → AllByRecursion P xs → AllByRecursion Q ys → AllByRecursion (λ d. AllByRecursion (Apart d) ys) xs
  crossing P Q xs ys f p q = all-map P (λ d. AllByRecursion (Apart d) ys) xs
      (λ d a. all-map Q (Apart d) ys (λ e b. f d e a b) q) p

  guards-transits : EachPair Apart (guards s.wiring switch ++ transits s.wiring switch)
  guards-transits =
      pairs-append Apart (guards s.wiring switch) (transits s.wiring switch) guards-apart transits-apart
      (crossing Lowest Highest (guards s.wiring switch) (transits s.wiring switch)
      (λ d e a b t. let p = t.priority in absurd (omega arith))
      (all-guards s good Lowest switch (λ o _ _. refl)) (all-transits s good Highest switch (λ o _ t p _ _. refl)))

  fixed-apart : EachPair Apart (fixed_at s switch)
  fixed-apart =
      pairs-append Apart (guards s.wiring switch ++ transits s.wiring switch) (dropping s switch) guards-transits
      (drops-apart (is_whole s switch))
      (crossing (λ d. Lowest d ⊎ Tagged d) (λ e. Highest e × Untagged e)
      (guards s.wiring switch ++ transits s.wiring switch) (dropping s switch) not-drop
      (all-append (λ d. Lowest d ⊎ Tagged d) (guards s.wiring switch) (transits s.wiring switch)
      (all-guards s good (λ d. Lowest d ⊎ Tagged d) switch (λ o _ _. inl refl))
      (all-transits s good (λ d. Lowest d ⊎ Tagged d) switch (λ o _ t p _ _. inr refl)))
      (all-dropping s good (λ e. Highest e × Untagged e) switch (λ p _. (refl, refl))))
    where
      not-drop : (d e : PhysEntry) → Lowest d ⊎ Tagged d → Highest e × Untagged e → Apart d e
      not-drop d e (inl a) b t = let p = t.priority in let q = b.0 in absurd (omega arith)
      not-drop d e (inr a) b t = true_not_false (sym a ∙ (ap (λ (z : MatchOf). is_some z.dl_vlan) t.m ∙ b.1))

  all-apart : EachPair Apart (entries_of s switch)
  all-apart = pairs-append Apart (ruled s good switch) (fixed_at s switch) ruled-apart fixed-apart
      (crossing IsRuled AtEnd (ruled s good switch) (fixed_at s switch) end-apart all-ranked all-ends)

-- as a test

twins-test : (d e : PhysEntry) → (same_key d e && pointwise same_leaf d.ancestry e.ancestry) ≡ true → Twins d e
twins-test d e t =
    let a = split_and (same_key d e) (pointwise same_leaf d.ancestry e.ancestry) t in
    let b = split_and (same_match d.m e.m) (d.priority == e.priority) a.0 in
    record {
      m = (match_decides d.m e.m).0 b.0;
      priority = eqb-true d.priority e.priority b.1;
      ancestry = (pointwise_decides leaf_decides d.ancestry e.ancestry).0 a.1;
    }

distinct : (xs : List PhysEntry) → EachPair Apart xs
    → IsDistinct (λ (d : PhysEntry) (e : PhysEntry). same_key d e && pointwise same_leaf d.ancestry e.ancestry) xs
unfolding IsDistinct
distinct [] p = tt
distinct (d ∷ ds) p = (
  all-map (Apart d) (λ e. (same_key d e && pointwise same_leaf d.ancestry e.ancestry) ≡ false) ds
      (λ e never. fails (same_key d e && pointwise same_leaf d.ancestry e.ancestry) (λ t. never (twins-test d e t)))
      p.0,
  distinct ds p.1,
)

pub no-twins : NoTwins
no-twins s good once switch = distinct (entries_of s switch) (all-apart s good once switch)

pub one-entry-a-key : OneEntryAKey
one-entry-a-key s good once switch = installed-has-one-a-key (entries_of s switch) (no-twins s good once switch)
