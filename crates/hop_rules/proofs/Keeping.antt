-- A change of the rules of a virtual switch goes through all parts of a table.
use Rattle.std.proofs.Common.{◌≡◌, ℕ, zero, suc, ◌+◌, ◌<◌, ◌^◌, Bool, true, false, ◌==◌, ◌≢◌, List, [], ◌∷◌, ◌++◌, refl}
use Rattle.std.proofs.Common.{sym, ap, ◌∙◌, subst, length, get_or, set, map, arith}
use Rattle.std.specs.Prelude.{IsPermutation, if◌then◌else◌}
use Rattle.std.specs.List.{AllByRecursion}
use Rattle.std.proofs.lemmas.List.{get_or-set_same, get_or-set_other, length-set}
use Rattle.std.proofs.lemmas.List.Sorted.{IsPermutation-refl, IsPermutation-sym}
use Rattle.list_change.specs.Changes.{Changed}
use Rattle.list_change.proofs.Permute.{by-equation}
use Rattle.policy_meaning.specs.Hops.{Fabric, node}
use Rattle.policy_meaning.specs.declared.rule.Rule.{Rule}
use Rattle.policy_meaning.proofs.Rising.{all-permuted}
use Rattle.rule_ancestry.specs.Holding.{Held, item_of}
use Rattle.made_rules.specs.declared.made.Made.{Made}
use Rattle.hop_rules.specs.Climbing.{HasClimbed, IsBelow, IsHandedOver, came_to}
use Rattle.hop_rules.specs.Handed.{AreListed, AreUnlisted, GivenOf}
use Rattle.hop_rules.specs.Kept.{IsKept, IsThrough, with_rules}
use Rattle.hop_rules.specs.Levels.{AreMade, IsGiven, IsMade, IsMadeAt, IsRow, given_at, none_given, stand_at}
use Rattle.hop_rules.specs.Links.{ends}
use Rattle.hop_rules.specs.Nodes.{IsMadeOf, IsOwn, NodeOf, held_at}
use Rattle.hop_rules.specs.Tables.{IsHanded, MayCome, TableOf, fabric, rules_at}
use Rattle.hop_rules.specs.Telling.{rules_held}
use Rattle.hop_rules.specs.Turns.{Hands, IsOwnTurn, IsTold, come_at, gone_at, no_turn}
use Rattle.hop_rules.specs.Under.{Rises, under}
use Rattle.hop_rules.specs.declared.exits.Exit.{Exit}
use Rattle.hop_rules.specs.declared.exits.LinkEnd.{LinkEnd}
use Rattle.hop_rules.specs.declared.level.Event.{Event}
use Rattle.hop_rules.specs.declared.level.Level.{Level}
use Rattle.hop_rules.specs.declared.level.Stand.{Stand}
use Rattle.hop_rules.specs.declared.level.Told.{Told}
use Rattle.hop_rules.specs.declared.node.Turn.{Turn}
use Rattle.hop_rules.specs.declared.parts.Parts.{Parts}
use Rattle.hop_rules.proofs.Changes.{changed-as, still-told, turned-items}
use Rattle.hop_rules.proofs.Names.{is-same, itself}
use Rattle.hop_rules.proofs.Numbering.{all-joined, map-at}
use Rattle.hop_rules.proofs.Stages.{row-of, same-size, scratch-of}
use Rattle.hop_rules.proofs.Turns.{came-under}

-- ---- what is so of the second part of a list
all-second : {X : Type 0} (P : X → Type 0) (xs ys : List X) → AllByRecursion P (xs ++ ys) → AllByRecursion P ys
all-second P [] ys a = a
all-second P (x ∷ xs) ys a = all-second P xs ys a.1

pub differ : (u v : ℕ) → (u == v) ≡ false → u ≢ v
differ u v e s = absurd (let h : true ≡ false = sym (itself v) ∙ ap (λ k. k == v) (sym s) ∙ e in cc)

-- what one that is put in has as the one before, all have as before
pub set-as : {Y : Type 0} (F : GivenOf → Y) (gs : List GivenOf) (v : ℕ) (g : GivenOf) → v < length gs
    → F g ≡ F (given_at gs v) → (u : ℕ) → F (given_at (set gs v g) u) ≡ F (given_at gs u)
set-as {Y} F gs v g lt e u = by (u == v) refl
  where
    by : (t : Bool) → (u == v) ≡ t → F (given_at (set gs v g) u) ≡ F (given_at gs u)
    by true d = subst (λ (w : ℕ). F (given_at (set gs v g) w) ≡ F (given_at gs w)) (sym (is-same u v d))
        (ap F (get_or-set_same gs v g none_given lt) ∙ e)
    by false d = ap F (get_or-set_other gs v u g none_given (differ u v d))

-- ---- handing over
-- of other virtual switches nothing changed
still-own : (g : GivenOf) → Rises g.rules → AreListed g g.rules → IsOwnTurn g.rules g no_turn
still-own g up listed = record {
  turned = record {
    going = [];
    coming = [];
    kept = g.rules;
    was = IsPermutation-refl _;
    is = IsPermutation-refl _;
    gone_are = refl;
    come_are = refl;
  };
  rising = up;
  risen = up;
  listed = listed;
}

module _ (old : List GivenOf) (v : ℕ) (g : GivenOf) (lt : v < length old) (listed : (u : ℕ)
    → AreListed (given_at old u) (given_at old u).rules) (rising : (u : ℕ) → Rises (given_at old u).rules) where
  here : given_at (set old v g) v ≡ g
  here = get_or-set_same old v g none_given lt

  other : (u : ℕ) → (u == v) ≡ false → given_at (set old v g) u ≡ given_at old u
  other u e = get_or-set_other old v u g none_given (differ u v e)

  module _ (gone come : List Rule) (turn : Turn) (h : Hands (given_at old v) g gone come turn) where
    own-turn : (u : ℕ) (t : Bool) → (u == v) ≡ t
        → IsOwnTurn (given_at old u).rules (given_at (set old v g) u) (if t then turn else no_turn)
    own-turn u true e =
        let same : v ≡ u = sym (is-same u v e) in
        subst (λ (k : ℕ). IsOwnTurn (given_at old k).rules (given_at (set old v g) k) turn) same
        (subst (λ (x : GivenOf). IsOwnTurn (given_at old v).rules x turn) (sym here) h.own)
    own-turn u false e = subst (λ (x : GivenOf). IsOwnTurn (given_at old u).rules x no_turn) (sym (other u e))
        (still-own (given_at old u) (rising u) (listed u))

    own-exits : (u : ℕ) (t : Bool) → (u == v) ≡ t → (given_at (set old v g) u).exits ≡ (given_at old u).exits
    own-exits u true e =
        let same : v ≡ u = sym (is-same u v e) in
        subst (λ (k : ℕ). (given_at (set old v g) k).exits ≡ (given_at old k).exits) same
        (ap (λ (x : GivenOf). x.exits) here ∙ h.exits)
    own-exits u false e = ap (λ (x : GivenOf). x.exits) (other u e)

    pub hands-over : IsHandedOver old (set old v g) v gone come (record { v = v; turn = turn; still = no_turn })
    hands-over = record {
      hands = subst (λ (x : GivenOf). Hands (given_at old v) x gone come turn) (sym here) h;
      at = refl;
      still = refl;
      event = record {
        each = λ u. own-turn u (u == v) refl;
        exits = λ u. own-exits u (u == v) refl;
        count = length-set old v g;
      };
      others = other;
    }

-- those that came aren't listed
pub unlisted : (old new : List GivenOf) (v : ℕ) (gone come : List Rule) (e : Event) → IsHandedOver old new v gone come e
    → AreUnlisted (given_at new e.v) e.turn.come
unlisted old new v gone come e h =
    let o = h.hands.own in
    subst (λ (k : ℕ). AreUnlisted (given_at new k) e.turn.come) (sym h.at)
    (record {
      coming = o.turned.coming;
      kept = o.turned.kept;
      all = o.turned.is;
      ids_are = o.turned.come_are;
      listed = o.listed;
    })

-- ---- the levels of others that are the same but for what is listed
module _ (gs hs : List GivenOf) (rules : (u : ℕ) → (given_at hs u).rules ≡ (given_at gs u).rules) (exits : (u : ℕ)
    → (given_at hs u).exits ≡ (given_at gs u).exits) (count : length hs ≡ length gs) where
  made-at-as : (below : List NodeOf) (s : Stand) (held : List (Held Made)) → IsMadeAt gs below s held
      → IsMadeAt hs below s held
  made-at-as below s held m =
      subst (λ (xs : List Exit). IsMadeOf s.at s.size xs (given_at hs s.at.v).rules below held) (sym (exits s.at.v))
      (subst (λ (xs : List (Held Rule)). IsMadeOf s.at s.size (given_at gs s.at.v).exits xs below held)
      (sym (rules s.at.v)) m)

  is-made-as : (f : Fabric) (n : ℕ) (below : List NodeOf) (l : Level) → IsMade f n gs below l → IsMade f n hs below l
  is-made-as f n below l m = record {
    count = m.count;
    there = subst (λ (k : ℕ). AllByRecursion (λ (s : Stand). s.at.v < k) l.stands) (sym count) m.there;
    sizes = m.sizes;
    made = λ k lt. made-at-as below (stand_at l.stands k) (held_at l.nodes k) (m.made k lt);
  }

  pub are-made-as : (f : Fabric) (es : List LinkEnd) (ls : List Level) (n : ℕ) (below : List NodeOf) (top : Level)
      → AreMade f es n gs below ls top → AreMade f es n hs below ls top
  are-made-as f es [] n below top m = is-made-as f n below top m
  are-made-as f es (l ∷ ls) n below top m =
      ((is-made-as f n below l m.0.0, m.0.1), are-made-as f es ls (suc n) l.nodes top m.1)

-- ---- the ports at the top
module _ (f : Fabric) (es : List LinkEnd) (gs : List GivenOf) (g : IsGiven f es gs) where
  pub top-scratch : (ls : List Level) (n : ℕ) (below : List NodeOf) (row : IsRow f es n below) (top : Level)
      → AreMade f es n gs below ls top → (k : ℕ) → k < length top.stands →
      IsPermutation (rules_held (held_at top.nodes k))
      (node f (suc (n + length ls)) (stand_at top.stands k).at.v (stand_at top.stands k).at.port)
  top-scratch [] n below row top m k lt =
      subst (λ (i : ℕ). IsPermutation (rules_held (held_at top.nodes k))
      (node f i (stand_at top.stands k).at.v (stand_at top.stands k).at.port))
      (let h : suc n ≡ suc (n + 0) = omega arith in h) (scratch-of f es gs g n below row top m k lt)
  top-scratch (l ∷ ls) n below row top m k lt =
      subst (λ (i : ℕ). IsPermutation (rules_held (held_at top.nodes k))
      (node f i (stand_at top.stands k).at.v (stand_at top.stands k).at.port))
      (let h : suc (suc n + length ls) ≡ suc (n + suc (length ls)) = omega arith in h)
      (top-scratch ls (suc n) l.nodes (row-of f es gs g n below row l m.0.0 m.0.1) top m.1 k lt)

  pub top-count : (ls : List Level) (n : ℕ) (below : List NodeOf) (top : Level) → AreMade f es n gs below ls top
      → length top.nodes ≡ length top.stands
  top-count [] n below top m = m.count
  top-count (l ∷ ls) n below top m = top-count ls (suc n) l.nodes top m.1

-- ---- through all parts
still-turns : (turns : List Turn) → AllByRecursion (λ (t : Turn). t ≡ no_turn) turns → (k : ℕ)
    → no_turn ≡ record { gone = gone_at turns k; come = come_at turns k }
still-turns [] a k = refl
still-turns (t ∷ ts) a zero = sym a.0
still-turns (t ∷ ts) a (suc k) = still-turns ts a.1 k

module _ (t : TableOf) (old : Parts) (k : IsKept t old) (v : ℕ) (gone come : List Rule)
    (mays : AllByRecursion (MayCome t v) come) (new : List GivenOf) (e : Event)
    (h : IsHandedOver old.given new v gone come e) (final : List GivenOf)
    (rules : (u : ℕ) → (given_at final u).rules ≡ (given_at new u).rules) where
  abbrev t' : TableOf
  t' = with_rules t final

  rules-new : (u : ℕ) → rules_at t' u ≡ map item_of (given_at new u).rules
  rules-new u = map-at (λ (g : GivenOf). map item_of g.rules) none_given final u ∙ ap (map item_of) (rules u)

  rules-old : (u : ℕ) → rules_at t u ≡ map item_of (given_at old.given u).rules
  rules-old u = ap (λ (rs : List (List Rule)). get_or rs u []) k.rules
      ∙ map-at (λ (g : GivenOf). map item_of g.rules) none_given old.given u

  pub changed : Changed (rules_at t v) (rules_at t' v) gone come
  changed =
      let o = h.hands.own in
      let c = turned-items (given_at old.given v).rules (given_at new v).rules e.turn.gone e.turn.come o.turned in
      let a = changed-as _ _ (rules_at t v) (rules_at t' v) _ _ (by-equation _ _ (sym (rules-old v)))
      (by-equation _ _ (sym (rules-new v))) c in
      subst (λ (z : List Rule). Changed (rules_at t v) (rules_at t' v) gone z) h.hands.come_are
      (subst (λ (z : List Rule). Changed (rules_at t v) (rules_at t' v) z (map item_of o.turned.coming))
      h.hands.gone_are a)

  pub same-rules : (u : ℕ) → (u == v) ≡ false → rules_at t' u ≡ rules_at t u
  same-rules u d = rules-new u ∙ ap (λ (g : GivenOf). map item_of g.rules) (h.others u d) ∙ sym (rules-old u)

  pub is-handed : IsHanded t t' v gone come
  is-handed = record { rules = changed; others = same-rules; rest = refl }

  may-own : (rs : List Rule) → AllByRecursion (MayCome t v) rs → AllByRecursion (IsOwn ((fabric t).sizes v)) rs
  may-own [] a = tt
  may-own (r ∷ rs) a = (record { below = a.0.below; normal = a.0.normal }, may-own rs a.1)

  own-by : (u : ℕ) (b : Bool) → (u == v) ≡ b → AllByRecursion (IsOwn ((fabric t).sizes u)) (rules_at t' u)
  own-by u true d =
      let c = changed in
      let P = IsOwn ((fabric t).sizes v) in
      let kept = all-second P gone c.kept (all-permuted (rules_at t v) (gone ++ c.kept) c.was P (k.given.own v)) in
      let all = all-permuted (come ++ c.kept) (rules_at t' v) (IsPermutation-sym _ _ c.is) P
      (all-joined P come c.kept (may-own come mays) kept) in
      subst (λ (w : ℕ). AllByRecursion (IsOwn ((fabric t).sizes w)) (rules_at t' w)) (sym (is-same u v d)) all
  own-by u false d = subst (AllByRecursion (IsOwn ((fabric t).sizes u))) (sym (same-rules u d)) (k.given.own u)

  pub given-new : IsGiven (fabric t') (ends t.plan) new
  given-new = record {
    exits_are = λ u lt. h.event.exits u ∙ k.given.exits_are u (let c = h.event.count in omega arith);
    links = k.given.links;
    rules = λ u. by-equation _ _ (sym (rules-new u));
    own = λ u. own-by u (u == v) refl;
    peers = subst (λ (n : ℕ). AllByRecursion (λ (x : LinkEnd). x.peer.v < n) (ends t.plan)) (sym h.event.count)
        k.given.peers;
  }

  pub is-below : (turns : List Turn) → AllByRecursion (λ (u : Turn). u ≡ no_turn) turns
      → IsBelow (fabric t) (rules_at t') (ends t.plan) 0 old.given new old.last old.last old.levels old.top e turns
  is-below turns a = record {
    was = k.given;
    now = given-new;
    event = h.event;
    row_was = k.last;
    row = record { count = k.last.count; read = k.last.read; rules = k.last.rules };
    told =
        λ i lt. (
          [],
          subst (λ (u : Turn). IsTold (held_at old.last i) (held_at old.last i) u []) (still-turns turns a i)
              (still-told (held_at old.last i) (k.last_rising i)),
        );
    made = k.made;
    fits = λ m u le. k.fits m u (let x = k.hops in omega arith);
  }

  -- the rules that came: to this virtual switch these, to others none
  came-by : (u : ℕ) (b : Bool) → (u == v) ≡ b
      → map item_of (under (given_at new u).rules (if b then e.turn else e.still).come) ≡ (if b then come else [])
  came-by u true d =
      let o = h.hands.own in
      ap (λ (w : ℕ). map item_of (under (given_at new w).rules e.turn.come)) (is-same u v d)
      ∙ ap (map item_of) (came-under (given_at old.given v).rules (given_at new v).rules e.turn.gone e.turn.come
      o.turned o.risen) ∙ h.hands.come_are
  came-by u false d = ap (λ (w : Turn). map item_of (under (given_at new u).rules w.come)) h.still

  pub came-is : (u : ℕ) → came_to new e u ≡ (if u == v then come else [])
  came-is u = ap (λ (w : ℕ). map item_of (under (given_at new u).rules (if u == w then e.turn else e.still).come)) h.at
      ∙ came-by u (u == v) refl

  module _ (exits : (u : ℕ) → (given_at final u).exits ≡ (given_at new u).exits) (count : length final ≡ length new)
      (listed : AreListed (given_at final v) (given_at final v).rules) (others : (u : ℕ) → (u == v) ≡ false
      → given_at final u ≡ given_at new u) where
    listed-by : (u : ℕ) (b : Bool) → (u == v) ≡ b → AreListed (given_at final u) (given_at final u).rules
    listed-by u true d = subst (λ (w : ℕ). AreListed (given_at final w) (given_at final w).rules) (sym (is-same u v d))
        listed
    listed-by u false d = subst (λ (g : GivenOf). AreListed g g.rules) (sym (others u d ∙ h.others u d)) (k.listed u)

    pub is-through : (levels : List Level) (top : Level) (tolds : List Told) → length levels ≡ length old.levels →
        HasClimbed (fabric t) (rules_at t') (ends t.plan) 0 new old.last levels old.top top tolds →
        IsThrough t old (record { given = final; last = old.last; levels = levels; top = top }) v gone come tolds
    is-through levels top tolds many c =
        let all : length final ≡ length old.given = count ∙ h.event.count in
        record {
          kept = record {
            rules = refl;
            sizes = k.sizes ∙ sym all;
            whole = k.whole ∙ sym all;
            given = record {
              exits_are = λ u lt. exits u ∙ given-new.exits_are u (let x = count in omega arith);
              links = k.given.links;
              rules = λ u. by-equation _ _ (sym (map-at (λ (g : GivenOf). map item_of g.rules) none_given final u));
              own = λ u. own-by u (u == v) refl;
              peers = subst (λ (n : ℕ). AllByRecursion (λ (x : LinkEnd). x.peer.v < n) (ends t.plan)) (sym all)
                  k.given.peers;
            };
            rising = λ u. subst Rises (sym (rules u)) (h.event.each u).risen;
            listed = λ u. listed-by u (u == v) refl;
            last = record { count = k.last.count; read = k.last.read; rules = k.last.rules };
            last_rising = k.last_rising;
            made = are-made-as new final rules exits count (fabric t') (ends t.plan) levels 0 old.last top c.made;
            hops = ap suc many ∙ k.hops;
            ports = ap (map (λ (s : Stand). s.at)) c.stands ∙ k.ports;
            fits = λ n u le. subst (λ (m : ℕ). m < 2 ^ 64) (sym (same-size (fabric t) (rules_at t') n u))
                (k.fits n u le);
          };
          handed = is-handed;
          stands = c.stands;
          told = c.told;
        }
