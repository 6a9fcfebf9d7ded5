-- From level to level.
use Rattle.std.proofs.Common.{◌≡◌, ℕ, zero, suc, ◌+◌, ◌<◌, ◌≤◌, ◌^◌, List, [], ◌∷◌, refl, sym, ap, ◌∙◌, subst, length}
use Rattle.std.proofs.Common.{map, arith}
use Rattle.std.specs.Prelude.{sum_by}
use Rattle.std.specs.List.{AllByRecursion}
use Rattle.std.proofs.lemmas.List.{length-map}
use Rattle.std.proofs.lemmas.List.Sorted.{IsPermutation-refl}
use Rattle.policy_meaning.specs.Hops.{Fabric, hop_size, peers_size}
use Rattle.policy_meaning.specs.declared.network.Place.{Place}
use Rattle.policy_meaning.specs.declared.rule.Rule.{Rule}
use Rattle.hop_rules.specs.Climbing.{HasClimbed, IsBelow, came_to}
use Rattle.hop_rules.specs.Counts.{peers_came, row_steps, steps_from}
use Rattle.hop_rules.specs.Handed.{GivenOf}
use Rattle.hop_rules.specs.Levels.{AreMade, AreTold, AreTurnedAt, IsBetween, IsEvent, IsMade, IsReadyAt, IsToldAt}
use Rattle.hop_rules.specs.Levels.{IsTurned, node_cost, told_at}
use Rattle.hop_rules.specs.Nodes.{NodeOf, held_at}
use Rattle.hop_rules.specs.Turns.{IsTold, come_at, gone_at}
use Rattle.hop_rules.specs.declared.exits.LinkEnd.{LinkEnd}
use Rattle.hop_rules.specs.declared.level.Event.{Event}
use Rattle.hop_rules.specs.declared.level.Level.{Level}
use Rattle.hop_rules.specs.declared.level.Stand.{Stand}
use Rattle.hop_rules.specs.declared.level.Told.{Told}
use Rattle.hop_rules.specs.declared.node.Turn.{Turn}
use Rattle.hop_rules.proofs.Changes.{came-there}
use Rattle.hop_rules.proofs.Costs.{came_below, level-steps}
use Rattle.hop_rules.proofs.Counting.{peers-are, row-order}
use Rattle.hop_rules.proofs.Numbering.{reads}
use Rattle.hop_rules.proofs.Stages.{all-ready, all-turned, row-of, same-peers, same-size}

pub none-left : {X : Type 0} (xs : List X) → length xs ≡ 0 → xs ≡ []
none-left [] e = refl
none-left (x ∷ xs) e = absurd (omega arith)

-- the turns of what is told are what is told
turn-of : (tolds : List Told) (k : ℕ)
    → record {
      gone = gone_at (map (λ (t : Told). t.turn) tolds) k;
      come = come_at (map (λ (t : Told). t.turn) tolds) k;
    } ≡ (told_at tolds k).turn
turn-of [] zero = refl
turn-of [] (suc k) = refl
turn-of (t ∷ ts) zero = refl
turn-of (t ∷ ts) (suc k) = turn-of ts k

pub told-turns : (before after : List NodeOf) (tolds : List Told) (turns : List Turn)
    → turns ≡ map (λ (t : Told). t.turn) tolds → AreTold before after tolds → (k : ℕ) → k < length before
    → IsToldAt before after turns k
told-turns before after tolds turns e t k lt = (
  (told_at tolds k).left,
  subst (λ (ts : List Turn). IsTold (held_at before k) (held_at after k)
      (record { gone = gone_at ts k; come = come_at ts k }) (told_at tolds k).left) (sym e)
      (subst (λ (u : Turn). IsTold (held_at before k) (held_at after k) u (told_at tolds k).left)
      (sym (turn-of tolds k)) (t.each k lt)),
)

-- ---- sums of steps
less-by : (a b c d e : ℕ) → a ≤ b + c → c ≤ d → d ≡ e → a ≤ b + e
less-by a b c d e p q r = omega arith

less-more : (a b c d : ℕ) → a ≤ b + c → a ≤ b + (c + d)
less-more a b c d p = omega arith

less-both : (a b c d e : ℕ) → a ≤ b + c → e ≤ a + d → e ≤ b + (c + d)
less-both a b c d e p q = omega arith

-- the sizes are the same whatever the rules
sizes-as : (f : Fabric) (rules : ℕ → List Rule) (n : ℕ) (stands : List Stand)
    → AllByRecursion (λ (s : Stand). s.size ≡ peers_size (hop_size f n) (f.links s.at.v)) stands →
    AllByRecursion (λ (s : Stand). s.size ≡ peers_size (hop_size (record f { rules = rules }) n) (f.links s.at.v))
    stands
sizes-as f rules n [] a = tt
sizes-as f rules n (s ∷ stands) a = (a.0 ∙ sym (same-peers f rules n s.at.v), sizes-as f rules n stands a.1)

there-as : (old new : List GivenOf) → length new ≡ length old → (stands : List Stand)
    → AllByRecursion (λ (s : Stand). s.at.v < length old) stands
    → AllByRecursion (λ (s : Stand). s.at.v < length new) stands
there-as old new e stands a = subst (λ (n : ℕ). AllByRecursion (λ (s : Stand). s.at.v < n) stands) (sym e) a

module _ (f : Fabric) (rules : ℕ → List Rule) (es : List LinkEnd) (n : ℕ) (old new : List GivenOf)
    (before below : List NodeOf) (levels : List Level) (top : Level) (e : Event) (turns : List Turn)
    (b : IsBelow f rules es n old new before below levels top e turns) where
  abbrev now : Fabric
  now = record f { rules = rules }

  pub fits-next : (v : ℕ) → hop_size now (suc n) v < 2 ^ 64
  fits-next v = subst (λ (k : ℕ). k < 2 ^ 64) (sym (same-size f rules (suc n) v)) (b.fits (suc n) v (omega arith))

  -- a level that is next can change
  pub level-ready : (l : Level) → IsMade f n old before l → AllByRecursion (IsReadyAt new below) l.stands
  level-ready l m = all-ready now es new b.now n below b.row fits-next l.stands
      (there-as old new b.event.count l.stands m.there) (sizes-as f rules n l.stands m.sizes)

  pub level-turned : (l : Level) → IsMade f n old before l
      → AllByRecursion (AreTurnedAt new before below turns) l.stands
  level-turned l m = all-turned now es new b.now before below turns b.told l.stands
      (there-as old new b.event.count l.stands m.there)

  -- and is then made of what is there
  pub level-made : (l last : Level) (tolds : List Told) → IsMade f n old before l
      → IsTurned new below e turns l last tolds → IsMade now n new below last
  level-made l last tolds m t =
      let count : length last.nodes ≡ length l.nodes = sym (length-map last.nodes (λ (x : NodeOf). x.read))
      ∙ ap length t.nodes.read ∙ length-map l.nodes (λ (x : NodeOf). x.read) in
      let made : IsMade now n new below (record { stands = l.stands; nodes = last.nodes }) = record {
        count = count ∙ m.count;
        there = there-as old new b.event.count l.stands m.there;
        sizes = sizes-as f rules n l.stands m.sizes;
        made = λ k lt. t.nodes.made old before b.event (level-turned l m) k lt (m.made k lt);
      } in
      subst (λ (ss : List Stand). IsMade now n new below (record { stands = ss; nodes = last.nodes })) (sym t.stands)
      made

  -- what it takes, by what came
  pub level-cost : (l : Level) (s0 s1 : ℕ) → IsMade f n old before l
      → ((xs : List GivenOf) → IsEvent xs new e → s1 ≤ s0 + sum_by (node_cost new below e turns) l.stands) →
      s1 ≤ s0 + row_steps now es (came_to new e) n (peers_came f now es n) (map (λ (s : Stand). s.at) l.stands)
  level-cost l s0 s1 m t =
      let places = map (λ (s : Stand). s.at) l.stands in
      let there = came_below now es new b.now n below b.row e turns in
      less-by s1 s0 (sum_by (node_cost new below e turns) l.stands) (row_steps now es (came_to new e) n there places)
      (row_steps now es (came_to new e) n (peers_came f now es n) places) (t old b.event)
      (level-steps now es new b.now n below b.row e turns l.stands (there-as old new b.event.count l.stands m.there))
      (row-order now es n (came_to new e) (came_to new e) there (peers_came f now es n) (λ v. IsPermutation-refl _)
      (peers-are f now es n there (came-there f now es n before below turns b.row_was b.row b.told)) places)

  -- the last level
  pub top-was : levels ≡ [] → IsMade f n old before top
  top-was none = subst (λ (ls : List Level). AreMade f es n old before ls top) none b.made

  pub at-top : levels ≡ [] → (last : Level) (tolds : List Told) → IsTurned new below e turns top last tolds
      → HasClimbed f rules es n new below levels top last tolds
  at-top none last tolds t =
      subst (λ (ls : List Level). HasClimbed f rules es n new below ls top last tolds) (sym none)
      (record { made = level-made top last tolds (top-was none) t; stands = t.stands; told = t.nodes.told })

  pub top-cost : levels ≡ [] → (s0 s1 : ℕ)
      → ((xs : List GivenOf) → IsEvent xs new e → s1 ≤ s0 + sum_by (node_cost new below e turns) top.stands) →
      s1 ≤ s0 + steps_from f now es (came_to new e) (map (λ (s : Stand). s.at) top.stands) n (length levels)
  top-cost none s0 s1 t =
      subst (λ (ls : List Level). s1 ≤ s0 + steps_from f now es (came_to new e) (map (λ (s : Stand). s.at) top.stands) n
      (length ls)) (sym none)
      (level-cost top s0 s1 (top-was none) t)

-- a level between
module _ (f : Fabric) (rules : ℕ → List Rule) (es : List LinkEnd) (n : ℕ) (old new : List GivenOf)
    (before below : List NodeOf) (l : Level) (ls : List Level) (top : Level) (e : Event) (turns : List Turn)
    (b : IsBelow f rules es n old new before below (l ∷ ls) top e turns) where
  -- the steps where it ended with this level, and where it went on
  module _ (s0 s1 : ℕ) (t : (xs : List GivenOf) → IsEvent xs new e
      → s1 ≤ s0 + sum_by (node_cost new below e turns) l.stands) where
    between-cost : s1 ≤ s0 + row_steps (record f { rules = rules }) es (came_to new e) n
        (peers_came f (record f { rules = rules }) es n) (map (λ (x : LinkEnd). x.peer) es)
    between-cost =
        subst (λ (ps : List Place). s1 ≤ s0 + row_steps (record f { rules = rules }) es (came_to new e) n
        (peers_came f (record f { rules = rules }) es n) ps) b.made.0.1.peers
        (level-cost f rules es n old new before below (l ∷ ls) top e turns b l s0 s1 b.made.0.0 t)

    pub ended-cost : (outside : List Place)
        → s1 ≤ s0 + steps_from f (record f { rules = rules }) es (came_to new e) outside n (suc (length ls))
    ended-cost outside =
        let now = record f { rules = rules } in
        less-more s1 s0 (row_steps now es (came_to new e) n (peers_came f now es n) (map (λ (x : LinkEnd). x.peer) es))
        (steps_from f now es (came_to new e) outside (suc n) (length ls)) between-cost

    pub climbed-cost : (outside : List Place) (s2 : ℕ)
        → s2 ≤ s1 + steps_from f (record f { rules = rules }) es (came_to new e) outside (suc n) (length ls) →
        s2 ≤ s0 + steps_from f (record f { rules = rules }) es (came_to new e) outside n (suc (length ls))
    climbed-cost outside s2 more =
        let now = record f { rules = rules } in
        less-both s1 s0 (row_steps now es (came_to new e) n (peers_came f now es n) (map (λ (x : LinkEnd). x.peer) es))
        (steps_from f now es (came_to new e) outside (suc n) (length ls)) s2 between-cost more

-- the next level is then the one below
module _ (f : Fabric) (rules : ℕ → List Rule) (es : List LinkEnd) (n : ℕ) (old new : List GivenOf)
    (before below : List NodeOf) (l : Level) (ls : List Level) (top : Level) (e : Event) (turns : List Turn)
    (b : IsBelow f rules es n old new before below (l ∷ ls) top e turns) (then : Level) (tolds : List Told)
    (t : IsTurned new below e turns l then tolds) where
  between-as : IsBetween es then
  between-as = record {
    peers = ap (map (λ (s : Stand). s.at)) t.stands
        ∙ b.made.0.1.peers;
    read = reads l.nodes then.nodes t.nodes.read b.made.0.1.read;
  }

  made-as : IsMade (record f { rules = rules }) n new below then
  made-as = level-made f rules es n old new before below (l ∷ ls) top e turns b l then tolds b.made.0.0 t

  pub next-below : (next : List Turn) → next ≡ map (λ (t : Told). t.turn) tolds
      → IsBelow f rules es (suc n) old new l.nodes then.nodes ls top e next
  next-below next same =
      let row = row-of f es old b.was n before b.row_was l b.made.0.0 b.made.0.1 in
      record {
        was = b.was;
        now = b.now;
        event = b.event;
        row_was = row;
        row = row-of (record f { rules = rules }) es new b.now n below b.row then made-as between-as;
        told = λ k lt. told-turns l.nodes then.nodes tolds next same t.nodes.told k (let h = row.count in omega arith);
        made = b.made.1;
        fits = λ m v le. b.fits m v (omega arith);
      }

  -- all levels changed, where those above did
  pub climbed-on : (rest : List Level) (last : Level) (more : List Told)
      → HasClimbed f rules es (suc n) new then.nodes rest top last more
      → HasClimbed f rules es n new below (then ∷ rest) top last more
  climbed-on rest last more h = record { made = ((made-as, between-as), h.made); stands = h.stands; told = h.told }
