-- From the rules that were handed over and the nodes of some hops to the nodes of one hop more.
use Rattle.std.proofs.Common.{◌≡◌, ℕ, zero, suc, ◌*◌, ◌<◌, ◌^◌, List, refl, sym, ap, ◌∙◌, subst, length, get_or, map}
use Rattle.std.proofs.Common.{arith}
use Rattle.std.specs.Prelude.{IsPermutation}
use Rattle.std.specs.List.{AllByRecursion}
use Rattle.std.proofs.lemmas.List.{length-map}
use Rattle.policy_meaning.specs.Hops.{Fabric, hop_size, node, peers_size}
use Rattle.policy_meaning.specs.declared.network.Place.{Place}
use Rattle.policy_meaning.specs.declared.rule.Rule.{Rule}
use Rattle.rule_ancestry.specs.Holding.{Held, item_of}
use Rattle.made_rules.specs.Rules.{rules_in}
use Rattle.made_rules.specs.declared.made.Made.{Made}
use Rattle.hop_rules.specs.Handed.{GivenOf}
use Rattle.hop_rules.specs.Levels.{AreTurnedAt, IsBetween, IsGiven, IsMade, IsMadeAt, IsReadyAt, IsRow, IsToldAt}
use Rattle.hop_rules.specs.Levels.{given_at, no_stand, stand_at}
use Rattle.hop_rules.specs.Links.{exit_link, no_end, no_place, peer_at}
use Rattle.hop_rules.specs.Nodes.{IsMadeOf, IsOf, IsSetUp, NodeOf, Once, held_at}
use Rattle.hop_rules.specs.Turns.{IsTurnedAt}
use Rattle.hop_rules.specs.declared.exits.Exit.{Exit}
use Rattle.hop_rules.specs.declared.exits.LinkEnd.{LinkEnd}
use Rattle.hop_rules.specs.declared.level.Level.{Level}
use Rattle.hop_rules.specs.declared.level.Stand.{Stand}
use Rattle.hop_rules.specs.declared.node.Turn.{Turn}
use Rattle.hop_rules.proofs.Changing.{rules-are}
use Rattle.hop_rules.proofs.Linked.{exits-once}
use Rattle.hop_rules.proofs.Numbering.{IsExitOf, all-at, all-both, all-from, exits-there, map-at}
use Rattle.hop_rules.proofs.Scratch.{from-scratch}
use Rattle.hop_rules.proofs.Stage.{set-up}

-- how many levels there are doesn't hang on the rules
pub same-size : (f : Fabric) (rules : ℕ → List Rule) (n v : ℕ)
    → hop_size (record f { rules = rules }) n v ≡ hop_size f n v
same-size f rules zero v = refl
same-size f rules (suc n) v = ap (λ (w : ℕ → ℕ). f.sizes v * peers_size w (f.links v)) (λ i u. same-size f rules n u i)

pub same-peers : (f : Fabric) (rules : ℕ → List Rule) (n v : ℕ)
    → peers_size (hop_size (record f { rules = rules }) n) (f.links v) ≡ peers_size (hop_size f n) (f.links v)
same-peers f rules n v = ap (λ (w : ℕ → ℕ). peers_size w (f.links v)) (λ i u. same-size f rules n u i)

module _ (f : Fabric) (es : List LinkEnd) (gs : List GivenOf) (g : IsGiven f es gs) where
  pub links-at : (v : ℕ) → v < length gs → map exit_link (given_at gs v).exits ≡ f.links v
  links-at v lt = ap (map exit_link) (g.exits_are v lt) ∙ g.links v

  pub once-at : (v : ℕ) → v < length gs → Once (map (λ (e : Exit). e.place) (given_at gs v).exits)
  once-at v lt = subst (λ (xs : List Exit). Once (map (λ (e : Exit). e.place) xs)) (sym (g.exits_are v lt))
      (exits-once es v)

  pub there-at : (v : ℕ) → v < length gs → AllByRecursion (IsExitOf es) (given_at gs v).exits
  there-at v lt = subst (AllByRecursion (IsExitOf es)) (sym (g.exits_are v lt)) (exits-there es v)

  module _ (n : ℕ) (below : List NodeOf) (row : IsRow f es n below) where
    of-exit : (e : Exit) → IsExitOf es e → IsOf f n below e
    of-exit e x =
        subst (λ (p : Place). IsPermutation (map item_of (rules_in (held_at below e.place))) (node f n p.v p.port))
        (sym x.peer) (row.rules e.place x.there)

    pub nodes-at : (v : ℕ) → v < length gs → AllByRecursion (IsOf f n below) (given_at gs v).exits
    nodes-at v lt = all-from (IsExitOf es) (IsOf f n below) of-exit (given_at gs v).exits (there-at v lt)

    pub ready-at : (s : Stand) → ((v : ℕ) → hop_size f (suc n) v < 2 ^ 64) → s.at.v < length gs
        → s.size ≡ peers_size (hop_size f n) (f.links s.at.v) → IsReadyAt gs below s
    ready-at s fits lt e =
        let v = s.at.v in
        let places = all-from (IsExitOf es) (λ (x : Exit). x.place < length below)
        (λ x h. let t = h.there in let c = row.count in omega arith) (given_at gs v).exits (there-at v lt) in
        record {
          there = lt;
          own = f.sizes v;
          set_up = subst (λ size. IsSetUp (f.sizes v) size (given_at gs v) below) (sym e)
              (set-up f g.own n below v (given_at gs v) (links-at v lt) (once-at v lt) places row.read (g.rules v)
              (nodes-at v lt) (fits v));
        }

    -- the node of a place has its rules from scratch
    pub scratch-at : (s : Stand) → s.at.v < length gs → s.size ≡ peers_size (hop_size f n) (f.links s.at.v)
        → (held : List (Held Made)) → IsMadeAt gs below s held →
        IsPermutation (map item_of (rules_in held)) (node f (suc n) s.at.v s.at.port)
    scratch-at s lt e held made =
        let v = s.at.v in
        let whole = subst (λ size. IsMadeOf s.at size (given_at gs v).exits (given_at gs v).rules below held) e made in
        subst (λ (z : List Rule). IsPermutation z (node f (suc n) s.at.v s.at.port)) (sym (rules-are held))
        (from-scratch f n s.at (given_at gs v).exits (given_at gs v).rules below held (links-at v lt) (once-at v lt)
        (g.rules v) (nodes-at v lt) whole)

    pub scratch-of : (l : Level) → IsMade f n gs below l → (k : ℕ) → k < length l.stands →
        IsPermutation (map item_of (rules_in (held_at l.nodes k)))
        (node f (suc n) (stand_at l.stands k).at.v (stand_at l.stands k).at.port)
    scratch-of l m k lt =
        scratch-at (stand_at l.stands k) (all-at (λ (s : Stand). s.at.v < length gs) l.stands no_stand m.there k lt)
        (all-at (λ (s : Stand). s.size ≡ peers_size (hop_size f n) (f.links s.at.v)) l.stands no_stand m.sizes k lt)
        (held_at l.nodes k) (m.made k lt)

    -- the nodes of a level between are from scratch for one hop more
    pub row-of : (l : Level) → IsMade f n gs below l → IsBetween es l → IsRow f es (suc n) l.nodes
    row-of l m b =
        let count : length l.stands ≡ length es = sym (length-map l.stands (λ (s : Stand). s.at)) ∙ ap length b.peers
        ∙ length-map es (λ (e : LinkEnd). e.peer) in
        record {
          count = m.count ∙ count;
          read = b.read;
          rules = λ k lt.
              let at : (stand_at l.stands k).at ≡ peer_at es k =
              sym (map-at (λ (s : Stand). s.at) no_stand l.stands k)
              ∙ ap (λ (ps : List Place). get_or ps k no_place) b.peers
              ∙ map-at (λ (e : LinkEnd). e.peer) no_end es k in
              subst (λ (p : Place). IsPermutation (map item_of (rules_in (held_at l.nodes k)))
              (node f (suc n) p.v p.port)) at (scratch-of l m k (let c = count in omega arith));
        }

  -- where links lead from a place, what turns tell is what changed
  pub turned-at : (before below : List NodeOf) (turns : List Turn)
      → ((k : ℕ) → k < length es → IsToldAt before below turns k) → (s : Stand) → s.at.v < length gs
      → AreTurnedAt gs before below turns s
  turned-at before below turns told s lt =
      all-from (IsExitOf es) (λ (e : Exit). IsTurnedAt before below turns e.place)
      (λ e x. let t = (told e.place x.there).1 in record { turned = t.turned; rising = t.rising; risen = t.risen })
      (given_at gs s.at.v).exits (there-at s.at.v lt)

-- each place of a level is ready
pub all-ready : (f : Fabric) (es : List LinkEnd) (gs : List GivenOf) → IsGiven f es gs → (n : ℕ) (below : List NodeOf)
    → IsRow f es n below → ((v : ℕ) → hop_size f (suc n) v < 2 ^ 64) → (stands : List Stand) →
    AllByRecursion (λ (s : Stand). s.at.v < length gs) stands
    → AllByRecursion (λ (s : Stand). s.size ≡ peers_size (hop_size f n) (f.links s.at.v)) stands
    → AllByRecursion (IsReadyAt gs below) stands
all-ready f es gs g n below row fits stands there sizes =
    all-both (λ (s : Stand). s.at.v < length gs) (λ (s : Stand). s.size ≡ peers_size (hop_size f n) (f.links s.at.v))
    (IsReadyAt gs below) (λ s lt e. ready-at f es gs g n below row s fits lt e) stands there sizes

pub all-turned : (f : Fabric) (es : List LinkEnd) (gs : List GivenOf) → IsGiven f es gs
    → (before below : List NodeOf) (turns : List Turn) → ((k : ℕ) → k < length es → IsToldAt before below turns k)
    → (stands : List Stand) →
    AllByRecursion (λ (s : Stand). s.at.v < length gs) stands
    → AllByRecursion (AreTurnedAt gs before below turns) stands
all-turned f es gs g before below turns told stands there =
    all-from (λ (s : Stand). s.at.v < length gs) (AreTurnedAt gs before below turns)
    (turned-at f es gs g before below turns told) stands there
