-- The nodes of ports for one number of hops after the other, and how they change.
use Rattle.std.specs.Prelude.{◌≡◌, ℕ, true, false, ◌+◌, ◌<◌, ◌==◌, List, [], ◌∷◌, IsPermutation, if◌then◌else◌, length}
use Rattle.std.specs.Prelude.{map, slice_index_or, suc}
use Rattle.std.specs.List.{AllByRecursion}
use Rattle.policy_meaning.specs.Hops.{Fabric, hop_size, node, peers_size}
use Rattle.rule_ancestry.specs.Holding.{Held, item_of}
use Rattle.made_rules.specs.Rules.{rules_in}
use Rattle.made_rules.specs.declared.made.Made.{Made}
use Rattle.hop_rules.specs.Handed.{GivenOf}
use Rattle.hop_rules.specs.Links.{exit_link, exits, no_place, peer_at}
use Rattle.hop_rules.specs.Nodes.{IsMadeOf, IsOwn, IsSetUp, NodeOf, arrivals, held_at}
use Rattle.hop_rules.specs.Turns.{AreTurned, IsOwnTurn, IsTold, came_there, come_at, gone_at, left_cost, no_turn}
use Rattle.hop_rules.specs.Turns.{right_cost, stayed}
use Rattle.hop_rules.specs.Under.{under}
use Rattle.hop_rules.specs.declared.exits.LinkEnd.{LinkEnd}
use Rattle.hop_rules.specs.declared.level.Event.{Event}
use Rattle.hop_rules.specs.declared.level.Level.{Level}
use Rattle.hop_rules.specs.declared.level.Stand.{Stand}
use Rattle.hop_rules.specs.declared.level.Told.{Told}
use Rattle.hop_rules.specs.declared.node.Turn.{Turn}

-- ---- what stands at a number; past the end there is nothing
abbrev pub none_given : GivenOf
none_given = record { exits = []; rules = []; items = [] }

abbrev pub no_stand : Stand
no_stand = record { at = no_place; size = 0 }

abbrev pub no_node : NodeOf
no_node = record { held = []; read = false }

abbrev pub nothing_told : Told
nothing_told = record { turn = no_turn; left = [] }

-- the rules of a virtual switch
abbrev pub given_at : List GivenOf → ℕ → GivenOf
given_at gs v = slice_index_or gs v none_given

abbrev pub stand_at : List Stand → ℕ → Stand
stand_at stands k = slice_index_or stands k no_stand

abbrev pub told_at : List Told → ℕ → Told
told_at tolds k = slice_index_or tolds k nothing_told

-- ---- changes
-- what changed of the rules of a virtual switch: of that of the event what it says, of others nothing
abbrev pub turn_at : Event → ℕ → Turn
turn_at e v = if v == e.v then e.turn else e.still

-- the rules of virtual switches changed as an event says; those that came aren't listed yet
pub record IsEvent (old new : List GivenOf) (e : Event) : Type 0 where
  pub each : (v : ℕ) → IsOwnTurn (given_at old v).rules (given_at new v) (turn_at e v)
  pub exits : (v : ℕ) → (given_at new v).exits ≡ (given_at old v).exits
  pub count : length new ≡ length old

-- what is told of the change of the node at each place
pub record AreTold (before after : List NodeOf) (tolds : List Told) : Type 0 where
  pub count : length tolds ≡ length before
  pub each : (k : ℕ) → k < length before
      → IsTold (held_at before k) (held_at after k) (told_at tolds k).turn (told_at tolds k).left

-- what the turns tell of the node at a place is what changed there
abbrev pub IsToldAt : List NodeOf → List NodeOf → List Turn → ℕ → Type 0
IsToldAt before below turns k =
    (left : List Made) × IsTold (held_at before k) (held_at below k)
    (record { gone = gone_at turns k; come = come_at turns k }) left

-- ---- one level
-- the rules at a place are those that its node is to make of the rules of its virtual switch and of those below
abbrev pub IsMadeAt : List GivenOf → List NodeOf → Stand → List (Held Made) → Type 0
IsMadeAt gs below s held = IsMadeOf s.at s.size (given_at gs s.at.v).exits (given_at gs s.at.v).rules below held

-- a node can be changed at this place
pub record IsReadyAt (gs : List GivenOf) (below : List NodeOf) (s : Stand) : Type 0 where
  pub there : s.at.v < length gs
  pub own : ℕ
  pub set_up : IsSetUp own s.size (given_at gs s.at.v) below

-- the nodes below changed as turns tell, wherever links lead from a place
abbrev pub AreTurnedAt : List GivenOf → List NodeOf → List NodeOf → List Turn → Stand → Type 0
AreTurnedAt gs before below turns s = AreTurned before below turns (given_at gs s.at.v).exits

-- the steps of the change of a node
abbrev pub node_cost : List GivenOf → List NodeOf → Event → List Turn → Stand → ℕ
node_cost gs below e turns s =
    left_cost s.at (given_at gs s.at.v).exits (arrivals below (given_at gs s.at.v).exits)
    (under (given_at gs s.at.v).rules (turn_at e s.at.v).come)
    + right_cost s.at (given_at gs s.at.v).exits (stayed (given_at gs s.at.v) (turn_at e s.at.v).come)
    (came_there below turns (given_at gs s.at.v).exits)

-- The nodes of some places changed, as those of the virtual switches and those below did: what each held were the rules
-- that it was to make, and now they are those that it is to make.
pub record AreTurnedNodes (gs : List GivenOf) (below : List NodeOf) (e : Event) (turns : List Turn)
    (stands : List Stand)
    (first last : List NodeOf) (tolds : List Told) : Type 0 where
  pub made : (old : List GivenOf) → (nodes : List NodeOf) → IsEvent old gs e
      → AllByRecursion (AreTurnedAt gs nodes below turns) stands → (k : ℕ) → k < length stands
      → IsMadeAt old nodes (stand_at stands k) (held_at first k)
      → IsMadeAt gs below (stand_at stands k) (held_at last k)
  pub told : AreTold first last tolds
  pub read : map (λ (m : NodeOf). m.read) last ≡ map (λ (m : NodeOf). m.read) first

-- those of a level did, and its places stayed
pub record IsTurned (gs : List GivenOf) (below : List NodeOf) (e : Event) (turns : List Turn) (first last : Level)
    (tolds : List Told) : Type 0 where
  pub stands : last.stands ≡ first.stands
  pub nodes : AreTurnedNodes gs below e turns first.stands first.nodes last.nodes tolds

-- the nodes of a level are those of its places, each made of the rules of its virtual switch and of those below, which
-- are of n hops
pub record IsMade (f : Fabric) (n : ℕ) (gs : List GivenOf) (below : List NodeOf) (l : Level) : Type 0 where
  pub count : length l.nodes ≡ length l.stands
  pub there : AllByRecursion (λ (s : Stand). s.at.v < length gs) l.stands
  pub sizes : AllByRecursion (λ (s : Stand). s.size ≡ peers_size (hop_size f n) (f.links s.at.v)) l.stands
  pub made : (k : ℕ) → k < length l.stands → IsMadeAt gs below (stand_at l.stands k) (held_at l.nodes k)

-- its places are where links lead, and others read its nodes
pub record IsBetween (es : List LinkEnd) (l : Level) : Type 0 where
  pub peers : map (λ (s : Stand). s.at) l.stands ≡ map (λ (e : LinkEnd). e.peer) es
  pub read : AllByRecursion (λ (m : NodeOf). m.read ≡ true) l.nodes

-- ---- all levels above one
-- each level is made of the one below, and the last is that of the outside ports
abbrev pub AreMade : Fabric → List LinkEnd → ℕ → List GivenOf → List NodeOf → List Level → Level → Type 0
AreMade f es n gs below [] top = IsMade f n gs below top
AreMade f es n gs below (l ∷ ls) top = (IsMade f n gs below l × IsBetween es l) × AreMade f es (suc n) gs l.nodes ls top

-- the rules that were handed over, by virtual switch
pub record IsGiven (f : Fabric) (es : List LinkEnd) (gs : List GivenOf) : Type 0 where
  pub exits_are : (v : ℕ) → v < length gs → (given_at gs v).exits ≡ exits es v
  pub links : (v : ℕ) → map exit_link (exits es v) ≡ f.links v
  pub rules : (v : ℕ) → IsPermutation (map item_of (given_at gs v).rules) (f.rules v)
  pub own : (v : ℕ) → AllByRecursion (IsOwn (f.sizes v)) (f.rules v)
  pub peers : AllByRecursion (λ (e : LinkEnd). e.peer.v < length gs) es

-- the nodes of the ports where links lead have their rules from scratch, for so many hops
pub record IsRow (f : Fabric) (es : List LinkEnd) (n : ℕ) (nodes : List NodeOf) : Type 0 where
  pub count : length nodes ≡ length es
  pub read : AllByRecursion (λ (m : NodeOf). m.read ≡ true) nodes
  pub rules : (k : ℕ) → k < length es
      → IsPermutation (map item_of (rules_in (held_at nodes k))) (node f n (peer_at es k).v (peer_at es k).port)
