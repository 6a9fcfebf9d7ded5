-- The rules that some nodes have from scratch set up the nodes of one hop more.
use Rattle.std.proofs.Common.{◌≡◌, ℕ, suc, ◌<◌, ◌≤◌, ◌^◌, true, List, [], ◌∷◌, map, subst, arith}
use Rattle.std.specs.Prelude.{IsPermutation, length}
use Rattle.std.specs.List.{AllByRecursion}
use Rattle.std.proofs.lemmas.List.Sorted.{IsPermutation-sym}
use Rattle.policy_meaning.specs.Hops.{Fabric, hop_size, node, peers_size}
use Rattle.policy_meaning.specs.declared.network.Link.{Link}
use Rattle.policy_meaning.specs.declared.rule.Rule.{Rule}
use Rattle.policy_meaning.proofs.Lists.{all-map}
use Rattle.policy_meaning.proofs.Peers.{positive}
use Rattle.policy_meaning.proofs.Rising.{all-permuted}
use Rattle.rule_ancestry.specs.Holding.{Held, item_of}
use Rattle.made_rules.specs.Rules.{rules_in}
use Rattle.hop_rules.specs.Handed.{GivenOf}
use Rattle.hop_rules.specs.Links.{exit_link}
use Rattle.hop_rules.specs.Nodes.{AreArriving, IsAt, IsOf, IsOwn, IsSetUp, NodeOf, Once, held_at}
use Rattle.hop_rules.specs.declared.exits.Exit.{Exit}
use Rattle.hop_rules.proofs.Fitting.{node-fits}

-- what holds of the rules holds of what is held
unheld : (P : Rule → Type 0) (hs : List (Held Rule)) → AllByRecursion P (map item_of hs)
    → AllByRecursion (λ (h : Held Rule). P h.item) hs
unheld P [] a = tt
unheld P (h ∷ hs) a = (a.0, unheld P hs a.1)

from-rules : (P : Rule → Type 0) (hs : List (Held Rule)) (rules : List Rule) → IsPermutation (map item_of hs) rules
    → AllByRecursion P rules → AllByRecursion (λ (h : Held Rule). P h.item) hs
from-rules P hs rules p a = unheld P hs (all-permuted rules (map item_of hs) (IsPermutation-sym _ _ p) P a)

-- the size of each peer is at most the greatest
later-size : (sizes : ℕ → ℕ) (e : Exit) (links : List Link) (es : List Exit)
    → AllByRecursion (λ (x : Exit). sizes x.peer.v ≤ peers_size sizes links) es
    → AllByRecursion (λ (x : Exit). sizes x.peer.v ≤ peers_size sizes (exit_link e ∷ links)) es
later-size sizes e links [] a = tt
later-size sizes e links (x ∷ es) a = (let h = a.0 in omega arith, later-size sizes e links es a.1)

peer-sizes : (sizes : ℕ → ℕ) (es : List Exit)
    → AllByRecursion (λ (e : Exit). sizes e.peer.v ≤ peers_size sizes (map exit_link es)) es
peer-sizes sizes [] = tt
peer-sizes sizes (e ∷ es) = (omega arith, later-size sizes e (map exit_link es) es (peer-sizes sizes es))

wider : (size more port : ℕ) → size ≤ more → (b : Rule) → IsAt size port b → IsAt more port b
wider size more port le b i = record { below = let h = i.below in omega arith; normal = i.normal; arrives = i.arrives }

module _ (f : Fabric) (own : (v : ℕ) → AllByRecursion (IsOwn (f.sizes v)) (f.rules v)) (n : ℕ) (below : List NodeOf)
  where
    arrive-each : (size : ℕ) (es : List Exit) → AllByRecursion (λ (e : Exit). hop_size f n e.peer.v ≤ size) es
        → AllByRecursion (IsOf f n below) es → AllByRecursion (AreArriving below size) es
    arrive-each size [] le nodes = tt
    arrive-each size (e ∷ es) le nodes = (
      from-rules (IsAt size e.peer.port) (rules_in (held_at below e.place)) (node f n e.peer.v e.peer.port) nodes.0
          (all-map (IsAt (hop_size f n e.peer.v) e.peer.port) (IsAt size e.peer.port) (node f n e.peer.v e.peer.port)
          (wider (hop_size f n e.peer.v) size e.peer.port le.0) (node-fits f own n e.peer.v e.peer.port)),
      arrive-each size es le.1 nodes.1,
    )

    pub set-up : (v : ℕ) (given : GivenOf) → map exit_link given.exits ≡ f.links v
        → Once (map (λ (e : Exit). e.place) given.exits)
        → AllByRecursion (λ (e : Exit). e.place < length below) given.exits →
        AllByRecursion (λ (m : NodeOf). m.read ≡ true) below → IsPermutation (map item_of given.rules) (f.rules v)
        → AllByRecursion (IsOf f n below) given.exits → hop_size f (suc n) v < 2 ^ 64 →
        IsSetUp (f.sizes v) (peers_size (hop_size f n) (f.links v)) given below
    set-up v given links once places read rules nodes fits =
        let sizes =
        subst (λ (l : List Link). AllByRecursion (λ (e : Exit). hop_size f n e.peer.v ≤ peers_size (hop_size f n) l)
        given.exits) links (peer-sizes (hop_size f n) given.exits) in
        record {
          places = places;
          distinct = once;
          read = read;
          rules = from-rules (IsOwn (f.sizes v)) given.rules (f.rules v) rules (own v);
          arriving = arrive-each (peers_size (hop_size f n) (f.links v)) given.exits sizes nodes;
          positive = positive _;
          fits = fits;
        }
