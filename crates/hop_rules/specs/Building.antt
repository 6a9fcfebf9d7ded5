-- The levels of a table without rules, and how many levels the rules have there.
use Rattle.std.specs.Prelude.{◌≡◌, ℕ, Bool, true, false, ◌<◌, ◌≤◌, ◌^◌, List, [], ◌∷◌, Option, Some, None}
use Rattle.std.specs.Prelude.{if◌then◌else◌}
use Rattle.std.specs.Prelude.{length, map, slice_index_or, suc}
use Rattle.std.specs.List.{AllByRecursion}
use Rattle.policy_meaning.specs.Hops.{Fabric, hop_size, last_rule, peers_size}
use Rattle.rule_ancestry.specs.Holding.{item_of}
use Rattle.made_rules.specs.declared.made.Made.{Made}
use Rattle.virtual_topology.specs.Wires.{Joint}
use Rattle.hop_rules.specs.Handed.{GivenOf}
use Rattle.hop_rules.specs.Levels.{given_at}
use Rattle.hop_rules.specs.Links.{exit_link, exits}
use Rattle.hop_rules.specs.Nodes.{NodeOf}
use Rattle.hop_rules.specs.declared.building.Rising.{Rising}
use Rattle.hop_rules.specs.declared.exits.LinkEnd.{LinkEnd}
use Rattle.hop_rules.specs.declared.level.Level.{Level}
use Rattle.hop_rules.specs.declared.level.Stand.{Stand}

-- the rule of a packet that has no hop left, made of nothing
abbrev pub last_made : Made
last_made = record { rule = last_rule; origins = [] }

-- the node that has this rule alone, which others read
pub record IsLast (m : NodeOf) : Type 0 where
  pub held : map item_of m.held ≡ last_made ∷ []
  pub read : m.read ≡ true

-- a virtual switch without rules
abbrev pub none_of : List LinkEnd → ℕ → GivenOf
none_of es v = record { exits = exits es v; rules = []; items = [] }

-- a node without rules
abbrev pub IsEmptyNode : Bool → NodeOf → Type 0
IsEmptyNode read m = m ≡ record { held = []; read = read }

-- a size by the number of a virtual switch, and 1 past the last
abbrev pub size_at : List ℕ → ℕ → ℕ
size_at sizes v = slice_index_or sizes v 1

-- the greatest size at the peers of a virtual switch
abbrev pub given_size : List ℕ → GivenOf → ℕ
given_size sizes g = peers_size (size_at sizes) (map exit_link g.exits)

-- a port at which a link arrives
abbrev pub arrival_stand : List ℕ → LinkEnd → Stand
arrival_stand peers e = record { at = e.peer; size = size_at peers e.peer.v }

-- an outside port, if its virtual switch isn't whole
abbrev pub outside_stand : List Bool → List ℕ → ℕ → ℕ → Option Stand
outside_stand whole peers v port =
    if slice_index_or whole v false then None
    else Some (record { at = record { v = v; port = port }; size = size_at peers v })

abbrev pub joint_stand : List Bool → List ℕ → Joint → Option Stand
joint_stand whole peers j = outside_stand whole peers j.0.0 j.0.1

abbrev pub no_level : Level
no_level = record { stands = []; nodes = [] }

-- a level of the ports where links arrive, whose nodes have no rules yet; those below are of n hops
pub record IsEmptyLevel (f : Fabric) (es : List LinkEnd) (n : ℕ) (l : Level) : Type 0 where
  pub ports : map (λ (s : Stand). s.at) l.stands ≡ map (λ (e : LinkEnd). e.peer) es
  pub sizes : AllByRecursion (λ (s : Stand). s.size ≡ peers_size (hop_size f n) (f.links s.at.v)) l.stands
  pub count : length l.nodes ≡ length l.stands
  pub empty : AllByRecursion (IsEmptyNode true) l.nodes

-- the virtual switches are those of a fabric
pub record IsFabric (f : Fabric) (es : List LinkEnd) (gs : List GivenOf) (sizes : List ℕ) : Type 0 where
  pub count : length sizes ≡ length gs
  pub own_sizes : (v : ℕ) → size_at sizes v ≡ f.sizes v
  pub links : (v : ℕ) → v < length gs → map exit_link (given_at gs v).exits ≡ f.links v
  pub none : (v : ℕ) → length gs ≤ v → f.links v ≡ []
  pub peers : AllByRecursion (λ (e : LinkEnd). e.peer.v < length gs) es

-- the levels of so many hops are there, without rules, and the sizes at the peers are those for so many
pub record IsRisen (f : Fabric) (es : List LinkEnd) (many : ℕ) (r : Rising) : Type 0 where
  pub levels : (n : ℕ) → n < length r.levels → IsEmptyLevel f es n (slice_index_or r.levels n no_level)
  pub count : length r.peers ≡ many
  pub peers : (v : ℕ) → v < many → size_at r.peers v ≡ peers_size (hop_size f (length r.levels)) (f.links v)

-- one level more fits
pub record CanRise (f : Fabric) (es : List LinkEnd) (gs : List GivenOf) (sizes : List ℕ) (r : Rising) : Type 0 where
  pub fabric : IsFabric f es gs sizes
  pub risen : IsRisen f es (length gs) r
  pub fits : (v : ℕ) → hop_size f (suc (length r.levels)) v < 2 ^ 64

-- all levels fit
pub record CanBuild (f : Fabric) (es : List LinkEnd) (gs : List GivenOf) (sizes : List ℕ) (hops : ℕ) : Type 0 where
  pub fabric : IsFabric f es gs sizes
  pub positive : 0 < hops
  pub fits : (n v : ℕ) → n < hops → hop_size f n v < 2 ^ 64
