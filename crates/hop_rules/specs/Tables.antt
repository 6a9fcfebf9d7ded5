-- A table of the rules of the outside ports of virtual switches, as contracts see it.
use Rattle.std.specs.Prelude.{◌≡◌, ℕ, Bool, false, ◌<◌, ◌==◌, ◌&&◌, not, Contains, List, [], find, filter, map}
use Rattle.std.specs.Prelude.{slice_index_or}
use Rattle.std.specs.Option.{option_map_or}
use Rattle.list_change.specs.Changes.{Apart, Changed}
use Rattle.of10_match.specs.Normal.{IsNormal}
use Rattle.policy_meaning.specs.Hops.{Fabric, node}
use Rattle.policy_meaning.specs.declared.network.Place.{Place}
use Rattle.policy_meaning.specs.declared.rule.Rule.{Rule}
use Rattle.virtual_topology.specs.declared.plan.TopologyPlan.{TopologyPlan}
use Rattle.virtual_topology.specs.Wires.{Joint, outside_joints}
use Rattle.hop_rules.specs.Links.{links, place}
use Rattle.hop_rules.specs.declared.delta.PortDelta.{PortDelta}

-- The topology, the size and the rules of each virtual switch, the greatest number of hops, and of which virtual
-- switches the rules stand for all ports at once. Of those no rules are kept. A lost table is to be made anew.
pub record TableOf : Type 0 where
  pub plan : TopologyPlan
  pub sizes : List ℕ
  pub hops : ℕ
  pub whole : List Bool
  pub rules : List (List Rule)
  pub lost : Bool

-- the rules of a virtual switch that were handed over
abbrev pub rules_at : TableOf → ℕ → List Rule
rules_at t v = slice_index_or t.rules v []

-- the virtual switches as hops see them
abbrev pub fabric : TableOf → Fabric
fabric t = record { rules = rules_at t; sizes = λ v. slice_index_or t.sizes v 1; links = links t.plan }

-- the rules of a virtual switch stand for all ports at once
abbrev pub is_whole : TableOf → ℕ → Bool
is_whole t v = slice_index_or t.whole v false

-- the outside ports that have rules of their own
abbrev pub own_ports : TableOf → List Place
own_ports t = filter (λ (p : Place). not (is_whole t p.v)) (map (λ (j : Joint). place j.0) (outside_joints t.plan))

-- the rules of a port
abbrev pub port_rules : TableOf → Place → List Rule
port_rules t p = node (fabric t) t.hops p.v p.port

-- the delta of this port
abbrev pub is_of : Place → PortDelta → Bool
is_of p d = (d.v == p.v) && (d.port == p.port)

-- what some deltas say of a port: what went, and what came
abbrev pub gone_at : List PortDelta → Place → List Rule
gone_at deltas p = option_map_or (λ (d : PortDelta). d.gone) (find (is_of p) deltas) []

abbrev pub come_at : List PortDelta → Place → List Rule
come_at deltas p = option_map_or (λ (d : PortDelta). d.come) (find (is_of p) deltas) []

-- exactly these rules went and came; no rule did both
pub record ChangesBy (before after gone come : List Rule) : Type 0 where
  pub changed : Changed before after gone come
  pub apart : Apart gone come

-- at each port exactly what the deltas say of it went and came
abbrev pub AreDeltas : TableOf → TableOf → List PortDelta → Type 0
AreDeltas before after deltas = (p : Place) → Contains (own_ports before) p
    → ChangesBy (port_rules before p) (port_rules after p) (gone_at deltas p) (come_at deltas p)

-- of other places they say nothing
pub record AreOfPorts (t : TableOf) (deltas : List PortDelta) : Type 0 where
  pub gone : (p : Place) → (Contains (own_ports t) p → ⊥) → gone_at deltas p ≡ []
  pub come : (p : Place) → (Contains (own_ports t) p → ⊥) → come_at deltas p ≡ []

-- the rules of one virtual switch changed so, and nothing else did
pub record IsHanded (before after : TableOf) (v : ℕ) (gone come : List Rule) : Type 0 where
  pub rules : Changed (rules_at before v) (rules_at after v) gone come
  pub others : (u : ℕ) → (u == v) ≡ false → rules_at after u ≡ rules_at before u
  pub rest : after ≡ record before { rules = after.rules }

-- rules of a virtual switch that may come: below its size, and with normal matches
pub record MayCome (t : TableOf) (v : ℕ) (r : Rule) : Type 0 where
  pub below : r.level < (fabric t).sizes v
  pub normal : IsNormal r.m

-- a table without rules
abbrev pub empty_table : TopologyPlan → List ℕ → ℕ → List Bool → TableOf
empty_table plan sizes hops whole =
    record { plan = plan; sizes = sizes; hops = hops; whole = whole; rules = []; lost = false }
