-- What is told of the nodes of outside ports.
use Rattle.std.specs.Prelude.{◌≡◌, ℕ, Bool, ◌<◌, ◌==◌, ◌&&◌, ◌++◌, List, [], ◌∷◌, if◌then◌else◌, length, map, suc}
use Rattle.policy_meaning.specs.declared.network.Place.{Place}
use Rattle.policy_meaning.specs.declared.rule.Rule.{Rule}
use Rattle.rule_ancestry.specs.Holding.{Held, item_of}
use Rattle.made_rules.specs.Rules.{rule_of, rules_in}
use Rattle.made_rules.specs.declared.made.Made.{Made}
use Rattle.hop_rules.specs.Levels.{stand_at}
use Rattle.hop_rules.specs.Nodes.{NodeOf, held_at}
use Rattle.hop_rules.specs.Under.{under}
use Rattle.hop_rules.specs.declared.delta.PortDelta.{PortDelta}
use Rattle.hop_rules.specs.declared.level.Level.{Level}
use Rattle.hop_rules.specs.declared.level.Stand.{Stand}
use Rattle.hop_rules.specs.declared.level.Told.{Told}
use Rattle.hop_rules.specs.declared.node.Turn.{Turn}

-- the rules of a node
abbrev pub rules_held : List (Held Made) → List Rule
rules_held held = map item_of (rules_in held)

-- the rules of these ids in a node
abbrev pub rules_under : List (Held Made) → List ℕ → List Rule
rules_under held ids = map item_of (under (rules_in held) ids)

-- these are the rules of a port of a level
pub record IsOfPort (l : Level) (at : Place) (rules : List Rule) : Type 0 where
  pub number : ℕ
  pub there : number < length l.stands
  pub is_at : (stand_at l.stands number).at ≡ at
  pub rules_are : rules ≡ rules_held (held_at l.nodes number)

-- nothing went and nothing came
abbrev pub is_still : Turn → Bool
is_still t = (length t.gone == 0) && (length t.come == 0)

-- what changed at a port
abbrev pub delta_of : Place → List (Held Made) → Told → PortDelta
delta_of at held told =
    record { v = at.v; port = at.port; gone = map rule_of told.left; come = rules_under held told.turn.come }

-- if something did
abbrev pub delta_if : Place → List (Held Made) → Told → List PortDelta
delta_if at held told = if is_still told.turn then [] else delta_of at held told ∷ []

-- what changed at the ports of a level from a number on
abbrev pub deltas_from : List Stand → List NodeOf → ℕ → List Told → List PortDelta
deltas_from stands nodes k [] = []
deltas_from stands nodes k (told ∷ tolds) =
    delta_if (stand_at stands k).at (held_at nodes k) told ++ deltas_from stands nodes (suc k) tolds
