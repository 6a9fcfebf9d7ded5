-- How a change of the rules of a virtual switch climbs from level to level.
use Rattle.std.specs.Prelude.{◌≡◌, ◌==◌, ℕ, false, ◌+◌, ◌<◌, ◌≤◌, ◌^◌, List, length, map, suc}
use Rattle.policy_meaning.specs.Hops.{Fabric, hop_size}
use Rattle.policy_meaning.specs.declared.rule.Rule.{Rule}
use Rattle.rule_ancestry.specs.Holding.{item_of}
use Rattle.hop_rules.specs.Handed.{GivenOf}
use Rattle.hop_rules.specs.Levels.{AreMade, AreTold, IsEvent, IsGiven, IsRow, IsToldAt, given_at, turn_at}
use Rattle.hop_rules.specs.Nodes.{NodeOf}
use Rattle.hop_rules.specs.Turns.{Hands, no_turn}
use Rattle.hop_rules.specs.Under.{under}
use Rattle.hop_rules.specs.declared.exits.LinkEnd.{LinkEnd}
use Rattle.hop_rules.specs.declared.level.Event.{Event}
use Rattle.hop_rules.specs.declared.level.Level.{Level}
use Rattle.hop_rules.specs.declared.level.Told.{Told}
use Rattle.hop_rules.specs.declared.node.Turn.{Turn}

-- the rules that came to a virtual switch
abbrev pub came_to : List GivenOf → Event → ℕ → List Rule
came_to gs e v = map item_of (under (given_at gs v).rules (turn_at e v).come)

-- The rules of the virtual switches changed, as an event says, and the nodes of n hops with them, as the turns say;
-- those
-- above haven't yet.
pub record IsBelow (f : Fabric) (rules : ℕ → List Rule) (es : List LinkEnd) (n : ℕ) (old new : List GivenOf)
    (before below : List NodeOf) (levels : List Level) (top : Level) (e : Event) (turns : List Turn) : Type 0 where
  pub was : IsGiven f es old
  pub now : IsGiven (record f { rules = rules }) es new
  pub event : IsEvent old new e
  pub row_was : IsRow f es n before
  pub row : IsRow (record f { rules = rules }) es n below
  pub told : (k : ℕ) → k < length es → IsToldAt before below turns k
  pub made : AreMade f es n old before levels top
  pub fits : (m v : ℕ) → m ≤ suc (n + length levels) → hop_size f m v < 2 ^ 64

-- where it is so
pub record CanClimb (new : List GivenOf) (below : List NodeOf) (levels : List Level) (top : Level) (e : Event)
    (turns : List Turn) : Type 0 where
  pub f : Fabric
  pub rules : ℕ → List Rule
  pub es : List LinkEnd
  pub n : ℕ
  pub old : List GivenOf
  pub before : List NodeOf
  pub is : IsBelow f rules es n old new before below levels top e turns

-- all levels changed so
pub record HasClimbed (f : Fabric) (rules : ℕ → List Rule) (es : List LinkEnd) (n : ℕ) (new : List GivenOf)
    (below : List NodeOf) (levels : List Level) (first last : Level) (tolds : List Told) : Type 0 where
  pub made : AreMade (record f { rules = rules }) es n new below levels last
  pub stands : last.stands ≡ first.stands
  pub told : AreTold first.nodes last.nodes tolds

-- what a handing over tells of all virtual switches
pub record IsHandedOver (old new : List GivenOf) (v : ℕ) (gone come : List Rule) (e : Event) : Type 0 where
  pub hands : Hands (given_at old v) (given_at new v) gone come e.turn
  pub at : e.v ≡ v
  pub still : e.still ≡ no_turn
  pub event : IsEvent old new e
  pub others : (u : ℕ) → (u == v) ≡ false → given_at new u ≡ given_at old u
