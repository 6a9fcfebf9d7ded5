-- How the rules of a node change, as those do of which it makes them, and the steps that this takes.
use Rattle.std.specs.Prelude.{◌≡◌, ℕ, ◌+◌, List, [], ◌++◌, IsPermutation, count_by, filter, filter_map, flat_map}
use Rattle.std.specs.Prelude.{map, not, slice_get, sum_by}
use Rattle.std.specs.List.{AllByRecursion}
use Rattle.std.specs.Option.{option_map_or}
use Rattle.list_change.specs.Changes.{Apart}
use Rattle.match_index.specs.declared.item.Item.{Item}
use Rattle.policy_meaning.specs.declared.network.Place.{Place}
use Rattle.policy_meaning.specs.declared.rule.Rule.{Rule}
use Rattle.rule_ancestry.specs.Holding.{Held, id_of, is_outside, item_of}
use Rattle.made_rules.specs.Rules.{is_made_of, rule_of, rules_in}
use Rattle.made_rules.specs.declared.made.Made.{Made}
use Rattle.made_rules.specs.declared.made.Origin.{Origin}
use Rattle.hop_rules.specs.Handed.{AreListed, GivenOf}
use Rattle.hop_rules.specs.Nodes.{Arrival, NodeOf, arrival, arrived, could, found, held_at}
use Rattle.hop_rules.specs.Under.{Rises, under}
use Rattle.hop_rules.specs.declared.exits.Exit.{Exit}
use Rattle.hop_rules.specs.declared.node.Turn.{Turn}

-- Of what is held by ids some go, some come and the rest stays.
pub record Turned {R : Type 0} (before after : List (Held R)) (gone come : List ℕ) : Type 0 where
  pub going : List (Held R)
  pub coming : List (Held R)
  pub kept : List (Held R)
  pub was : IsPermutation before (going ++ kept)
  pub is : IsPermutation after (coming ++ kept)
  pub gone_are : map id_of going ≡ gone
  pub come_are : map id_of coming ≡ come

-- nothing went and nothing came
abbrev pub no_turn : Turn
no_turn = record { gone = []; come = [] }

-- the rules of these ids aren't found, and all others are
pub record AreHidden (items : List Item) (held : List (Held Made)) (ids : List ℕ) : Type 0 where
  pub coming : List (Held Rule)
  pub kept : List (Held Rule)
  pub all : IsPermutation (rules_in held) (coming ++ kept)
  pub ids_are : map id_of coming ≡ ids
  pub found_are : IsPermutation items (filter_map found kept)

-- an index finds the rules of a node as they were before a turn
pub record IsFoundBefore (items : List Item) (held : List (Held Made)) (turn : Turn) : Type 0 where
  pub before : List (Held Rule)
  pub rising : Rises before
  pub turned : Turned before (rules_in held) turn.gone turn.come
  pub found_are : IsPermutation items (filter_map found before)

-- what is told of a change of a node's rules
pub record IsTold (before after : List (Held Made)) (turn : Turn) (left : List Made) : Type 0 where
  pub turned : Turned (rules_in before) (rules_in after) turn.gone turn.come
  pub rising : Rises (rules_in before)
  pub risen : Rises (rules_in after)
  pub left_are : map rule_of left ≡ map item_of turned.going
  pub apart : Apart (map item_of turned.going) (map item_of turned.coming)

-- Of a node's rules those that are made of some names go, and these come; what is made anew stays.
pub record IsChange (before after : List (Held Made)) (lost : List Origin) (fresh : List Made) (turn : Turn)
    (left : List Made) : Type 0 where
  pub told : IsTold before after turn left
  pub items : IsPermutation (map item_of after) (filter (λ m. not (is_made_of lost m)) (map item_of before) ++ fresh)

-- what changed of the rules of a virtual switch, of which those that came aren't listed yet
pub record IsOwnTurn (before : List (Held Rule)) (given : GivenOf) (turn : Turn) : Type 0 where
  pub turned : Turned before given.rules turn.gone turn.come
  pub rising : Rises before
  pub risen : Rises given.rules
  pub listed : AreListed given turned.kept

-- of the rules of a virtual switch these go and these come, and the turn tells so
pub record Hands (old new : GivenOf) (gone come : List Rule) (turn : Turn) : Type 0 where
  pub own : IsOwnTurn old.rules new turn
  pub gone_are : map item_of own.turned.going ≡ gone
  pub come_are : map item_of own.turned.coming ≡ come
  pub exits : new.exits ≡ old.exits

-- what went from the node of a place, and what came to it
abbrev pub gone_at : List Turn → ℕ → List ℕ
gone_at turns place = option_map_or (λ (t : Turn). t.gone) (slice_get turns place) []

abbrev pub come_at : List Turn → ℕ → List ℕ
come_at turns place = option_map_or (λ (t : Turn). t.come) (slice_get turns place) []

-- the names of what went from the nodes to which exits lead
abbrev pub lost_there : List Turn → List Exit → List Origin
lost_there turns exits = flat_map (λ (e : Exit). map (arrived e.place) (gone_at turns e.place)) exits

-- what a turn tells of the node at a place is what changed there
pub record IsTurnedAt (before below : List NodeOf) (turns : List Turn) (place : ℕ) : Type 0 where
  pub turned : Turned (rules_in (held_at before place)) (rules_in (held_at below place)) (gone_at turns place)
      (come_at turns place)
  pub rising : Rises (rules_in (held_at before place))
  pub risen : Rises (rules_in (held_at below place))

-- it is so of each node to which exits lead
abbrev pub AreTurned : List NodeOf → List NodeOf → List Turn → List Exit → Type 0
AreTurned before below turns exits = AllByRecursion (λ (e : Exit). IsTurnedAt before below turns e.place) exits

-- the rules that came where an exit leads, and where all do
abbrev pub came_at : List NodeOf → List Turn → Exit → List Arrival
came_at below turns e = map (arrival e.place) (under (rules_in (held_at below e.place)) (come_at turns e.place))

abbrev pub came_there : List NodeOf → List Turn → List Exit → List Arrival
came_there below turns exits = flat_map (came_at below turns) exits

-- the rules of a virtual switch but for those of these ids
abbrev pub stayed : GivenOf → List ℕ → List (Held Rule)
stayed g come = filter (is_outside come) g.rules

-- a step for each rule that comes to the virtual switch, and one for each that it could meet
abbrev pub left_cost : Place → List Exit → List Arrival → List (Held Rule) → ℕ
left_cost at exits ys come = sum_by (λ h. 1 + count_by (could at exits h) ys) come

-- a step for each rule of the virtual switch that one that comes where an exit leads could meet
abbrev pub right_cost : Place → List Exit → List (Held Rule) → List Arrival → ℕ
right_cost at exits hs come = sum_by (λ y. count_by (λ h. could at exits h y) hs) come
