-- What the node of a port makes of the rules of its virtual switch and of those of the nodes to which links lead.
use Rattle.std.specs.Prelude.{◌≡◌, ℕ, Bool, true, false, ◌*◌, ◌<◌, ◌^◌, ◌==◌, ◌&&◌, Option, Some, None, List, []}
use Rattle.std.specs.Prelude.{◌∷◌, if◌then◌else◌, IsPermutation, filter_map, length, map, flat_map, option_map}
use Rattle.std.specs.Prelude.{slice_get}
use Rattle.std.specs.List.{AllByRecursion, list_any}
use Rattle.std.specs.Option.{option_and_then, option_map_or}
use Rattle.list_change.specs.Pairing.{Way, by_one, made}
use Rattle.match_index.specs.declared.item.Item.{Item}
use Rattle.of10_actions.specs.declared.effects.Tail.{Tail}
use Rattle.of10_match.specs.Matching.{agree, overlaps}
use Rattle.of10_match.specs.Normal.{IsNormal}
use Rattle.rule_ancestry.specs.Holding.{Held, item_of}
use Rattle.policy_meaning.specs.Hops.{Fabric, hop_lone, hop_rule, node}
use Rattle.policy_meaning.specs.declared.network.Place.{Place}
use Rattle.policy_meaning.specs.declared.rule.Rule.{Rule}
use Rattle.made_rules.specs.Rules.{rules_in}
use Rattle.made_rules.specs.declared.made.Made.{Made}
use Rattle.made_rules.specs.declared.made.Origin.{Origin}
use Rattle.made_rules.specs.declared.made.Origin.TheVariants.{Leaf, Rule as RuleOrigin}
use Rattle.hop_rules.specs.Handed.{GivenOf}
use Rattle.hop_rules.specs.Items.{item_for}
use Rattle.hop_rules.specs.Standing.{asked, leaving, standing}
use Rattle.hop_rules.specs.declared.exits.Exit.{Exit}
use Rattle.hop_rules.specs.declared.standing.Departure.{Departure}

-- a rule of the node to which the link of this place leads
pub record Arrival : Type 0 where
  pub place : ℕ
  pub held : Held Rule

-- a rule to which the link of a place leads
abbrev pub arrival : ℕ → Held Rule → Arrival
arrival place h = record { place = place; held = h }

-- the name of a rule of the virtual switch, which is a leaf of its nodes, and that of a rule to which a link leads
abbrev pub own : ℕ → Origin
own id = Leaf (record { member = 0; kind = id })

abbrev pub arrived : ℕ → ℕ → Origin
arrived place id = RuleOrigin place id

-- a rule that stands alone, and the rule of a pair
abbrev pub made_alone : ℕ → Rule → Made
made_alone id r = record { rule = r; origins = own id ∷ [] }

abbrev pub made_of_pair : ℕ → Arrival → Rule → Made
made_of_pair id y r = record { rule = r; origins = own id ∷ arrived y.place y.held.id ∷ [] }

-- what a rule makes alone which leaves so
abbrev pub lone_by : ℕ → ℕ → Rule → Option Departure → Option Made
lone_by size id a None = Some (made_alone id (hop_lone size a))
lone_by size id a (Some l) = None

-- what it makes with a rule of the node where it comes to
abbrev pub pair_by : ℕ → ℕ → Rule → Arrival → Option Departure → Option Made
pair_by size id a y None = None
pair_by size id a y (Some l) =
    if l.exit.place == y.place then option_map (made_of_pair id y) (hop_rule size l.rewrite a y.held.item) else None

-- what a rule that leaves so makes with one of the node to which its own link leads
abbrev pub pair_with : ℕ → ℕ → Rule → Departure → Held Rule → Option Made
pair_with size id a l b = pair_by size id a (arrival l.exit.place b) (Some l)

-- how the node of a port makes rules, where the rules of its peers have `size` levels
abbrev pub hop_way : Place → ℕ → List Exit → Way (Held Rule) Arrival Made
hop_way at size exits = record {
  lone = λ h. option_and_then (λ a. lone_by size h.id a (leaving exits at.port a.tail)) (standing at h.item);
  pair = λ h y. option_and_then (λ a. pair_by size h.id a y (leaving exits at.port a.tail)) (standing at h.item);
  other = λ y. None;
}

-- what these rules of the virtual switch make, with those to which its links lead
abbrev pub made_left : Place → ℕ → List Exit → List Arrival → List (Held Rule) → List Made
made_left at size exits ys hs = flat_map (by_one (hop_way at size exits) ys) hs

-- what these rules to which its links lead make with these of the virtual switch
abbrev pub made_right : Place → ℕ → List Exit → List (Held Rule) → List Arrival → List Made
made_right at size exits hs ys = flat_map (λ y. filter_map (λ h. (hop_way at size exits).pair h y) hs) ys

-- whether a rule that leaves so could meet one of the node where it comes to
abbrev pub could_by : Rule → Arrival → Option Departure → Bool
could_by a y None = false
could_by a y (Some l) = (l.exit.place == y.place) && overlaps (asked a.m l) y.held.item.m

-- whether a rule of the virtual switch could, as it stands at a port
abbrev pub could : Place → List Exit → Held Rule → Arrival → Bool
could at exits h y = option_map_or (λ a. could_by a y (leaving exits at.port a.tail)) (standing at h.item) false

-- whether what has this tail goes on, from a port, over the link of a place
abbrev pub leads_to : List Exit → ℕ → Tail → ℕ → Bool
leads_to exits port tail place =
    option_map_or (λ (l : Departure). l.exit.place == place) (leaving exits port tail) false

-- whether a rule of the virtual switch stands at a port and goes on from there over the link of a place
abbrev pub leads_over : Place → List Exit → ℕ → Held Rule → Bool
leads_over at exits place h =
    option_map_or (λ (a : Rule). leads_to exits at.port a.tail place) (standing at h.item) false

-- some exit leads to this place
abbrev pub leads_there : ℕ → List Exit → Bool
leads_there k exits = list_any (λ (e : Exit). k == e.place) exits

-- a node: its rules, and whether others read it
pub record NodeOf : Type 0 where
  pub held : List (Held Made)
  pub read : Bool

-- the rules of a node to which the link of a place leads
abbrev pub arrive : ℕ → List (Held Made) → List Arrival
arrive place held = map (arrival place) (rules_in held)

-- the rules of the node at a place
abbrev pub held_at : List NodeOf → ℕ → List (Held Made)
held_at below place = option_map_or (λ n. n.held) (slice_get below place) []

-- those to which an exit leads, and those to which all lead
abbrev pub arriving : List NodeOf → Exit → List Arrival
arriving below e = arrive e.place (held_at below e.place)

abbrev pub arrivals : List NodeOf → List Exit → List Arrival
arrivals below exits = flat_map (arriving below) exits

-- each number stands once
abbrev pub Once : List ℕ → Type 0
Once [] = Unit {0}
Once (x ∷ xs) = AllByRecursion (λ y. (x == y) ≡ false) xs × Once xs

-- a rule of a virtual switch of so many levels
pub record IsOwn (size : ℕ) (a : Rule) : Type 0 where
  pub below : a.level < size
  pub normal : IsNormal a.m

-- a rule of the node of a port, of so many levels
pub record IsAt (size port : ℕ) (b : Rule) : Type 0 where
  pub below : b.level < size
  pub normal : IsNormal b.m
  pub arrives : agree (Some port) b.m.in_port ≡ true

-- the rules to which an exit leads are of the port there, and below this size
abbrev pub AreArriving : List NodeOf → ℕ → Exit → Type 0
AreArriving below size e =
    AllByRecursion (λ (b : Held Rule). IsAt size e.peer.port b.item) (rules_in (held_at below e.place))

-- Each exit leads to another node, which is read; the rules of the virtual switch are below `own`, those to which the
-- exits lead below `size`, and what both make fits.
pub record IsSetUp (own size : ℕ) (given : GivenOf) (below : List NodeOf) : Type 0 where
  pub places : AllByRecursion (λ (e : Exit). e.place < length below) given.exits
  pub distinct : Once (map (λ (e : Exit). e.place) given.exits)
  pub read : AllByRecursion (λ (n : NodeOf). n.read ≡ true) below
  pub rules : AllByRecursion (λ (a : Held Rule). IsOwn own a.item) given.rules
  pub arriving : AllByRecursion (AreArriving below size) given.exits
  pub positive : 0 < size
  pub fits : own * size < 2 ^ 64

-- a rule of the virtual switch, or one as it stands at a port of it, in such surroundings
pub record CanMake (size : ℕ) (given : GivenOf) (below : List NodeOf) (a : Rule) : Type 0 where
  pub own : ℕ
  pub set_up : IsSetUp own size given below
  pub is_own : IsOwn own a

-- a rule of the node to which the link of a place leads: of the port to which the exits of that place lead, and below
-- this size
pub record CanMeet (size : ℕ) (exits : List Exit) (place : ℕ) (b : Rule) : Type 0 where
  pub below : b.level < size
  pub arrives : AllByRecursion (λ (e : Exit). (e.place == place) ≡ true → IsAt size e.peer.port b) exits

-- What the rules of a node stand for.
abbrev pub IsMadeOf : Place → ℕ → List Exit → List (Held Rule) → List NodeOf → List (Held Made) → Type 0
IsMadeOf at size exits rules below held =
    IsPermutation (map item_of held) (made (hop_way at size exits) rules (arrivals below exits))

-- a rule as an index finds it
abbrev pub found : Held Rule → Option Item
found h = Some (item_for h.id h.item.m)

-- the node to which an exit leads has the rules of its port from scratch, for so many hops
abbrev pub IsOf : Fabric → ℕ → List NodeOf → Exit → Type 0
IsOf f n below e = IsPermutation (map item_of (rules_in (held_at below e.place))) (node f n e.peer.v e.peer.port)
