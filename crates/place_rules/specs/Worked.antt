-- Entries of rules and fixed entries over the plans of topologies, computed.
use Rattle.std.specs.Prelude.{◌≡◌, ℕ, true, false, None, Some, List, [], ◌∷◌, map}
use Rattle.of10_match.specs.Fields.{MatchOf}
use Rattle.of10_match.specs.Matching.{at_port, everything}
use Rattle.of10_actions.specs.Rewriting.{no_rewrite}
use Rattle.of10_actions.specs.declared.action.Action.TheVariants.{Output, SetVlanVid, StripVlan}
use Rattle.of10_actions.specs.declared.effects.Dest.TheVariants.{Flood, Port}
use Rattle.of10_actions.specs.declared.effects.Out.{Out}
use Rattle.of10_actions.specs.declared.effects.Tail.TheVariants.{Nothing}
use Rattle.virtual_topology.specs.declared.plan.TopologyPlan.{TopologyPlan}
use Rattle.virtual_topology.specs.Worked.{linked, outside_at, row_of_three, s1, switch_of, v1, virtual_of}
use Rattle.policy_meaning.specs.declared.rule.Rule.{Rule}
use Rattle.switch_meaning.specs.WorkedFlood.{at_goal, by_tag, fixed, onward}
use Rattle.place_rules.specs.Placed.{fixed_of, placed_of}

-- a rule of a level, with these outs
abbrev pub rule : MatchOf → ℕ → List Out → Rule
rule m level outs = record {
  m = m;
  level = level;
  touched = true;
  outs = outs;
  tail = Nothing;
  ancestry = record { member = 0; kind = 3 } ∷ [];
}

-- what comes by the virtual port 1 is sent to each other one
abbrev pub flooding : Rule
flooding = rule (at_port 1) 128 (map (λ p. record { rewrite = no_rewrite; dest = Flood 0 p }) (2 ∷ 3 ∷ 4 ∷ []))

-- over three switches: with the tag of each port on other switches, and without it on its own
abbrev pub FloodIsPlaced : Type 0
FloodIsPlaced =
    placed_of row_of_three 0 1 flooding
    ≡ Some (record {
      m = by_tag 1 65535;
      priority = 129;
      actions = SetVlanVid 2 ∷ Output 3 0 ∷ StripVlan ∷ Output 2 0 ∷ SetVlanVid 4 ∷ Output 3 0 ∷ [];
      ancestry = record { member = 0; kind = 3 } ∷ [];
    })

-- the fixed entries of the three switches
abbrev pub TagsAreCarried : Type 0
TagsAreCarried =
    (fixed_of row_of_three [] 0 ≡ fixed (at_port 1) 0 [] ∷ fixed (at_port 2) 0 [] ∷ at_goal 3 1 1 ∷ at_goal 3 3 2 ∷ [])
    × (fixed_of row_of_three [] 1 ≡ fixed (at_port 1) 0 [] ∷ onward 4 1 3 ∷ at_goal 3 2 1 ∷ at_goal 4 2 1 ∷ onward 4 3 3
    ∷ onward 3 4 4 ∷ [])
    × (fixed_of row_of_three [] 2 ≡ fixed (at_port 1) 0 [] ∷ at_goal 3 4 1 ∷ [])

-- hops that end at the port where the packet came in: on one switch, by IN_PORT
abbrev pub IngressIsWritten : Type 0
IngressIsWritten =
    placed_of linked 0 1 (rule (at_port 1) 2336 (record { rewrite = no_rewrite; dest = Port 0 1 } ∷ []))
    ≡ Some (record {
      m = at_port 1;
      priority = 2337;
      actions = Output 0xfff8 0 ∷ [];
      ancestry = record { member = 0; kind = 3 } ∷ [];
    })

-- a virtual switch of two ports that is all of a switch of four
abbrev pub two_of_four : TopologyPlan
two_of_four = record {
  switches = switch_of s1 1 (1 ∷ 2 ∷ 3 ∷ 4 ∷ []) ∷ [];
  cables = [];
  virtuals = virtual_of v1 161 (outside_at 1 s1 1 ∷ outside_at 2 s1 2 ∷ []) ∷ [];
  links = [];
}

-- its rules are for all ports, and the other ports have drop entries
abbrev pub OthersAreDropped : Type 0
OthersAreDropped =
    (placed_of two_of_four 0 0 (rule everything 1 [])
    ≡ Some (record { m = everything; priority = 2; actions = []; ancestry = record { member = 0; kind = 3 } ∷ [] }))
    × (fixed_of two_of_four (true ∷ []) 0 ≡ fixed (at_port 3) 65535 [] ∷ fixed (at_port 4) 65535 [] ∷ [])
    × (fixed_of two_of_four (false ∷ []) 0 ≡ [])

-- a spread virtual switch takes no tagged packets, and a port that is not there has no entry
abbrev pub OthersAreNot : Type 0
OthersAreNot = (placed_of row_of_three 0 1 (rule (by_tag 1 7) 128 []) ≡ None)
    × (placed_of row_of_three 0 9 (rule (at_port 9) 128 []) ≡ None)
