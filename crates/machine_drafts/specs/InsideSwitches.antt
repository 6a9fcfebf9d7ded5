-- What is read of switches that are kept in a list, by their numbers.
use Rattle.std.specs.Prelude.{ℕ, Bool, true, false, ◌||◌, not, List, [], filter, map, option_map, slice_get}
use Rattle.std.specs.Option.{option_map_or}
use Rattle.outbox.specs.Outboxes.{OutboxOf}
use Rattle.switch_state.specs.Known.{is_dark, unanswered}
use Rattle.virtual_topology.specs.Rows.{Spot}
use Rattle.virtual_topology.specs.Wires.{outside_of}
use Rattle.virtual_topology.specs.declared.plan.TopologyPlan.{TopologyPlan}
use Rattle.policies.specs.Policies.{PolicyOf, plan}
use Rattle.machine_meaning.specs.Names.{all_ports}
use Rattle.machine_meaning.specs.States.{SwitchOf}
use Rattle.waitings.specs.declared.state.Part.{Part}

-- the switch of a number is up
abbrev pub is_up_among : List SwitchOf → ℕ → Bool
is_up_among switches n =
    option_map_or (λ (o : OutboxOf). o.up) (option_map (λ (x : SwitchOf). x.outbox) (slice_get switches n)) false

-- the barriers that the switch of a number hasn't answered
abbrev pub unanswered_among : List SwitchOf → ℕ → List Part
unanswered_among switches n =
    map (λ number. record { switch = n; number = number })
    (option_map_or (λ (x : SwitchOf). unanswered x.known) (slice_get switches n) [])

-- a physical port is dark: its switch isn't up, or said that the port is down
abbrev pub is_dark_among : List SwitchOf → Spot → Bool
is_dark_among switches (n, q) =
    option_map_or (λ (x : SwitchOf). not x.outbox.up || is_dark x.known q) (slice_get switches n) true

-- an outside port of a virtual switch is dark
abbrev pub is_dark_over : TopologyPlan → List SwitchOf → ℕ → ℕ → Bool
is_dark_over t switches v port = option_map_or (is_dark_among switches) (outside_of t v port) false

-- the dark outside ports of a virtual switch
abbrev pub dark_ports_among : PolicyOf → List SwitchOf → ℕ → List ℕ
dark_ports_among p switches v = filter (is_dark_over (plan p) switches v) (all_ports p v).outside
