-- Which outside ports are down.
use Rattle.std.specs.Prelude.{ℕ, Bool, true, false, ◌||◌, not, List, filter, slice_get}
use Rattle.std.specs.Option.{option_map_or}
use Rattle.policies.specs.Policies.{PolicyOf, plan}
use Rattle.switch_state.specs.Known.{is_dark}
use Rattle.virtual_topology.specs.Rows.{Spot}
use Rattle.virtual_topology.specs.Wires.{outside_of}
use Rattle.machine_meaning.specs.Names.{all_ports}
use Rattle.machine_meaning.specs.States.{State, SwitchOf}

-- a physical port is dark: its switch isn't up, or said that the port is down
abbrev pub is_dark_on : State → Spot → Bool
is_dark_on s (n, q) =
    option_map_or (λ (x : SwitchOf). not x.outbox.up || is_dark x.known q) (slice_get s.switches n) true

-- an outside port of a virtual switch is dark
abbrev pub is_dark_at : PolicyOf → State → ℕ → ℕ → Bool
is_dark_at p s v port = option_map_or (is_dark_on s) (outside_of (plan p) v port) false

-- the dark outside ports of a virtual switch
abbrev pub dark_ports : PolicyOf → State → ℕ → List ℕ
dark_ports p s v = filter (is_dark_at p s v) (all_ports p v).outside
