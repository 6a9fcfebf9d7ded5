-- What switches were put since they came up, and the tables that it makes.
use Rattle.std.specs.Prelude.{◌≡◌, ◌==◌, ℕ, Bool, true, false, List, [], ◌∷◌, ◌++◌, Some, flat_map, if◌then◌else◌}
use Rattle.std.specs.Prelude.{slice_get}
use Rattle.cv_io.specs.declared.leaf.Who.TheVariants.{Switch}
use Rattle.events.specs.declared.event.Event.{Event}
use Rattle.events.specs.declared.event.Event.TheVariants.{Up}
use Rattle.policies.specs.Policies.{PolicyOf}
use Rattle.switch_meaning.specs.BatchLaw.{IsTableOf}
use Rattle.switch_meaning.specs.Tables.{table_after_all}
use Rattle.switch_meaning.specs.declared.entry.FlowEntry.{FlowEntry}
use Rattle.switch_state.specs.Frames.{bodies_in}
use Rattle.switch_state.specs.Writing.{changes_of}
use Rattle.machine_meaning.specs.Runs.{after}
use Rattle.machine_meaning.specs.States.{State, SwitchOf, opening}
use Rattle.machine_meaning.specs.Written.{put_by, standing_at}

-- the table of a switch that takes messages, given as bytes, one after the other: each FLOW_MOD changes it
abbrev pub made_by : List (List ℕ) → List FlowEntry → List FlowEntry
made_by messages table = table_after_all table (flat_map changes_of (bodies_in messages))

-- the event brings the switch of a number up
abbrev pub brings_up : ℕ → Event → Bool
brings_up n (Up (Switch k) arp) = k == n
brings_up n e = false

-- what a switch was put since it last came up, after one more event
abbrev pub put_more : PolicyOf → ℕ → State → Event → List (List ℕ) → List (List ℕ)
put_more p n s e messages = if brings_up n e then put_by p s e n else messages ++ put_by p s e n

abbrev pub put_from : PolicyOf → ℕ → State → List (List ℕ) → List Event → List (List ℕ)
put_from p n s messages [] = messages
put_from p n s messages (e ∷ es) = put_from p n (after p s e) (put_more p n s e messages) es

-- what events put to a switch since the last of them that brought it up
abbrev pub put_since : PolicyOf → ℕ → List Event → List (List ℕ)
put_since p n events = put_from p n (opening p) [] events

-- messages make of any table what stands on a switch, if it is up
abbrev pub Makes : State → ℕ → List (List ℕ) → Type 0
Makes s n messages =
    (x : SwitchOf) → slice_get s.switches n ≡ Some x → x.outbox.up ≡ true
    → (table : List FlowEntry) → IsTableOf (standing_at s n) (made_by messages table)
