-- What the machine means knows members and switches.
use Rattle.std.specs.Prelude.{◌≡◌, ◌<◌, ◌≤◌, ℕ, length}
use Rattle.cv_io.specs.declared.leaf.Who.{Who}
use Rattle.cv_io.specs.declared.leaf.Who.TheVariants.{Member, Switch}
use Rattle.machine_drafts.specs.Machines.{MachineOf, state_of}
use Rattle.event_composes.specs.Meanings.{StateData, data_in, state_in}
use Rattle.machine_meaning.specs.States.{opening}
use Rattle.machine_answers.specs.Answers.{HasSession}

-- its state has this member or switch
unfoldable pub HasOne : StateData → Who → Type 0
HasOne d who = HasSession (state_in d) who

-- its moment is this second, or a later one
unfoldable pub HasTold : StateData → ℕ → Type 0
HasTold d second = second ≤ (state_in d).moment

-- a machine that was opened knows the members and the switches of its policy
abbrev pub KnowsItsPolicy : Type 0
KnowsItsPolicy =
    (m : MachineOf) → state_of m ≡ opening m.plan → (n : ℕ)
    → (n < length m.plan.members → HasOne (data_in m) (Member n))
    × (n < length m.plan.switches → HasOne (data_in m) (Switch n))
