-- A poll begins: the switches of a virtual switch that are up are asked for their numbers.
use Rattle.std.specs.Prelude.{ℕ, List, [], ◌∷◌, ◌++◌, filter, map}
use Rattle.cv_io.specs.declared.leaf.Who.TheVariants.{Switch}
use Rattle.policies.specs.Policies.{PolicyOf}
use Rattle.machine_meaning.specs.Drafts.{Draft}
use Rattle.machine_meaning.specs.Sessions.{is_up}
use Rattle.machine_meaning.specs.States.{State}
use Rattle.waitings.specs.Waitings.{is_of_ports, unwritten}
use Rattle.machine_meaning.specs.Ways.{switches_of}
use Rattle.waitings.specs.declared.state.Part.{Part}
use Rattle.waitings.specs.declared.state.Purpose.{Purpose}

-- the switches of a virtual switch that are up
abbrev pub switches_up : PolicyOf → State → ℕ → List ℕ
switches_up p s v = filter (λ n. is_up s (Switch n)) (switches_of p v)

-- these parts are waited for, for a purpose
abbrev pub begin_waiting : ℕ → List Part → Purpose → Draft → Draft
begin_waiting v parts purpose d = record d {
  state = record d.state { waiting = d.state.waiting ++ record { v = v; parts = parts; purpose = purpose } ∷ [] };
}

-- the poll of a virtual switch begins, for a purpose
abbrev pub begin_poll : PolicyOf → ℕ → Purpose → Draft → Draft
begin_poll p v purpose d = record (begin_waiting v (map unwritten (switches_up p d.state v)) purpose d) {
  asked = d.asked ++ record { v = v; ports = is_of_ports purpose } ∷ [];
}
