-- What is said of a packet.
use Rattle.std.specs.Prelude.{◌≡◌, ℕ, Bool, true, false, List, ◌++◌, Option, Some, None}
use Rattle.explain_text.specs.Answers.{asked_text}
pub use Rattle.hyper_core.specs.Worlds.{installed_on, network_in}
use Rattle.machine_meaning.specs.States.{State}
use Rattle.policies.specs.Policies.{PolicyOf}

-- why a packet that comes in at a port of a switch goes where it goes, over what stands now; None where no virtual
-- switch has that port
unfoldable pub asked : PolicyOf → State → List ℕ → ℕ → List ℕ → Option (List ℕ)
asked p s switch port bytes = asked_text p (network_in p s) (installed_on s) switch port bytes

-- it is reported, if it is known
abbrev pub Asks : Bool → Option (List ℕ) → List ℕ → List ℕ → Type 0
Asks true (Some text) old new = new ≡ old ++ text
Asks false None old new = new ≡ old
Asks true None old new = ⊥
Asks false (Some text) old new = ⊥
