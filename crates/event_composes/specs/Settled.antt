-- What stands on switches is what the setting gives, so that composing anew changes nothing.
use Rattle.std.specs.Prelude.{◌≡◌, ℕ, Bool, true, false, Some, List, [], map, slice_get}
use Rattle.std.specs.List.{AllByRecursion}
use Rattle.agreement.specs.Entries.{entries_of}
use Rattle.agreement.specs.declared.state.Setting.{Setting}
use Rattle.install_plan.specs.declared.written.Written.{Written}
use Rattle.policies.specs.Policies.{PolicyOf}
use Rattle.switch_meaning.specs.Keys.{installed}
use Rattle.switch_meaning.specs.declared.entry.PhysEntry.{PhysEntry}
use Rattle.machine_drafts.specs.MemberDrafts.{IsUnplanned}
use Rattle.machine_drafts.specs.Outcomes.{Bases}
use Rattle.machine_drafts.specs.SwitchDrafts.{IsUnmoved}
use Rattle.machine_drafts.specs.Views.{member_of, standing_of, switch_of}
use Rattle.machine_drafts.specs.declared.outcome.Outcome.{Outcome}
use Rattle.machine_meaning.specs.Batches.{batch_between, standing_after}
use Rattle.machine_meaning.specs.Sessions.{is_switch}
use Rattle.machine_meaning.specs.Settings.{setting_of, setting_with, ups_with}
use Rattle.machine_meaning.specs.States.{State}

-- whatever the next cookie is: nothing goes and nothing comes of what is wanted, and all stays
pub record IsSettled (standing : List Written) (wanted : List PhysEntry) : Type 0 where
  pub nothing : (next : ℕ) → batch_between next standing wanted ≡ record { deletes = []; adds = [] }
  pub stays : (next : ℕ) → standing_after next standing wanted ≡ standing

-- each switch that is up has what the setting gives
abbrev pub AreSettled : Setting → List Bool → List (List Written) → Type 0
AreSettled t ups standing =
    (n : ℕ) (stood : List Written) → slice_get ups n ≡ Some true → slice_get standing n ≡ Some stood
    → IsSettled stood (installed (entries_of t n))

-- in a state
abbrev pub IsSettledState : PolicyOf → State → Type 0
IsSettledState p s = AreSettled (setting_of p s) (ups_with s.switches) s.standing

-- and as an event began
abbrev pub WasSettled : PolicyOf → Bases → Type 0
WasSettled p b =
    AreSettled (setting_with p b.exprs (map member_of b.members) (map switch_of b.switches))
    (ups_with (map switch_of b.switches)) (map standing_of b.switches)

-- nothing that composition reads changed since, and no round of a switch begins
pub record IsUnchanged (o : Outcome) : Type 0 where
  pub exprs : o.exprs.now ≡ o.exprs.base
  pub members : AllByRecursion IsUnplanned o.members
  pub switches : AllByRecursion IsUnmoved o.switches
  pub begun : (n : ℕ) → is_switch n o.begun ≡ false
