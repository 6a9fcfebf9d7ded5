-- What composition reads of the present state.
use Rattle.std.proofs.Common.{◌≡◌, ◌∙◌, List, ap}
use Rattle.agreement.specs.declared.state.Setting.{Setting}
use Rattle.policies.specs.Policies.{PolicyOf}
use Rattle.machine_meaning.specs.Drafts.{Draft, untouched}
use Rattle.machine_meaning.specs.Settings.{setting_of, setting_with}
use Rattle.machine_drafts.specs.Machines.{at_moment, state_in_held}
use Rattle.machine_drafts.specs.MemberDrafts.{MemberDraftOf}
use Rattle.machine_drafts.specs.Outcomes.{draft_in, members_in, switches_in}
use Rattle.machine_drafts.specs.SwitchDrafts.{SwitchDraftOf}
use Rattle.machine_drafts.specs.declared.held.Held.{Held}
use Rattle.machine_drafts.specs.declared.outcome.Outcome.{Outcome}

-- the setting of a draft that has just begun is that of the state
pub present_setting : (p : PolicyOf) (held : Held) (o : Outcome) (members : List MemberDraftOf)
    (switches : List SwitchDraftOf) (setting : Setting)
    → draft_in o ≡ untouched (at_moment held.moment (state_in_held held)) → members ≡ o.members → switches ≡ o.switches
    → setting ≡ setting_with p o.exprs.now (members_in members) (switches_in switches)
    → setting ≡ setting_of p (state_in_held held)
present_setting p held o members switches setting begun same_members same_switches is =
    is
    ∙ (ap (λ (ms : List MemberDraftOf). setting_with p o.exprs.now (members_in ms) (switches_in switches)) same_members
    ∙ (ap (λ (xs : List SwitchDraftOf). setting_with p o.exprs.now (members_in o.members) (switches_in xs))
    same_switches
    ∙ ap (λ (d : Draft). setting_with p d.state.exprs d.state.members d.state.switches) begun))
