-- The settings of policies, and that they are as agreement asks.
use Rattle.std.specs.Prelude.{◌≡◌, ℕ, ◌==◌, ◌||◌, ◌^◌, ◌<◌, ◌≤◌, not, Bool, None, Ok, List, map}
use Rattle.std.specs.List.{enumerate_from, list_all}
use Rattle.agreement.specs.Agree.{Agree, AreInstalled}
use Rattle.agreement.specs.Fitting.{SizesFit}
use Rattle.agreement.specs.declared.state.Setting.{Setting}
use Rattle.grants.specs.Ports.{sees_all}
use Rattle.policy_expr.specs.Policy.{Policy}
use Rattle.policies.specs.Exprs.{exprs_of}
use Rattle.policies.specs.Policies.{PolicyOf, plan}
use Rattle.policies.specs.Sound.{IsSound}
use Rattle.policies.specs.Views.{view_of}
use Rattle.policies.specs.declared.policy.MemberItem.{MemberItem}
use Rattle.policy_meaning.specs.declared.leaf.LeafTable.{LeafTable}
use Rattle.switch_meaning.specs.declared.entry.FlowEntry.{FlowEntry}
use Rattle.virtual_topology.specs.declared.plan.VirtualItem.{VirtualItem}
use Rattle.policy_setting.specs.Premises.{HasSoundTables, IsSoundTopology}
use Rattle.policy_setting.specs.Settings.{setting}

-- a member isn't one of the virtual switch, or sees all its ports
unfoldable pub sees_its : ℕ × VirtualItem → MemberItem → Bool
sees_its v m = not (m.grant.ports.v == v.0) || sees_all m.grant (view_of v.0 v.1 None)

-- for each virtual switch whether all its members see all its ports
unfoldable pub seen : PolicyOf → List Bool
seen p = map (λ (v : ℕ × VirtualItem). list_all (sees_its v) p.members) (enumerate_from 0 p.virtuals)

-- the setting of a policy with these expressions and members' tables, where these physical switches are up
abbrev pub setting_of : PolicyOf → List Policy → List LeafTable → List Bool → Setting
setting_of p exprs tables up = setting (plan p) exprs (seen p) tables up p.hops

-- this is a policy's setting: with the expressions that its texts are
pub record IsSettingOf (p : PolicyOf) (tables : List LeafTable) (up : List Bool) (s : Setting) : Type 0 where
  pub exprs : List Policy
  pub read : exprs_of p.virtuals p.members ≡ Ok exprs
  pub is : s ≡ setting_of p exprs tables up

-- each member's table has as many levels as its bits say
abbrev pub AreSized : List MemberItem → List LeafTable → Type 0
AreSized members tables = map (λ (t : LeafTable). t.size) tables ≡ map (λ (m : MemberItem). 2 ^ m.bits) members

-- what each policy's setting has, whatever the entries of its members
pub record IsReady (s : Setting) : Type 0 where
  pub topology : IsSoundTopology s
  pub some_hops : 0 < s.hops
  pub few_hops : s.hops ≤ 4
  pub sizes : SizesFit s

abbrev pub PoliciesAreReady : Type 0
PoliciesAreReady =
    (p : PolicyOf) → IsSound p → (exprs : List Policy) → exprs_of p.virtuals p.members ≡ Ok exprs
    → (tables : List LeafTable) (up : List Bool) → AreSized p.members tables → IsReady (setting_of p exprs tables up)

-- so switches that have the entries of a policy with sound tables do with each packet what the policy says
abbrev pub PoliciesAgree : Type 0
PoliciesAgree =
    (p : PolicyOf) → IsSound p → (exprs : List Policy) → exprs_of p.virtuals p.members ≡ Ok exprs
    → (tables : List LeafTable) (up : List Bool) → AreSized p.members tables
    → HasSoundTables (setting_of p exprs tables up)
    → (entries : ℕ → List FlowEntry) → AreInstalled (setting_of p exprs tables up) entries
    → Agree (setting_of p exprs tables up) entries
