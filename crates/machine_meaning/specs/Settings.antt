-- What composition, agreement and packets read of a policy and a state.
use Rattle.std.specs.Prelude.{ℕ, Bool, List, map, zip}
use Rattle.std.specs.List.{enumerate_from}
use Rattle.agreement.specs.declared.state.Setting.{Setting}
use Rattle.member_state.specs.Leaves.{leaf_of}
use Rattle.policy_expr.specs.Policy.{Policy}
use Rattle.policies.specs.Policies.{PolicyOf}
use Rattle.policies.specs.declared.policy.MemberItem.{MemberItem}
use Rattle.policy_meaning.specs.declared.leaf.LeafTable.{LeafTable}
use Rattle.policy_setting.specs.OfPolicies as of_policies
use Rattle.machine_meaning.specs.States.{MemberOf, State, SwitchOf}

-- the table of a member by number, with its levels and what its grant lets it see
abbrev pub table_of : ℕ × (MemberItem × MemberOf) → LeafTable
table_of (n, (m, x)) = leaf_of n m.grant x.kept

abbrev pub tables_with : List MemberItem → List MemberOf → List LeafTable
tables_with items members = map table_of (enumerate_from 0 (zip items members))

-- which switches are up
abbrev pub ups_with : List SwitchOf → List Bool
ups_with switches = map (λ (x : SwitchOf). x.outbox.up) switches

-- the setting of a policy with these expressions, members and switches
abbrev pub setting_with : PolicyOf → List Policy → List MemberOf → List SwitchOf → Setting
setting_with p exprs members switches =
    of_policies.setting_of p exprs (tables_with p.members members) (ups_with switches)

-- the setting of a policy in a state
abbrev pub setting_of : PolicyOf → State → Setting
setting_of p s = setting_with p s.exprs s.members s.switches
