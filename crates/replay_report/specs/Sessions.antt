-- The sessions of a policy by their names, in the order of reports: members and then switches, each in the order of the
-- file.
use Rattle.std.specs.Prelude.{ℕ, ◌+◌, List, [], ◌∷◌, ◌++◌, Option, Some, None, map, nat_eq, if◌then◌else◌}
use Rattle.std.specs.Cmp.Lexicographic.{pointwise}
use Rattle.std.specs.List.{enumerate_from}
use Rattle.cv_io.specs.declared.leaf.Who.{Who}
use Rattle.cv_io.specs.declared.leaf.Who.TheVariants.{Member, Switch, Audit}
use Rattle.policies.specs.Policies.{PolicyOf}
use Rattle.policies.specs.declared.policy.MemberItem.{MemberItem}
use Rattle.virtual_topology.specs.declared.plan.SwitchItem.{SwitchItem}
use Rattle.virtual_topology.specs.declared.plan.VirtualItem.{VirtualItem}
use Rattle.replay_report.specs.declared.sessions.Named.{Named}
use Rattle.replay_report.specs.declared.sessions.Found.{Found}

-- the name of a member's session: a controller's name, `@` (64), a virtual switch's name
abbrev pub member_name : MemberItem → List ℕ
member_name m = (m.controller ++ 64 ∷ []) ++ m.vsw

abbrev pub named_member : ℕ × MemberItem → Named
named_member (n, m) = record { name = member_name m; who = Member n }

abbrev pub named_switch : ℕ × SwitchItem → Named
named_switch (n, s) = record { name = s.name; who = Switch n }

abbrev pub sessions_of : PolicyOf → List Named
sessions_of p = map named_member (enumerate_from 0 p.members) ++ map named_switch (enumerate_from 0 p.switches)

-- the first session of a name, where the list starts at a place
abbrev pub found_from : ℕ → List ℕ → List Named → Option Found
found_from at name [] = None
found_from at name (x ∷ xs) =
    if pointwise nat_eq x.name name then Some (record { at = at; who = x.who }) else found_from (at + 1) name xs

-- the session of a name, if the policy has it
abbrev pub session_named : PolicyOf → List ℕ → Option Found
session_named p name = found_from 0 name (sessions_of p)

-- the first virtual switch of a name, where the list starts at a number
abbrev pub virtual_from : ℕ → List ℕ → List VirtualItem → Option ℕ
virtual_from v name [] = None
virtual_from v name (x ∷ xs) = if pointwise nat_eq x.name name then Some v else virtual_from (v + 1) name xs

abbrev pub virtual_named : PolicyOf → List ℕ → Option ℕ
virtual_named p name = virtual_from 0 name p.virtuals
