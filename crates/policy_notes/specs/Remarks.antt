-- What the operator is told of a policy before it is served.
use Rattle.std.specs.Prelude.{ℕ, Bool, true, false, ◌==◌, ◌&&◌, ◌||◌, not, nat_lt, List, [], ◌∷◌, ◌++◌, Result, Ok, Err}
use Rattle.std.specs.Prelude.{codes, decimal, if◌then◌else◌, take}
use Rattle.std.specs.List.{enumerate_from, list_any}
use Rattle.std.specs.Str.{bytes_eq}
use Rattle.grants.specs.Names.{has_bit}
use Rattle.policies.specs.Exprs.{exprs_of}
use Rattle.policies.specs.Policies.{PolicyOf}
use Rattle.policies.specs.declared.fault.PolicyFault.{PolicyFault}
use Rattle.policies.specs.declared.policy.MemberItem.{MemberItem}
use Rattle.policy_expr.specs.Policy.{Policy, member, members_of, override, parallel, sequential}
use Rattle.policy_notes.specs.Notes.{said}
use Rattle.policy_notes.specs.Sentences.{between}

-- CONTROLLER@VIRTUAL
abbrev pub name_of : MemberItem → List ℕ
name_of m = m.controller ++ (codes "@" ++ m.vsw)

-- a sentence on a member, where it is so
abbrev pub remark_if : Bool → MemberItem → List ℕ → List ℕ
remark_if true m text = said (name_of m ++ text)
remark_if false m text = []

-- the members that stand left of a `|>`
abbrev pub lefts : Policy → List ℕ
lefts (member n) = []
lefts (parallel a b) = lefts a ++ lefts b
lefts (sequential a b) = lefts a ++ lefts b
lefts (override a b) = members_of a ++ lefts b

-- a member of this number does
abbrev pub stands_left : ℕ → Policy → Bool
stands_left n e = list_any (λ other. other == n) (lefts e)

-- another member, before it, has its address
abbrev pub shares_address : List MemberItem → ℕ → MemberItem → Bool
shares_address members n m = list_any (λ (other : MemberItem). bytes_eq other.address m.address) (take n members)

-- it is told packets that it has no entry for, or may have them sent to it by the action `controller`, whose bit is 1
abbrev pub is_told : MemberItem → Bool
is_told m = m.grant.misses || has_bit m.grant.actions 1

-- it has the address of another member
unfoldable pub shared_sentence : List ℕ → List ℕ
shared_sentence address =
    between (codes " has the address of another member, ") address (codes ": one controller meets both")

-- it asks for packets that it has no entry for, and stands left of a `|>`
abbrev pub is_unheard : List Policy → ℕ → MemberItem → Bool
is_unheard es n m = m.grant.misses && list_any (stands_left n) es

-- it is told packets, and may send none
abbrev pub is_mute : MemberItem → Bool
is_mute m = is_told m && not m.grant.packet_out

-- it isn't told all that it asks for
unfoldable pub left_words : List ℕ
left_words = codes " stands left of |>, where misses tell it nothing unless another member there has an entry"

-- it can't answer what it is told
unfoldable pub mute_words : List ℕ
mute_words = codes " is told packets and may send none: it lacks packet_out = true"

-- what there is to remark of a member of this number
abbrev pub member_remarks : List MemberItem → List Policy → ℕ × MemberItem → List ℕ
member_remarks members es (n, m) =
    (remark_if (shares_address members n m) m (shared_sentence m.address)
    ++ remark_if (is_unheard es n m) m left_words)
    ++ remark_if (is_mute m) m mute_words

-- the same of each
abbrev pub each_remarks : List MemberItem → List Policy → List (ℕ × MemberItem) → List ℕ
each_remarks members es [] = []
each_remarks members es (m ∷ rest) = member_remarks members es m ++ each_remarks members es rest

-- few rounds
abbrev pub rounds_remark : ℕ → List ℕ
rounds_remark rounds =
    if nat_lt rounds 1000000
    then said (between (codes "rounds = ") (decimal rounds)
    (codes ": after so many connections an endpoint is served no more; 1000000 is the most"))
    else []

-- where switches connect
abbrev pub served_line : List ℕ → List ℕ
served_line listen =
    said (between (codes "switches connect at ") listen (codes "; each member is dialled at its address"))

-- over these expressions
abbrev pub remarks_over : PolicyOf → List Policy → List ℕ
remarks_over p es =
    (rounds_remark p.rounds ++ each_remarks p.members es (enumerate_from 0 p.members)) ++ served_line p.listen

-- over the expressions that the policy has
abbrev pub remarks_by : PolicyOf → Result (List Policy) PolicyFault → List ℕ
remarks_by p (Ok es) = remarks_over p es
remarks_by p (Err fault) = []

-- the remarks on a policy, a line each
abbrev pub remarks_of : PolicyOf → List ℕ
remarks_of p = remarks_by p (exprs_of p.virtuals p.members)
