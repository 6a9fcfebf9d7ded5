-- The members that an expression may name.
use Rattle.std.specs.Prelude.{ℕ, Bool, true, false, ◌&&◌, List, [], ◌∷◌, ◌++◌, Option, None, Some, if◌then◌else◌}
use Rattle.std.specs.Prelude.{nat_eq, not, map}
use Rattle.std.specs.Cmp.Lexicographic.{pointwise}
use Rattle.policy_expr.specs.declared.member.MemberName.{MemberName}
use Rattle.policy_expr.specs.Policy.{Policy, member, parallel, sequential, override}

-- whether two names are the same
abbrev pub same_name : List ℕ → List ℕ → Bool
same_name a b = pointwise nat_eq a b

-- whether a name is among names
abbrev pub is_among : List (List ℕ) → List ℕ → Bool
is_among [] n = false
is_among (m ∷ ms) n = if same_name m n then true else is_among ms n

-- the first member of that name
abbrev pub member_named : List MemberName → List ℕ → Option MemberName
member_named [] n = None
member_named (m ∷ ms) n = if same_name m.name n then Some m else member_named ms n

-- the number of the first member of that name, or 0
abbrev pub index_of : List MemberName → List ℕ → ℕ
index_of [] n = 0
index_of (m ∷ ms) n = if same_name m.name n then m.index else index_of ms n

-- the first name that no member has
abbrev pub first_unknown : List MemberName → List (List ℕ) → Option (List ℕ)
first_unknown members [] = None
first_unknown members (n ∷ ns) = if is_among (map (λ m. m.name) members) n then first_unknown members ns else Some n

-- the first name that stands again, after the names `seen`
abbrev pub first_repeated : List (List ℕ) → List (List ℕ) → Option (List ℕ)
first_repeated seen [] = None
first_repeated seen (n ∷ ns) = if is_among seen n then Some n else first_repeated (seen ++ n ∷ []) ns

-- the name of the first member that is not named
abbrev pub first_unused : List (List ℕ) → List MemberName → Option (List ℕ)
first_unused names [] = None
first_unused names (m ∷ ms) = if is_among names m.name then first_unused names ms else Some m.name

-- for each leaf whether it stands in a left operand of `+`; `inside` says so of the whole
abbrev pub left_leaves : Bool → Policy → List Bool
left_leaves inside (member index) = inside ∷ []
left_leaves inside (parallel a b) = left_leaves true a ++ left_leaves inside b
left_leaves inside (sequential a b) = left_leaves inside a ++ left_leaves inside b
left_leaves inside (override a b) = left_leaves inside a ++ left_leaves inside b

-- whether the member of that name is plain
abbrev pub is_plain : List MemberName → List ℕ → Bool
is_plain [] n = true
is_plain (m ∷ ms) n = if same_name m.name n then m.plain else is_plain ms n

-- the first name in a left operand of `+` whose member is not plain
abbrev pub first_left : List MemberName → List Bool → List (List ℕ) → Option (List ℕ)
first_left members [] ns = None
first_left members (l ∷ ls) [] = None
first_left members (l ∷ ls) (n ∷ ns) = if l && not (is_plain members n) then Some n else first_left members ls ns
