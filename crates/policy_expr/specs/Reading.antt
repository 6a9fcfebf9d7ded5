-- What reading a text gives: the policy that it stands for, or the first fault.
use Rattle.std.specs.Prelude.{ℕ, false, List, [], ◌∷◌, ◌++◌, Option, None, Some, Result, Ok, Err, if◌then◌else◌, nat_lt}
use Rattle.std.specs.Prelude.{length}
use Rattle.std.specs.Option.{option_map, option_or}
use Rattle.policy_expr.specs.declared.member.MemberName.{MemberName}
use Rattle.policy_expr.specs.declared.fault.ExprFault.{ExprFault}
use Rattle.policy_expr.specs.declared.fault.ExprFault.TheVariants.{Syntax, Unknown, Twice, Unused, TooMany}
use Rattle.policy_expr.specs.declared.fault.ExprFault.TheVariants.{ParallelLeft}
use Rattle.policy_expr.specs.Policy.{Policy, member, parallel, sequential, override}
use Rattle.policy_expr.specs.Signs.{Sign, name, plus, chain, fallback, opening, closing, other, signs_of}
use Rattle.policy_expr.specs.Members.{index_of, first_unknown, first_repeated, first_unused, left_leaves, first_left}

-- what stands before an operand inside one pair of parentheses: the left of `|>`, of `+` and of `>>`
pub record Pending : Type 0 where
  pub over : Option Policy
  pub par : Option Policy
  pub seq : Option Policy

-- nothing stands before
abbrev pub nothing : Pending
nothing = record { over = None; par = None; seq = None }

-- how far reading is: what is pending outside, from the innermost parenthesis on, and inside; the operand
-- that was read last, if an operator may follow; and the names so far
pub record State : Type 0 where
  pub outside : List Pending
  pub inside : Pending
  pub operand : Option Policy
  pub names : List (List ℕ)

abbrev pub start : State
start = record { outside = []; inside = nothing; operand = None; names = [] }

-- an operand with what stands to its left
abbrev pub joined : (Policy → Policy → Policy) → Option Policy → Policy → Policy
joined operator None p = p
joined operator (Some left) p = operator left p

-- the operands of a chain, of a sum and of the whole, with the last one
abbrev pub chained : Pending → Policy → Policy
chained f p = joined sequential f.seq p

abbrev pub summed : Pending → Policy → Policy
summed f p = joined parallel f.par (chained f p)

abbrev pub whole : Pending → Policy → Policy
whole f p = joined override f.over (summed f p)

-- an operand is wanted
abbrev pub operand_step : List MemberName → State → Sign → Option State
operand_step members s (name n) =
    Some (record {
      outside = s.outside;
      inside = s.inside;
      operand = Some (member (index_of members n));
      names = s.names ++ n ∷ [];
    })
operand_step members s opening =
    if nat_lt (length s.outside) 32
    then Some (record { outside = s.inside ∷ s.outside; inside = nothing; operand = None; names = s.names })
    else None
operand_step members s plus = None
operand_step members s chain = None
operand_step members s fallback = None
operand_step members s closing = None
operand_step members s other = None

-- what stands before the operand that follows an operator
abbrev pub after_chain : Pending → Policy → Pending
after_chain f p = record { over = f.over; par = f.par; seq = Some (chained f p) }

abbrev pub after_plus : Pending → Policy → Pending
after_plus f p = record { over = f.over; par = Some (summed f p); seq = None }

abbrev pub after_fallback : Pending → Policy → Pending
after_fallback f p = record { over = Some (whole f p); par = None; seq = None }

-- a parenthesis is closed
abbrev pub closed : List Pending → Pending → Policy → List (List ℕ) → Option State
closed [] inside p names = None
closed (f ∷ fs) inside p names =
    Some (record { outside = fs; inside = f; operand = Some (whole inside p); names = names })

-- an operand was read
abbrev pub operator_step : Policy → State → Sign → Option State
operator_step p s chain =
    Some (record { outside = s.outside; inside = after_chain s.inside p; operand = None; names = s.names })
operator_step p s plus =
    Some (record { outside = s.outside; inside = after_plus s.inside p; operand = None; names = s.names })
operator_step p s fallback =
    Some (record { outside = s.outside; inside = after_fallback s.inside p; operand = None; names = s.names })
operator_step p s closing = closed s.outside s.inside p s.names
operator_step p s (name n) = None
operator_step p s opening = None
operator_step p s other = None

-- the state after a sign, if the sign may stand here
abbrev pub step_at : Option Policy → List MemberName → State → Sign → Option State
step_at None members s sign = operand_step members s sign
step_at (Some p) members s sign = operator_step p s sign

abbrev pub step : List MemberName → State → Sign → Option State
step members s sign = step_at s.operand members s sign

-- what was read: a policy and the names in it, from left to right
pub record Read : Type 0 where
  pub policy : Policy
  pub names : List (List ℕ)

-- the policy of a text that ends here
abbrev pub ended_at : List Pending → Pending → Option Policy → List (List ℕ) → Option Read
ended_at [] inside (Some p) names = Some (record { policy = whole inside p; names = names })
ended_at [] inside None names = None
ended_at (f ∷ fs) inside operand names = None

abbrev pub ended : State → Option Read
ended s = ended_at s.outside s.inside s.operand s.names

-- what signs give, or the place of the first that cannot stand where it does; `end` is the end's
abbrev pub end_result : ℕ → Option Read → Result Read ℕ
end_result end None = Err end
end_result end (Some read) = Ok read

abbrev pub run_on : ℕ → Option State → (State → Result Read ℕ) → Result Read ℕ
run_on place None next = Err place
run_on place (Some s) next = next s

abbrev pub run : List MemberName → ℕ → State → List (ℕ × Sign) → Result Read ℕ
run members end s [] = end_result end (ended s)
run members end s (sign ∷ signs) = run_on sign.0 (step members s sign.1) (λ after. run members end after signs)

-- the first fault of what was read
abbrev pub refusal : List MemberName → Read → Option ExprFault
refusal members read =
    option_or (option_map Unknown (first_unknown members read.names))
    (option_or (option_map Twice (first_repeated [] read.names))
    (option_or (option_map Unused (first_unused read.names members))
    (option_or (if nat_lt 12 (length read.names) then Some (TooMany (length read.names)) else None)
    (option_map ParallelLeft (first_left members (left_leaves false read.policy) read.names)))))

-- what was read, unless it is refused
abbrev pub unless : Option ExprFault → Policy → Result Policy ExprFault
unless None p = Ok p
unless (Some fault) p = Err fault

abbrev pub judged : List MemberName → Result Read ℕ → Result Policy ExprFault
judged members (Err place) = Err (Syntax place)
judged members (Ok read) = unless (refusal members read) read.policy

-- what a text gives
abbrev pub reading : List MemberName → List ℕ → Result Policy ExprFault
reading members text =
    if nat_lt 1024 (length text) then Err (Syntax 1024)
    else judged members (run members (length text) start (signs_of text))
