-- Reading signs one after the other.
use Rattle.std.proofs.Common.{◌≡◌, ℕ, List, [], ◌∷◌, ◌++◌, Option, None, Some, Result, Err, refl, sym, ap, append_assoc}
use Rattle.policy_expr.specs.declared.member.MemberName.{MemberName}
use Rattle.policy_expr.specs.Signs.{Sign}
use Rattle.policy_expr.specs.Reading.{State, Read, step, run, run_on, ended, end_result}
use Rattle.policy_expr.specs.Grammar.{bare, name_of, names_in}

-- what follows a step, if it was taken
abbrev pub onward : Option State → (State → Option State) → Option State
onward None next = None
onward (Some s) next = next s

-- the state after all signs, if each may stand where it does
abbrev pub steps : List MemberName → State → List Sign → Option State
steps members s [] = Some s
steps members s (sign ∷ signs) = onward (step members s sign) (λ after. steps members after signs)

-- the steps of joined signs
pub steps-append : (members : List MemberName) (s : State) (front back : List Sign)
    → steps members s (front ++ back) ≡ onward (steps members s front) (λ after. steps members after back)
steps-append members s [] back = refl
steps-append members s (sign ∷ front) back =
    by_step (step members s sign) (λ after. steps-append members after front back)
  where
    by_step : (o : Option State)
        → ((after : State) → steps members after (front ++ back)
        ≡ onward (steps members after front) (λ last. steps members last back))
        → onward o (λ after. steps members after (front ++ back))
        ≡ onward (onward o (λ after. steps members after front)) (λ last. steps members last back)
    by_step None rest = refl
    by_step (Some after) rest = rest after

-- a run whose signs may all stand ends as the last state does
pub run_ended : (members : List MemberName) (end : ℕ) (s last : State) (signs : List (ℕ × Sign))
    → steps members s (bare signs) ≡ Some last → run members end s signs ≡ end_result end (ended last)
run_ended members end s last [] there = ap (λ (o : Option State). end_of o) there
  where
    end_of : Option State → Result Read ℕ
    end_of None = Err end
    end_of (Some s) = end_result end (ended s)
run_ended members end s last (sign ∷ signs) there =
    by_step (step members s sign.1) (λ after. run_ended members end after last signs) there
  where
    by_step : (o : Option State)
        → ((after : State) → steps members after (bare signs) ≡ Some last
        → run members end after signs ≡ end_result end (ended last))
        → onward o (λ after. steps members after (bare signs)) ≡ Some last
        → run_on sign.0 o (λ after. run members end after signs) ≡ end_result end (ended last)
    by_step None rest there = cc
    by_step (Some after) rest there = rest after there

-- the names of joined signs
pub names_in-append : (front back : List Sign) → names_in (front ++ back) ≡ names_in front ++ names_in back
names_in-append [] back = refl
names_in-append (sign ∷ front) back = rw (names_in-append front back)
    (sym (append_assoc (name_of sign) (names_in front) (names_in back)))
