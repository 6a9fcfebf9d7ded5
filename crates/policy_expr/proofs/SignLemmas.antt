-- The signs of a text from a place on, and what a step leaves of the names.
use Rattle.std.proofs.Common.{◌≡◌, ◌≢◌, ◌∙◌, ℕ, zero, suc, ◌+◌, ◌-◌, ◌<◌, ◌≤◌, Bool, true, false, eqb, List, [], ◌∷◌}
use Rattle.std.proofs.Common.{length, drop, get_or, Option, Some, None, if◌then◌else◌, nat_lt, refl, sym, ap, subst}
use Rattle.std.proofs.Common.{arith}
use Rattle.std.proofs.Math.Seq.{drop-cons}
use Rattle.std.proofs.lemmas.List.{drop-drop, length-append}
use Rattle.std.proofs.lemmas.Bool.Decides.{nat_tests}
use Rattle.policy_expr.specs.declared.member.MemberName.{MemberName}
use Rattle.policy_expr.specs.Policy.{Policy}
use Rattle.policy_expr.specs.Signs.{Sign, name, plus, chain, fallback, opening, closing, other, front_sign, width_of}
use Rattle.policy_expr.specs.Signs.{signs_from}
use Rattle.policy_expr.specs.Reading.{Pending, State, step, step_at, operand_step, operator_step, closed, nothing}

-- bytes that are skipped
pub signs_skip : (k place : ℕ) (bs : List ℕ) → signs_from k place bs ≡ signs_from 0 (place + k) (drop k bs)
signs_skip zero place bs = let same : place + 0 ≡ place = omega arith in rw same refl
signs_skip (suc k) place [] = refl
signs_skip (suc k) place (b ∷ bs) = let same : place + suc k ≡ place + 1 + k = omega arith in
    rw same (signs_skip k (place + 1) bs)

-- the sign at the front and those after it
front : (place : ℕ) (b : ℕ) (bs : List ℕ) (w : ℕ) → b ≢ 32 → 0 < w → w ≡ width_of (front_sign (b ∷ bs)) (b ∷ bs)
    → signs_from 0 place (b ∷ bs) ≡ (place, front_sign (b ∷ bs)) ∷ signs_from 0 (place + w) (drop w (b ∷ bs))
front place b bs zero solid some width = absurd (omega arith)
front place b bs (suc w) solid some width =
    let test : eqb b 32 ≡ false = grind (arith, nat_tests) in
    let after : signs_from (width_of (front_sign (b ∷ bs)) (b ∷ bs) - 1) (place + 1) bs
    ≡ signs_from 0 (place + suc w) (drop w bs) =
    let less : width_of (front_sign (b ∷ bs)) (b ∷ bs) - 1 ≡ w = omega arith in
    let same : place + suc w ≡ place + 1 + w = omega arith in
    rw (less, same) (signs_skip w (place + 1) bs) in
    rw test (ap (λ rest. (place, front_sign (b ∷ bs)) ∷ rest) after)

-- the sign at a place of the text and those after it
pub signs_front :
    (text : List ℕ) (place w : ℕ) → place < length text → get_or text place 0 ≢ 32 → 0 < w
    → w ≡ width_of (front_sign (drop place text)) (drop place text)
    → signs_from 0 place (drop place text) ≡ (place, front_sign (drop place text))
    ∷ signs_from 0 (place + w) (drop (place + w) text)
signs_front text place w within solid some width =
    let cells : drop place text ≡ get_or text place 0 ∷ drop (suc place) text = drop-cons text place 0 within in
    let step : signs_from 0 place (drop place text) ≡ (place, front_sign (drop place text))
    ∷ signs_from 0 (place + w) (drop w (drop place text)) =
    subst (λ (bs : List ℕ). signs_from 0 place bs ≡ (place, front_sign bs) ∷ signs_from 0 (place + w) (drop w bs))
    (sym cells)
    (front place (get_or text place 0) (drop (suc place) text) w solid some
    (subst (λ (bs : List ℕ). w ≡ width_of (front_sign bs) bs) cells width)) in
    step ∙ ap (λ bs. (place, front_sign (drop place text)) ∷ signs_from 0 (place + w) bs) (drop-drop w place text)

-- a state with few names, if there is one
abbrev HasFew : Option State → ℕ → Type 0
HasFew None most = Unit {0}
HasFew (Some s) most = length s.names ≤ most

closed_names : (outside : List Pending) (inside : Pending) (p : Policy) (names : List (List ℕ))
    → HasFew (closed outside inside p names) (length names + 1)
closed_names [] inside p names = tt
closed_names (f ∷ fs) inside p names = omega arith

operand_names : (members : List MemberName) (s : State) (sign : Sign)
    → HasFew (operand_step members s sign) (length s.names + 1)
operand_names members s (name n) = omega (arith, length-append s.names (n ∷ []))
operand_names members s opening = by_room (nat_lt (length s.outside) 32)
  where
    by_room : (b : Bool)
        → HasFew
        (if b then Some (record { outside = s.inside ∷ s.outside; inside = nothing; operand = None; names = s.names })
        else None) (length s.names + 1)
    by_room true = omega arith
    by_room false = tt
operand_names members s plus = tt
operand_names members s chain = tt
operand_names members s fallback = tt
operand_names members s closing = tt
operand_names members s other = tt

operator_names : (p : Policy) (s : State) (sign : Sign) → HasFew (operator_step p s sign) (length s.names + 1)
operator_names p s chain = omega arith
operator_names p s plus = omega arith
operator_names p s fallback = omega arith
operator_names p s closing = closed_names s.outside s.inside p s.names
operator_names p s (name n) = tt
operator_names p s opening = tt
operator_names p s other = tt

step_at_names : (operand : Option Policy) (members : List MemberName) (s : State) (sign : Sign)
    → HasFew (step_at operand members s sign) (length s.names + 1)
step_at_names None members s sign = operand_names members s sign
step_at_names (Some p) members s sign = operator_names p s sign

-- a sign adds one name at most
pub step_names : (members : List MemberName) (s after : State) (sign : Sign) → step members s sign ≡ Some after
    → length after.names ≤ length s.names + 1
step_names members s after sign steps = subst (λ (o : Option State). HasFew o (length s.names + 1)) steps
    (step_at_names s.operand members s sign)
