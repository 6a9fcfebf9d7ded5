-- What derives is read.
use Rattle.std.proofs.Common.{◌≡◌, ◌∙◌, ℕ, ◌+◌, ◌≤◌, true, List, [], ◌∷◌, ◌++◌, length, nat_lt, Option, None, Some, Ok}
use Rattle.std.proofs.Common.{refl, sym, ap, append_assoc, arith}
use Rattle.std.proofs.lemmas.Bool.{lt-ltb}
use Rattle.std.proofs.lemmas.List.{append-nil}
use Rattle.policy_expr.specs.declared.member.MemberName.{MemberName}
use Rattle.policy_expr.specs.Policy.{Policy, member, parallel, sequential, override}
use Rattle.policy_expr.specs.Signs.{Sign, plus, chain, fallback, closing}
use Rattle.policy_expr.specs.Reading.{State, Pending, nothing, joined, chained, summed, whole, after_chain, after_plus}
use Rattle.policy_expr.specs.Reading.{after_fallback, run, ended, end_result, start}
use Rattle.policy_expr.specs.Members.{index_of}
use Rattle.policy_expr.specs.Grammar.{Strength, over, par, seq, atom, Derives, named, nested, one_atom, one_seq}
use Rattle.policy_expr.specs.Grammar.{one_par, more_atoms, more_seqs, more_pars, bare, name_of, names_in}
use Rattle.policy_expr.proofs.Steps.{steps, run_ended, names_in-append}

-- what is pending as a part of this strength begins
abbrev pub cleared : Strength → Pending → Pending
cleared atom f = f
cleared seq f = record { over = f.over; par = f.par; seq = None }
cleared par f = record { over = f.over; par = None; seq = None }
cleared over f = nothing

-- the part of this strength that ends with an operand
abbrev pub value_at : Strength → Pending → Policy → Policy
value_at atom f p = p
value_at seq f p = chained f p
value_at par f p = summed f p
value_at over f p = whole f p

-- a state inside of parentheses
abbrev pub wanting : List Pending → Pending → List (List ℕ) → State
wanting outside inside names = record { outside = outside; inside = inside; operand = None; names = names }

abbrev pub having : List Pending → Pending → Policy → List (List ℕ) → State
having outside inside p names = record { outside = outside; inside = inside; operand = Some p; names = names }

-- a part was read: what is pending after it and the last operand make the part
pub record Reached (members : List MemberName) (strength : Strength) (signs : List Sign) (p : Policy)
    (outside : List Pending) (f : Pending) (names : List (List ℕ)) (rest : List Sign) : Type 0 where
  pub after : Pending
  pub last : Policy
  pub value : value_at strength after last ≡ p
  pub kept : cleared strength after ≡ cleared strength f
  pub stepped : steps members (wanting outside (cleared strength f) names) (signs ++ rest)
      ≡ steps members (having outside after last (names ++ names_in signs)) rest

-- a chain with one more operand
chain_value : (before after : Pending) (last_before last p q : Policy) → after ≡ after_chain before last_before
    → chained before last_before ≡ p → last ≡ q → chained after last ≡ sequential p q
chain_value before after last_before last p q kept left right = rw (kept, left, right) refl

-- a sum with one more chain
sum_value : (before after : Pending) (last_before last p q : Policy) → after.par ≡ Some (summed before last_before)
    → summed before last_before ≡ p → chained after last ≡ q → summed after last ≡ parallel p q
sum_value before after last_before last p q pending left right =
    ap (λ o. joined parallel o (chained after last)) pending ∙ ap (λ (l : Policy). parallel l (chained after last)) left
    ∙ ap (parallel p) right

-- a whole with one more sum
whole_value : (before after : Pending) (last_before last p q : Policy) → after.over ≡ Some (whole before last_before)
    → whole before last_before ≡ p → summed after last ≡ q → whole after last ≡ override p q
whole_value before after last_before last p q pending left right =
    ap (λ o. joined override o (summed after last)) pending ∙ ap (λ (l : Policy). override l (summed after last)) left
    ∙ ap (override p) right

-- the steps of two parts and the operator between them
joined_steps :
    (members : List MemberName) (s : State) (outside : List Pending) (after : Pending) (last : Policy)
    (names : List (List ℕ)) (left right rest : List Sign) (operator : Sign)
    → name_of operator ≡ []
    → steps members s (left ++ operator ∷ (right ++ rest))
    ≡ steps members (having outside after last ((names ++ names_in left) ++ names_in right)) rest
    → steps members s ((left ++ operator ∷ right) ++ rest)
    ≡ steps members (having outside after last (names ++ names_in (left ++ operator ∷ right))) rest
joined_steps members s outside after last names left right rest operator nameless stepped =
    let joins : (left ++ operator ∷ right) ++ rest ≡ left ++ operator ∷ (right ++ rest) =
    append_assoc left (operator ∷ right) rest in
    let all_names : names ++ names_in (left ++ operator ∷ right) ≡ (names ++ names_in left) ++ names_in right =
    ap (λ ns. names ++ ns) (names_in-append left (operator ∷ right)
    ∙ ap (λ ns. names_in left ++ (ns ++ names_in right)) nameless)
    ∙ sym (append_assoc names (names_in left) (names_in right)) in
    rw (joins, all_names) stepped

pub reached :
    (members : List MemberName) (depth : ℕ) (strength : Strength) (signs : List Sign) (p : Policy)
    → Derives members depth strength signs p
    → (outside : List Pending) (f : Pending) (names : List (List ℕ)) (rest : List Sign) → length outside + depth ≤ 32
    → Reached members strength signs p outside f names rest
reached members _ _ _ _ (named depth n) outside f names rest room =
    record { after = f; last = member (index_of members n); value = refl; kept = refl; stepped = refl }
reached members _ _ _ _ (nested depth signs p inner) outside f names rest room =
    let r = reached members depth over signs p inner (f ∷ outside) f names (closing ∷ rest) (omega arith) in
    let fits : nat_lt (length outside) 32 ≡ true = lt-ltb _ _ (omega arith) in
    let joins : (signs ++ closing ∷ []) ++ rest ≡ signs ++ closing ∷ rest = append_assoc signs (closing ∷ []) rest in
    let all_names : names_in (signs ++ closing ∷ []) ≡ names_in signs = names_in-append signs (closing ∷ [])
    ∙ append-nil (names_in signs) in
    record {
      after = f;
      last = whole r.after r.last;
      value = r.value;
      kept = refl;
      stepped = rw (fits, joins, all_names) r.stepped;
    }
reached members _ _ _ _ (one_atom depth signs p d) outside f names rest room =
    let r = reached members depth atom signs p d outside (cleared seq f) names rest room in
    record { after = r.after; last = r.last; value = rw r.kept r.value; kept = rw r.kept refl; stepped = r.stepped }
reached members _ _ _ _ (one_seq depth signs p d) outside f names rest room =
    let r = reached members depth seq signs p d outside (cleared par f) names rest room in
    let none : r.after.par ≡ None = ap (λ (k : Pending). k.par) r.kept in
    record {
      after = r.after;
      last = r.last;
      value = rw none r.value;
      kept = ap (cleared par) r.kept;
      stepped = r.stepped;
    }
reached members _ _ _ _ (one_par depth signs p d) outside f names rest room =
    let r = reached members depth par signs p d outside (cleared over f) names rest room in
    let none : r.after.over ≡ None = ap (λ (k : Pending). k.over) r.kept in
    record { after = r.after; last = r.last; value = rw none r.value; kept = refl; stepped = r.stepped }
reached members _ _ _ _ (more_atoms depth left right p q d e) outside f names rest room =
    let l = reached members depth seq left p d outside f names (chain ∷ (right ++ rest)) room in
    let r = reached members depth atom right q e outside (after_chain l.after l.last) (names ++ names_in left) rest
    room in
    record {
      after = r.after;
      last = r.last;
      value = chain_value l.after r.after l.last r.last p q r.kept l.value r.value;
      kept = ap (cleared seq) r.kept ∙ l.kept;
      stepped = joined_steps members (wanting outside (cleared seq f) names) outside r.after r.last names left right
          rest chain refl (l.stepped ∙ r.stepped);
    }
reached members _ _ _ _ (more_seqs depth left right p q d e) outside f names rest room =
    let l = reached members depth par left p d outside f names (plus ∷ (right ++ rest)) room in
    let r = reached members depth seq right q e outside (after_plus l.after l.last) (names ++ names_in left) rest
    room in
    let pending : r.after.par ≡ Some (summed l.after l.last) = ap (λ (k : Pending). k.par) r.kept in
    let same_over : r.after.over ≡ l.after.over = ap (λ (k : Pending). k.over) r.kept in
    record {
      after = r.after;
      last = r.last;
      value = sum_value l.after r.after l.last r.last p q pending l.value r.value;
      kept = ap (λ (o : Option Policy). record { over = o; par = None; seq = None }) same_over ∙ l.kept;
      stepped = joined_steps members (wanting outside (cleared par f) names) outside r.after r.last names left right
          rest plus refl (l.stepped ∙ r.stepped);
    }
reached members _ _ _ _ (more_pars depth left right p q d e) outside f names rest room =
    let l = reached members depth over left p d outside f names (fallback ∷ (right ++ rest)) room in
    let r = reached members depth par right q e outside (after_fallback l.after l.last) (names ++ names_in left) rest
    room in
    let pending : r.after.over ≡ Some (whole l.after l.last) = ap (λ (k : Pending). k.over) r.kept in
    record {
      after = r.after;
      last = r.last;
      value = whole_value l.after r.after l.last r.last p q pending l.value r.value;
      kept = refl;
      stepped = joined_steps members (wanting outside nothing names) outside r.after r.last names left right rest
          fallback refl (l.stepped ∙ r.stepped);
    }

-- signs that derive may all stand, and the text may end behind them
pub record AllStand (members : List MemberName) (signs : List Sign) (p : Policy) (more : List Sign) : Type 0 where
  pub last : State
  pub ends : ended last ≡ Some (record { policy = p; names = names_in signs })
  pub stepped : steps members start (signs ++ more) ≡ steps members last more

pub all_stand : (members : List MemberName) (signs : List Sign) (p : Policy) (more : List Sign)
    → Derives members 32 over signs p → AllStand members signs p more
all_stand members signs p more d =
    let r = reached members 32 over signs p d [] nothing [] more (omega arith) in
    record {
      last = having [] r.after r.last (names_in signs);
      ends = ap (λ (v : Policy). Some (record { policy = v; names = names_in signs })) r.value;
      stepped = r.stepped;
    }

-- a text that derives is read
pub derived_read : (members : List MemberName) (end : ℕ) (signs : List (ℕ × Sign)) (p : Policy)
    → Derives members 32 over (bare signs) p
    → run members end start signs ≡ Ok (record { policy = p; names = names_in (bare signs) })
derived_read members end signs p d =
    let all = all_stand members (bare signs) p [] d in
    let there : steps members start (bare signs) ≡ Some all.last =
    ap (steps members start) (sym (append-nil (bare signs))) ∙ all.stepped in
    run_ended members end start all.last signs there ∙ ap (end_result end) all.ends
