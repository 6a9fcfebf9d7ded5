-- Leaves and their names, place by place.
use Rattle.std.proofs.Common.{◌≡◌, ℕ, zero, suc, ◌<◌, ◌≤◌, ◌&&◌, Bool, false, not, List, [], ◌∷◌, length, drop, get_or}
use Rattle.std.proofs.Common.{None, refl, min, arith}
use Rattle.policy_expr.specs.declared.member.MemberName.{MemberName}
use Rattle.policy_expr.specs.Members.{is_plain, first_left}

-- past the end of either there is none
pub first_left_end : (members : List MemberName) (ls : List Bool) (ns : List (List ℕ)) (i : ℕ)
    → min (length ls) (length ns) ≤ i → first_left members (drop i ls) (drop i ns) ≡ None
first_left_end members [] ns zero past = refl
first_left_end members [] ns (suc i) past = refl
first_left_end members (l ∷ ls) [] zero past = refl
first_left_end members (l ∷ ls) [] (suc i) past = none (drop i ls)
  where
    none : (ls : List Bool) → first_left members ls [] ≡ None
    none [] = refl
    none (l ∷ ls) = refl
first_left_end members (l ∷ ls) (n ∷ ns) zero past = absurd (omega arith)
first_left_end members (l ∷ ls) (n ∷ ns) (suc i) past = first_left_end members ls ns i (omega arith)

-- a leaf that may stand where it does is passed over
pub first_left_more :
    (members : List MemberName) (ls : List Bool) (ns : List (List ℕ)) (i : ℕ) (d : Bool) (e : List ℕ) → i < length ls
    → i < length ns
    → get_or ls i d && not (is_plain members (get_or ns i e)) ≡ false
    → first_left members (drop (suc i) ls) (drop (suc i) ns) ≡ first_left members (drop i ls) (drop i ns)
first_left_more members [] ns i d e in_ls in_ns passes = absurd (omega arith)
first_left_more members (l ∷ ls) [] i d e in_ls in_ns passes = absurd (omega arith)
first_left_more members (l ∷ ls) (n ∷ ns) zero d e in_ls in_ns passes = rw passes refl
first_left_more members (l ∷ ls) (n ∷ ns) (suc i) d e in_ls in_ns passes =
    first_left_more members ls ns i d e (omega arith) (omega arith) passes
