-- Names are looked up one after the other.
use Rattle.std.proofs.Common.{◌≡◌, ℕ, suc, ◌+◌, ◌<◌, Bool, true, false, List, ◌∷◌, Option, Some, None, drop, get_or}
use Rattle.std.proofs.Common.{length, nat_eq, sym, ap, ◌∙◌, arith}
use Rattle.std.specs.Prelude.{if◌then◌else◌}
use Rattle.std.specs.Cmp.Lexicographic.{pointwise}
use Rattle.std.proofs.Math.Seq.{drop-cons}
use Rattle.virtual_topology.specs.declared.plan.VirtualItem.{VirtualItem}
use Rattle.replay_report.specs.Sessions.{found_from, virtual_from}
use Rattle.replay_report.specs.declared.sessions.Named.{Named}
use Rattle.replay_report.specs.declared.sessions.Found.{Found}

-- the item at a place, and those behind it
from_here : {A : Type 0} (xs : List A) (i : ℕ) (x : A) → i < length xs → x ≡ get_or xs i x
    → drop i xs ≡ x ∷ drop (i + 1) xs
from_here xs i x lt is =
    let e : suc i ≡ i + 1 = omega arith in
    drop-cons xs i x lt ∙ (λ j. sym is j ∷ drop (e j) xs)

-- a session has the name, or another has
pub found_here : (names : List Named) (name : List ℕ) (at : ℕ) (x : Named) → at < length names → x ≡ get_or names at x
    → pointwise nat_eq x.name name ≡ true
    → found_from at name (drop at names) ≡ Some (record { at = at; who = x.who })
found_here names name at x lt is e =
    ap (found_from at name) (from_here names at x lt is)
    ∙ ap (λ (b : Bool). let found : Option Found = if b then Some (record { at = at; who = x.who })
    else found_from (at + 1) name (drop (at + 1) names) in found) e

pub found_later : (names : List Named) (name : List ℕ) (at : ℕ) (x : Named) → at < length names → x ≡ get_or names at x
    → pointwise nat_eq x.name name ≡ false
    → found_from (at + 1) name (drop (at + 1) names) ≡ found_from at name (drop at names)
found_later names name at x lt is e =
    sym (ap (found_from at name) (from_here names at x lt is)
    ∙ ap (λ (b : Bool). let found : Option Found = if b then Some (record { at = at; who = x.who })
    else found_from (at + 1) name (drop (at + 1) names) in found) e)

-- the same for virtual switches
pub virtual_here : (items : List VirtualItem) (name : List ℕ) (v : ℕ) (x : VirtualItem) → v < length items
    → x ≡ get_or items v x → pointwise nat_eq x.name name ≡ true
    → virtual_from v name (drop v items) ≡ Some v
virtual_here items name v x lt is e =
    ap (virtual_from v name) (from_here items v x lt is)
    ∙ ap (λ (b : Bool). let found : Option ℕ = if b then Some v else virtual_from (v + 1) name (drop (v + 1) items) in
    found) e

pub virtual_later : (items : List VirtualItem) (name : List ℕ) (v : ℕ) (x : VirtualItem) → v < length items
    → x ≡ get_or items v x → pointwise nat_eq x.name name ≡ false
    → virtual_from (v + 1) name (drop (v + 1) items) ≡ virtual_from v name (drop v items)
virtual_later items name v x lt is e =
    sym (ap (virtual_from v name) (from_here items v x lt is)
    ∙ ap (λ (b : Bool). let found : Option ℕ = if b then Some v else virtual_from (v + 1) name (drop (v + 1) items) in
    found) e)
