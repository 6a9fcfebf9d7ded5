-- Entries are told apart by their identity, and put among others.
use Rattle.std.proofs.Common.{◌≡◌, ℕ, zero, suc, false, List, [], ◌∷◌, ◌++◌, set, refl, ap, Decides, ◌==◌}
use Rattle.std.specs.List.{list_any}
use Rattle.std.proofs.lemmas.Bool.Decides.{Decides-eqb, Decides-and, Decides-like}
use Rattle.of10_match.specs.Same.{same_match}
use Rattle.of10_match.proofs.Same.{match_decides}
use Rattle.member_table.specs.Entries.{identity_of, same_identity, is_at, put}
use Rattle.member_table.specs.declared.entry.Entry.{Entry}
use Rattle.member_table.specs.declared.entry.Identity.{Identity}
use Rattle.member_table.proofs.Lists.{IsFirst, or_false}

-- the test of equality of identities decides it
pub identity_decides : (a b : Identity) → Decides (same_identity a b) (a ≡ b)
identity_decides a b =
    Decides-like (same_identity a b)
    (λ (t : (a.rank ≡ b.rank) × (a.normal ≡ b.normal)). λ i. record { rank = t.0 i; normal = t.1 i })
    (λ e. (ap (λ (z : Identity). z.rank) e, ap (λ (z : Identity). z.normal) e))
    (Decides-and (a.rank == b.rank) (same_match a.normal b.normal) (Decides-eqb a.rank b.rank)
    (match_decides a.normal b.normal))

pub put-first : (new : Entry) (es : List Entry) (i : ℕ) → IsFirst (is_at (identity_of new)) es i
    → put new es ≡ set es i new
put-first new [] i h = absurd h
put-first new (e ∷ es) zero h = rw h refl
put-first new (e ∷ es) (suc i) h = rw h.0 (ap (λ xs. e ∷ xs) (put-first new es i h.1))

pub put-none : (new : Entry) (es : List Entry) → list_any (is_at (identity_of new)) es ≡ false
    → put new es ≡ es ++ new ∷ []
put-none new [] h = refl
put-none new (e ∷ es) h = let o = or_false (is_at (identity_of new) e) (list_any (is_at (identity_of new)) es) h in
    rw o.0 (ap (λ xs. e ∷ xs) (put-none new es o.1))
