-- The best entry of a list that is read from its front.
use Rattle.std.proofs.Common.{◌≡◌, ℕ, ◌+◌, ◌<◌, ◌≤◌, Bool, true, false, List, [], ◌∷◌, ◌++◌, Option, Some, None, refl}
use Rattle.std.proofs.Common.{ap, ◌∙◌, sym, arith, length, take, get_or, ltb-true, ltb-false}
use Rattle.std.specs.Prelude.{if◌then◌else◌, nat_lt}
use Rattle.std.proofs.lemmas.Grind.{take_at_read}
use Rattle.of10_match.specs.Fields.{HeaderOf}
use Rattle.of10_match.specs.Matching.{holds}
use Rattle.of10_match.specs.Highest.{higher, pick}
use Rattle.policy_meaning.specs.Leaf.{best_entry}
use Rattle.policy_meaning.specs.declared.leaf.LeafEntry.{LeafEntry}
use Rattle.policy_meaning.proofs.Booleans.{true_not_false}

abbrev rank : LeafEntry → ℕ
rank e = e.rank

-- the best of some entries and a last one
abbrev pub with_last : Bool → Option LeafEntry → LeafEntry → Option LeafEntry
with_last false o e = o
with_last true None e = Some e
with_last true (Some d) e = Some (pick rank d e)

lt-by : (a b : ℕ) (c d : Bool) → nat_lt a b ≡ c → (d ≡ true → a < b) → (d ≡ false → b ≤ a) → c ≡ d
lt-by a b true true e t f = refl
lt-by a b false false e t f = refl
lt-by a b true false e t f = let l : a < b = ltb-true a b e in let m : b ≤ a = f refl in absurd (omega arith)
lt-by a b false true e t f = let l : b ≤ a = ltb-false a b e in let m : a < b = t refl in absurd (omega arith)

lt-true : (a b : ℕ) → a < b → nat_lt a b ≡ true
lt-true a b l = lt-by a b (nat_lt a b) true refl (λ _. l) (λ e. absurd (true_not_false e))

lt-false : (a b : ℕ) → b ≤ a → nat_lt a b ≡ false
lt-false a b l = lt-by a b (nat_lt a b) false refl (λ e. absurd (true_not_false (sym e))) (λ _. l)

-- of three, in whichever way they are compared
pick-groups : (x d e : LeafEntry) (a b : Bool) → nat_lt x.rank d.rank ≡ a → nat_lt d.rank e.rank ≡ b
    → pick rank x (pick rank d e) ≡ pick rank (pick rank x d) e
pick-groups x d e true true p q = let l : x.rank < d.rank = ltb-true x.rank d.rank p in let m : d.rank < e.rank =
    ltb-true d.rank e.rank q in let n : nat_lt x.rank e.rank ≡ true = lt-true x.rank e.rank (omega arith) in
    simp (p, q, n)
pick-groups x d e true false p q = simp (p, q)
pick-groups x d e false true p q = simp (p, q)
pick-groups x d e false false p q = let l : d.rank ≤ x.rank = ltb-false x.rank d.rank p in let m : e.rank ≤ d.rank =
    ltb-false d.rank e.rank q in let n : nat_lt x.rank e.rank ≡ false = lt-false x.rank e.rank (omega arith) in
    simp (p, q, n)

step : (x e : LeafEntry) (o : Option LeafEntry) (b c : Bool)
    → (if b then higher rank x (with_last c o e) else with_last c o e)
    ≡ with_last c (if b then higher rank x o else o) e
step x e o false c = refl
step x e o true false = refl
step x e None true true = refl
step x e (Some d) true true = ap Some (pick-groups x d e (nat_lt x.rank d.rank) (nat_lt d.rank e.rank) refl refl)

pub best-last : (xs : List LeafEntry) (e : LeafEntry) (h : HeaderOf)
    → best_entry (xs ++ e ∷ []) h ≡ with_last (holds e.m h) (best_entry xs h) e
best-last [] e h = alone (holds e.m h)
  where
    alone : (b : Bool) → (if b then Some e else None) ≡ with_last b None e
    alone true = refl
    alone false = refl
best-last (x ∷ xs) e h = rw (best-last xs e h) (step x e (best_entry xs h) (holds x.m h) (holds e.m h))

-- one more entry is read
pub best-more : (xs : List LeafEntry) (i : ℕ) (d e : LeafEntry) (h : HeaderOf) → i < length xs → e ≡ get_or xs i d
    → best_entry (take (i + 1) xs) h ≡ with_last (holds e.m h) (best_entry (take i xs) h) e
best-more xs i d e h lt is = rw is (ap (λ zs. best_entry zs h) (take_at_read xs i d lt).1
    ∙ best-last (take i xs) (get_or xs i d) h)

-- what the reading of one entry leaves
module _ (xs : List LeafEntry) (i : ℕ) (e : LeafEntry) (h : HeaderOf) (lt : i < length xs) (is : e ≡ get_or xs i e)
    (o r : Option LeafEntry) (so : o ≡ best_entry (take i xs) h) (b : Bool) (test : b ≡ holds e.m h) where
  last-is : with_last b o e ≡ best_entry (take (i + 1) xs) h
  last-is = rw (test, so) (sym (best-more xs i e e h lt is))

  pub reads-higher : (d p : LeafEntry) → b ≡ true → o ≡ Some d → p ≡ pick rank d e → r ≡ Some p
      → r ≡ best_entry (take (i + 1) xs) h
  reads-higher d p t u v w = (w ∙ rw (v, t, u) refl) ∙ last-is

  pub reads-first : b ≡ true → o ≡ None → r ≡ Some e → r ≡ best_entry (take (i + 1) xs) h
  reads-first t u w = (w ∙ rw (t, u) refl) ∙ last-is

  pub reads-other : b ≡ false → r ≡ o → r ≡ best_entry (take (i + 1) xs) h
  reads-other t w = (w ∙ rw t refl) ∙ last-is
