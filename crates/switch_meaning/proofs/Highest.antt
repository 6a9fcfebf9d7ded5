-- The highest entry that holds a header is one that a switch may use.
use Rattle.std.proofs.Common.{◌≡◌, ℕ, ◌≤◌, ◌<◌, ◌+◌, ◌⊎◌, inl, inr, Bool, true, false, Option, Some, None, List, []}
use Rattle.std.proofs.Common.{◌∷◌, ◌++◌, refl, sym, ap, ◌∙◌, arith, ltb-true, ltb-false, lt-ltb, le-ltb, nat_lt}
use Rattle.std.proofs.Common.{true≢false, length, take, get_or}
use Rattle.std.specs.Prelude.{if◌then◌else◌}
use Rattle.std.specs.List.{AllByRecursion}
use Rattle.std.proofs.lemmas.Grind.{take_at_read}
use Rattle.of10_match.specs.Fields.{HeaderOf}
use Rattle.of10_match.specs.Highest.{higher, highest, pick}
use Rattle.of10_match.specs.Matching.{holds}
use Rattle.switch_meaning.specs.Choosing.{chosen_entry, height_of}
use Rattle.switch_meaning.specs.InsideChoosing.{after}
use Rattle.switch_meaning.specs.MayUse.{IsTop, MayUse, priority_of, rank_of}
use Rattle.switch_meaning.proofs.Members.{IsIn, here, place, there}
use Rattle.switch_meaning.specs.declared.entry.FlowEntry.{FlowEntry}
use Rattle.switch_meaning.specs.declared.choosing.Reading.{Reading}
use Rattle.switch_meaning.specs.declared.choosing.Reading.TheVariants.{ExactFirst, PriorityAlone}

module _ {A : Type 0} (passes : A → Bool) (rank : A → ℕ) where
  -- of three, in whichever way they are compared
  pick-groups : (x d e : A) (a b : Bool) → nat_lt (rank x) (rank d) ≡ a → nat_lt (rank d) (rank e) ≡ b
      → pick rank x (pick rank d e) ≡ pick rank (pick rank x d) e
  pick-groups x d e true true p q =
      let l = ltb-true (rank x) (rank d) p in
      let m = ltb-true (rank d) (rank e) q in
      let n : nat_lt (rank x) (rank e) ≡ true = lt-ltb (rank x) (rank e) (omega (arith, l, m)) in simp (p, q, n)
  pick-groups x d e true false p q = simp (p, q)
  pick-groups x d e false true p q = simp (p, q)
  pick-groups x d e false false p q =
      let l = ltb-false (rank x) (rank d) p in
      let m = ltb-false (rank d) (rank e) q in
      let n : nat_lt (rank x) (rank e) ≡ false = le-ltb (rank x) (rank e) (omega (arith, l, m)) in simp (p, q, n)

  one_before : (x : A) (b : Bool) (o q : Option A)
      → (if b then higher rank x (after rank o q) else after rank o q) ≡ after rank (if b then higher rank x o else o) q
  one_before x false o q = refl
  one_before x true None None = refl
  one_before x true None (Some e) = refl
  one_before x true (Some d) None = refl
  one_before x true (Some d) (Some e) =
      ap Some (pick-groups x d e (nat_lt (rank x) (rank d)) (nat_lt (rank d) (rank e)) refl refl)

  -- the highest of two lists is that of the first and then of the second
  highest-append : (xs ys : List A)
      → highest passes rank (xs ++ ys) ≡ after rank (highest passes rank xs) (highest passes rank ys)
  highest-append [] ys = alone (highest passes rank ys)
    where
      alone : (o : Option A) → o ≡ after rank None o
      alone None = refl
      alone (Some e) = refl
  highest-append (x ∷ xs) ys = rw (highest-append xs ys)
      (one_before x (passes x) (highest passes rank xs) (highest passes rank ys))

  -- one more is gone over
  pub highest-more : (xs : List A) (i : ℕ) (x : A) (before now : Option A) → i < length xs → x ≡ get_or xs i x
      → before ≡ highest passes rank (take i xs)
      → now ≡ after rank before (highest passes rank (x ∷ [])) → now ≡ highest passes rank (take (i + 1) xs)
  highest-more xs i x before now lt is was new =
      new ∙ (ap (λ o. after rank o (highest passes rank (x ∷ []))) was
      ∙ (ap (λ y. after rank (highest passes rank (take i xs)) (highest passes rank (y ∷ []))) is
      ∙ (sym (highest-append (take i xs) (get_or xs i x ∷ []))
      ∙ ap (highest passes rank) (sym (take_at_read xs i x lt).1))))

module _ (rank : FlowEntry → ℕ) (h : HeaderOf) where
  -- the entry stands in the list and holds the header, and no other that does is higher; or none holds it
  abbrev Found : List FlowEntry → Option FlowEntry → Type 0
  Found table None = AllByRecursion (λ (d : FlowEntry). holds d.m h ≡ false) table
  Found table (Some e) = IsIn e table × ((holds e.m h ≡ true) × IsTop rank table h e)

  top_of_none : (x : FlowEntry) (table : List FlowEntry) → AllByRecursion (λ (d : FlowEntry). holds d.m h ≡ false) table
      → IsTop rank table h x
  top_of_none x [] n = tt
  top_of_none x (d ∷ ds) n = (λ t. absurd (true≢false (sym t ∙ n.0)), top_of_none x ds n.1)

  top_above : (d x : FlowEntry) (table : List FlowEntry) → rank d ≤ rank x → IsTop rank table h d → IsTop rank table h x
  top_above d x [] le top = tt
  top_above d x (e ∷ es) le top = (λ t. let a = top.0 t in omega (arith, a, le), top_above d x es le top.1)

  over : (x d : FlowEntry) (table : List FlowEntry) → holds x.m h ≡ true → Found table (Some d) → (b : Bool)
      → nat_lt (rank x) (rank d) ≡ b → Found (x ∷ table) (Some (if b then d else x))
  over x d table t f true q =
      (there f.0, (f.1.0, (λ _. let l = ltb-true (rank x) (rank d) q in omega (arith, l), f.1.1)))
  over x d table t f false q =
      (here, (t, (λ _. omega arith, top_above d x table (ltb-false (rank x) (rank d) q) f.1.1)))

  one_more : (x : FlowEntry) (table : List FlowEntry) (o : Option FlowEntry) → Found table o → (b : Bool)
      → holds x.m h ≡ b → Found (x ∷ table) (if b then higher rank x o else o)
  one_more x table None f true t = (here, (t, (λ _. omega arith, top_of_none x table f)))
  one_more x table (Some d) f true t = over x d table t f (nat_lt (rank x) (rank d)) refl
  one_more x table None f false t = (t, f)
  one_more x table (Some d) f false t = (there f.0, (f.1.0, (λ u. absurd (true≢false (sym u ∙ t)), f.1.1)))

  found : (table : List FlowEntry) → Found table (highest (λ (e : FlowEntry). holds e.m h) rank table)
  found [] = tt
  found (x ∷ xs) = one_more x xs (highest (λ (e : FlowEntry). holds e.m h) rank xs) (found xs) (holds x.m h) refl

by_reading : (reading : Reading) (table : List FlowEntry) (h : HeaderOf) (e : FlowEntry)
    → IsTop (height_of reading) table h e → IsTop rank_of table h e ⊎ IsTop priority_of table h e
by_reading ExactFirst table h e top = inl top
by_reading PriorityAlone table h e top = inr top

may : (reading : Reading) (table : List FlowEntry) (h : HeaderOf) (o : Option FlowEntry)
    → Found (height_of reading) h table o → MayUse table h o
may reading table h None f = f
may reading table h (Some e) f =
    record { stands = place e table f.0; holds_it = f.1.0; highest = by_reading reading table h e f.1.1 }

-- so there is always something that a switch may use
pub highest-may : (reading : Reading) (table : List FlowEntry) (h : HeaderOf)
    → MayUse table h (chosen_entry reading table h)
highest-may reading table h = may reading table h (chosen_entry reading table h) (found (height_of reading) h table)
