-- Histories, one entry longer, and their beginnings.
use Rattle.std.proofs.Common.{◌≡◌, ◌≢◌, ℕ, ◌≤◌, Bool, true, false, eqb, List, [], ◌∷◌, ◌++◌, length, fold, refl, sym}
use Rattle.std.proofs.Common.{ap, ◌∙◌, subst, arith, append_assoc, eq-eqb, length-append}
use mathlib.Core.List.{append-nil, IsPrefix}
use Rattle.std.specs.Prelude.{if◌then◌else◌, ◌&&◌, ltb}
use Rattle.std.proofs.lemmas.Bool.{ltb-true, ltb-false, eqb-true, false_from_ne_true, false≢true}
use Rattle.policy_lock.specs.declared.machine.Machine.{Ghosts}
use Rattle.policy_lock.specs.declared.view.Entry.{Entry}
use Rattle.policy_lock.specs.History.{same_number, after, IsLegal, entry, calls_by, events_of, longer}

both_true : (a b : Bool) → (a && b) ≡ true → (a ≡ true) × (b ≡ true)
both_true true b e = (refl, e)
both_true false b e = absurd (false≢true e)

same-refl : (xs : List ℕ) → same_number xs xs ≡ true
same-refl [] = refl
same-refl (x ∷ xs) = rw (eq-eqb x x refl) (same-refl xs)

pub same-eq : (xs ys : List ℕ) → xs ≡ ys → same_number xs ys ≡ true
same-eq xs ys e = subst (λ z. same_number xs z ≡ true) e (same-refl xs)

pub same-true : (xs ys : List ℕ) → same_number xs ys ≡ true → xs ≡ ys
same-true [] [] e = refl
same-true [] (y ∷ ys) e = absurd (false≢true e)
same-true (x ∷ xs) [] e = absurd (false≢true e)
same-true (x ∷ xs) (y ∷ ys) e = let t = both_true (eqb x y) (same_number xs ys) e in
    λ i. eqb-true x y t.0 i ∷ same-true xs ys t.1 i

pub ne-same : (xs ys : List ℕ) → xs ≢ ys → same_number xs ys ≡ false
ne-same xs ys ne = false_from_ne_true (same_number xs ys) (λ e. ne (same-true xs ys e))

module _ {E R : Type 0} where
  pub events-append : (xs ys : List (Entry E R)) → events_of (xs ++ ys) ≡ events_of xs ++ events_of ys
  events-append [] ys = refl
  events-append (x ∷ xs) ys = ap (λ l. x.event ∷ l) (events-append xs ys)

  pub events-length : (xs : List (Entry E R)) → length (events_of xs) ≡ length xs
  events-length [] = refl
  events-length (x ∷ xs) = let a = events-length xs in omega arith

  calls-there : (n : List ℕ) (b : Bool) (x : Entry E R) (xs ys zs : List (Entry E R)) → zs ≡ xs ++ ys
      → (if b then (x ∷ zs) else zs) ≡ (if b then (x ∷ xs) else xs) ++ ys
  calls-there n true x xs ys zs e = ap (λ l. x ∷ l) e
  calls-there n false x xs ys zs e = e

  pub calls-append : (n : List ℕ) (xs ys : List (Entry E R)) → calls_by n (xs ++ ys) ≡ calls_by n xs ++ calls_by n ys
  calls-append n [] ys = refl
  calls-append n (x ∷ xs) ys = calls-there n (same_number x.by n) x (calls_by n xs) (calls_by n ys)
      (calls_by n (xs ++ ys)) (calls-append n xs ys)

  pub calls-mine : (n k : List ℕ) (e : E) (r : R) → k ≡ n → calls_by n (entry k e r ∷ []) ≡ entry k e r ∷ []
  calls-mine n k e r is = ap (λ (b : Bool). if b then (entry k e r ∷ []) else []) (same-eq k n is)

  pub calls-other : (n k : List ℕ) (e : E) (r : R) → k ≢ n → calls_by n (entry k e r ∷ []) ≡ []
  calls-other n k e r ne = ap (λ (b : Bool). if b then (entry k e r ∷ []) else []) (ne-same k n ne)

  pub prefix_more : (log seen more : List (Entry E R)) → IsPrefix seen log → IsPrefix seen (log ++ more)
  prefix_more log seen more h = (h.0 ++ more, sym (append_assoc seen h.0 more) ∙ ap (λ l. l ++ more) h.1)

  pub prefix_refl : (log : List (Entry E R)) → IsPrefix log log
  prefix_refl log = ([], append-nil log)

  pub prefix_none : (log : List (Entry E R)) → IsPrefix [] log
  prefix_none log = (log, refl)

module _ {M E R S : Type 0} (g : Ghosts M E R S) where
  pub after-append : (s : S) (xs ys : List (Entry E R)) → after g s (xs ++ ys) ≡ after g (after g s xs) ys
  after-append s [] ys = refl
  after-append s (x ∷ xs) ys = after-append (g.next s x.event) xs ys

  pub after-events : (s : S) (xs : List (Entry E R)) → fold g.next s (events_of xs) ≡ after g s xs
  after-events s [] = refl
  after-events s (x ∷ xs) = after-events (g.next s x.event) xs

  pub legal-snoc : (s : S) (xs : List (Entry E R)) (n : List ℕ) (e : E) (r : R) → IsLegal g s xs
      → g.idle (after g s xs) e ≡ false → r ≡ g.reply (after g s xs) e
      → IsLegal g s (xs ++ entry n e r ∷ [])
  legal-snoc s [] n e r h i q = (i, q, tt)
  legal-snoc s (x ∷ xs) n e r h i q = (h.0, h.1, legal-snoc (g.next s x.event) xs n e r h.2 i q)

  legal-append : (s : S) (xs ys : List (Entry E R)) → IsLegal g s (xs ++ ys) → IsLegal g s xs
  legal-append s [] ys h = tt
  legal-append s (x ∷ xs) ys h = (h.0, h.1, legal-append (g.next s x.event) xs ys h.2)

  -- a beginning of a legal history is legal
  pub legal_before : (s : S) (log seen : List (Entry E R)) → IsPrefix seen log → IsLegal g s log → IsLegal g s seen
  legal_before s log seen h legal = legal-append s seen h.0 (subst (IsLegal g s) (sym h.1) legal)

pub nothing : {A : Type 0} (l : List A) → length l ≡ 0 → l ≡ []
nothing [] e = refl
nothing (x ∷ xs) e = absurd (omega arith)

abbrev pub hd : {A : Type 0} → A → List A → A
hd d [] = d
hd d (x ∷ xs) = x

abbrev pub tl : {A : Type 0} → List A → List A
tl [] = []
tl (x ∷ xs) = xs

module _ {E R : Type 0} where
  -- of two beginnings of one list the shorter begins the longer
  pub shorter : (xs ys r q : List (Entry E R)) → xs ++ r ≡ ys ++ q → length xs ≤ length ys → IsPrefix xs ys
  shorter [] ys r q e le = (ys, refl)
  shorter (x ∷ xs) [] r q e le = absurd (omega arith)
  shorter (x ∷ xs) (y ∷ ys) r q e le = let t = shorter xs ys r q (ap tl e) (omega arith) in
      (t.0, λ i. ap (hd x) e i ∷ t.1 i)

  pub begins : (log xs ys : List (Entry E R)) → IsPrefix xs log → IsPrefix ys log → length xs ≤ length ys
      → IsPrefix xs ys
  begins log xs ys a b le = shorter xs ys a.0 b.0 (a.1 ∙ sym b.1) le

  picked : (b : Bool) (log xs ys : List (Entry E R)) → IsPrefix xs log → IsPrefix ys log
      → ltb (length ys) (length xs) ≡ b
      → IsPrefix (if b then xs else ys) log × IsPrefix xs (if b then xs else ys) × IsPrefix ys (if b then xs else ys)
  picked true log xs ys h k is = let l = ltb-true (length ys) (length xs) is in
      (h, prefix_refl xs, begins log ys xs k h (omega arith))
  picked false log xs ys h k is = let l = ltb-false (length ys) (length xs) is in
      (k, begins log xs ys h k l, prefix_refl ys)

  pub longest : (log xs ys : List (Entry E R)) → IsPrefix xs log → IsPrefix ys log
      → IsPrefix (longer xs ys) log × IsPrefix xs (longer xs ys) × IsPrefix ys (longer xs ys)
  longest log xs ys h k = picked (ltb (length ys) (length xs)) log xs ys h k refl

  long_first : (b : Bool) (xs ys : List (Entry E R)) → ltb (length ys) (length xs) ≡ b → length xs ≤ length ys
      → (if b then xs else ys) ≡ ys
  long_first true xs ys is le = let l = ltb-true (length ys) (length xs) is in absurd (omega arith)
  long_first false xs ys is le = refl

  -- of two of which the first begins the second, the longer is the second
  pub longer_is : (xs ys : List (Entry E R)) → IsPrefix xs ys → longer xs ys ≡ ys
  longer_is xs ys h = let l = ap length (sym h.1) ∙ length-append xs h.0 in
      long_first (ltb (length ys) (length xs)) xs ys refl (omega arith)

  pub calls_between : (n : List ℕ) (log mid seen : List (Entry E R)) → IsPrefix mid log → IsPrefix seen mid
      → calls_by n log ≡ calls_by n seen → calls_by n mid ≡ calls_by n seen
  calls_between n log mid seen h k e = let a = ap length (ap (calls_by n) (sym h.1) ∙ calls-append n mid h.0)
      ∙ length-append (calls_by n mid) (calls_by n h.0) in
      let b = ap length (ap (calls_by n) (sym k.1) ∙ calls-append n seen k.0)
      ∙ length-append (calls_by n seen) (calls_by n k.0) in let c = ap length e in
      ap (calls_by n) (sym k.1)
      ∙ (calls-append n seen k.0
      ∙ (ap (λ l. calls_by n seen ++ l) (nothing (calls_by n k.0) (omega arith)) ∙ append-nil (calls_by n seen)))

  pub calls_none : (n : List ℕ) (log seen : List (Entry E R)) → IsPrefix seen log → calls_by n log ≡ []
      → calls_by n seen ≡ []
  calls_none n log seen h e = let a = ap length (ap (calls_by n) (sym h.1) ∙ calls-append n seen h.0)
      ∙ length-append (calls_by n seen) (calls_by n h.0) in let b : length (calls_by n log) ≡ 0 = ap length e in
      nothing (calls_by n seen) (omega arith)
