-- Who owns a number, and what is known of passes as numbers change hands.
use Rattle.std.proofs.Common.{◌≡◌, ◌≢◌, ℕ, zero, suc, ◌<◌, ◌≤◌, Bool, true, false, List, [], ◌∷◌, ◌++◌, length, set}
use Rattle.std.proofs.Common.{refl, sym, ap, ◌∙◌, subst, ⊎_elim, arith}
use mathlib.Core.List.{append-nil}
use mathlib.Core.Option.{some, none, some-injective, some-ne-none}
use lib.ListN.{get_elem?}
use Rattle.std.specs.Prelude.{cond}
use Rattle.std.proofs.lemmas.Bool.{false≢true}
use Rattle.atomic_table.proofs.Lists.{at_set}
use Rattle.policy_lock.specs.declared.view.Entry.{Entry}
use Rattle.policy_lock.specs.declared.view.Pass.{Pass}
use Rattle.policy_lock.specs.History.{same_number, calls_by}
use Rattle.policy_lock.specs.Rule.{Roster, Known, AllKnown}
use Rattle.policy_lock.proofs.Histories.{same-eq, ne-same, calls-append, prefix_more}

abbrev pub put : Roster → List ℕ → ℕ → Roster
put r n j q = cond (same_number q n) (some j) (r q)

pub put_here : (r : Roster) (n : List ℕ) (j : ℕ) → put r n j n ≡ some j
put_here r n j = ap (λ b. cond b (some j) (r n)) (same-eq n n refl)

pub put_other : (r : Roster) (n : List ℕ) (j : ℕ) (q : List ℕ) → q ≢ n → put r n j q ≡ r q
put_other r n j q ne = ap (λ b. cond b (some j) (r q)) (ne-same q n ne)

put_none_by : (b : Bool) (r : Roster) (n : List ℕ) (j : ℕ) (q : List ℕ) → same_number q n ≡ b
    → cond b (some j) (r q) ≡ none → (q ≢ n) × (r q ≡ none)
put_none_by true r n j q is e = absurd (some-ne-none j e)
put_none_by false r n j q is e = ((λ same. false≢true (sym is ∙ same-eq q n same)), e)

pub put_none : (r : Roster) (n : List ℕ) (j : ℕ) (q : List ℕ) → put r n j q ≡ none → (q ≢ n) × (r q ≡ none)
put_none r n j q e = put_none_by (same_number q n) r n j q refl e

pub longer_number : (k : ℕ) (n : List ℕ) → k ∷ n ≢ n
longer_number k n e = let l : length (k ∷ n) ≡ length n = ap length e in absurd (omega arith)

module _ {V : Type 0} where
  -- what holds of each view holds after one of them changed
  pub seats_stay : (P : ℕ → V → Type 0) (vs : List V) (me : ℕ) (w : V) → P me w
      → ((j : ℕ) (d : V) → j ≢ me → get_elem? vs j ≡ some d → P j d) → (j : ℕ) (d : V)
      → get_elem? (set vs me w) j ≡ some d → P j d
  seats_stay P vs me w mine others j d e =
      ⊎_elim (λ (t : (j ≡ me) × (w ≡ d)). subst (λ (x : ℕ × V). P x.0 x.1) (λ i. (sym t.0 i, t.1 i)) mine)
      (λ (t : (j ≢ me) × (get_elem? vs j ≡ some d)). others j d t.0 t.1) (at_set vs me j w d e)

  -- and after one more came
  pub snoc_stay : (P : ℕ → V → Type 0) (vs : List V) (w : V) → P (length vs) w
      → ((j : ℕ) (d : V) → get_elem? vs j ≡ some d → P j d) → (j : ℕ) (d : V) → get_elem? (vs ++ w ∷ []) j ≡ some d
      → P j d
  snoc_stay P [] w mine others zero d e = subst (P 0) (some-injective w d e) mine
  snoc_stay P [] w mine others (suc j) d e = absurd (some-ne-none d (sym e))
  snoc_stay P (x ∷ xs) w mine others zero d e = others zero d e
  snoc_stay P (x ∷ xs) w mine others (suc j) d e = snoc_stay (λ i. P (suc i)) xs w mine (λ i. others (suc i)) j d e

  pub inside : (l : List V) (i : ℕ) (a : V) → get_elem? l i ≡ some a → i < length l
  inside [] i a e = absurd (some-ne-none a (sym e))
  inside (x ∷ xs) zero a e = omega arith
  inside (x ∷ xs) (suc i) a e = let t = inside xs i a e in omega arith

module _ {E R S : Type 0} (s : S) where
  -- what is known stays so, where entries come under another view's number
  pub known_more : (log more : List (Entry E R)) (r : Roster) (j : ℕ) (p : Pass E R S) → calls_by p.number more ≡ []
      → Known s log r j p → Known s (log ++ more) r j p
  known_more log more r j p alien h = (
    h.0,
    prefix_more log p.seen more h.1,
    calls-append p.number log more
        ∙ (ap (λ l. calls_by p.number log ++ l) alien ∙ (append-nil (calls_by p.number log) ∙ h.2)),
    h.3,
    h.4,
  )

  pub all_more : (log more : List (Entry E R)) (r : Roster) (j : ℕ) (ps : List (Pass E R S))
      → ((p : Pass E R S) → Known s log r j p → calls_by p.number more ≡ []) → AllKnown s log r j ps
      → AllKnown s (log ++ more) r j ps
  all_more log more r j [] alien h = tt
  all_more log more r j (p ∷ ps) alien h =
      (known_more log more r j p (alien p h.0) h.0, all_more log more r j ps alien h.1)

  -- a number is given to the view n, which the pass p of another view does not touch
  pub known_put : (log : List (Entry E R)) (r : Roster) (new : List ℕ) (n j : ℕ) (p : Pass E R S) → p.number ≢ new
      → ((k : ℕ) → p.children ≤ k → k ∷ p.number ≢ new) → Known s log r j p → Known s log (put r new n) j p
  known_put log r new n j p ne kids h = (
    h.0,
    h.1,
    h.2,
    put_other r new n p.number ne ∙ h.3,
    λ k le. put_other r new n (k ∷ p.number) (kids k le)
        ∙ h.4 k le,
  )

  pub all_put : (log : List (Entry E R)) (r : Roster) (new : List ℕ) (n j : ℕ) (ps : List (Pass E R S))
      → ((p : Pass E R S) → Known s log r j p → (p.number ≢ new) × ((k : ℕ) → k ∷ p.number ≢ new))
      → AllKnown s log r j ps → AllKnown s log (put r new n) j ps
  all_put log r new n j [] f h = tt
  all_put log r new n j (p ∷ ps) f h = let t = f p h.0 in
      (known_put log r new n j p t.0 (λ k _. t.1 k) h.0, all_put log r new n j ps f h.1)

  -- a number goes from the view `other` to the view id
  pub known_moved : (log : List (Entry E R)) (r : Roster) (new : List ℕ) (id other j : ℕ) (p : Pass E R S)
      → r new ≡ some other → j ≢ other → Known s log r j p → Known s log (put r new id) j p
  known_moved log r new id other j p had ne h =
      known_put log r new id j p (λ e. ne (some-injective j other (sym h.3 ∙ (ap r e ∙ had))))
      (λ k le e. some-ne-none other (sym had ∙ (ap r (sym e) ∙ h.4 k le))) h

  pub all_moved : (log : List (Entry E R)) (r : Roster) (new : List ℕ) (id other j : ℕ) (ps : List (Pass E R S))
      → r new ≡ some other → j ≢ other → AllKnown s log r j ps → AllKnown s log (put r new id) j ps
  all_moved log r new id other j [] had ne h = tt
  all_moved log r new id other j (p ∷ ps) had ne h =
      (known_moved log r new id other j p had ne h.0, all_moved log r new id other j ps had ne h.1)

  pub all_snoc : (log : List (Entry E R)) (r : Roster) (j : ℕ) (ps : List (Pass E R S)) (p : Pass E R S)
      → AllKnown s log r j ps → Known s log r j p → AllKnown s log r j (ps ++ p ∷ [])
  all_snoc log r j [] p h k = (k, tt)
  all_snoc log r j (x ∷ xs) p h k = (h.0, all_snoc log r j xs p h.1 k)
