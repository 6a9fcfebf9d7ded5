-- What the last state says, once all seats are gathered in one view.
use Rattle.std.proofs.Common.{◌≡◌, ◌≢◌, ◌⊎◌, ℕ, zero, suc, ◌<◌, ◌≤◌, ◌+◌, ◌%◌, Bool, true, false, List, [], ◌∷◌, ◌++◌}
use Rattle.std.proofs.Common.{length, get_or, refl, sym, ap, ◌∙◌, subst, inl, inr, ⊎_elim, arith, Option, Some, None}
use mathlib.Core.Logic.{dite}
use mathlib.Core.Option.{none, some, some-injective, some-ne-none}
use native.Mathlib.Decide.{ℕ_discrete, dec_lt}
use lib.ListN.{get_elem?}
use base.Stored.{Coded}
use Rattle.std.specs.Prelude.{◌||◌, cond, map, All}
use Rattle.std.proofs.lemmas.Bool.{false≢true}
use Rattle.atomic_table.specs.Table.{Final, Seen}
use Rattle.policy_lock.specs.declared.machine.Machine.{Ghosts}
use Rattle.policy_lock.specs.declared.held.Held.{Held}
use Rattle.policy_lock.specs.declared.view.Entry.{Entry}
use Rattle.policy_lock.specs.declared.view.Pass.{Pass}
use Rattle.policy_lock.specs.declared.view.View.{View}
use Rattle.policy_lock.specs.History.{calls_by, same_number}
use Rattle.policy_lock.specs.Seat.{LockOf, SeatOf, IsSeatOf}
use Rattle.policy_lock.specs.Number.{Numbered, numbers, has_number, missing_children, missing_below, missing}
use Rattle.policy_lock.specs.Close.{HasSeen, IsClosed}
use Rattle.policy_lock.specs.Rule.{Roster, Kept, AllKnown}
use Rattle.policy_lock.proofs.Histories.{same-eq, same-true, calls-append}
use Rattle.policy_lock.proofs.Missing.{is_there, child_there}
use Rattle.policy_lock.proofs.Stand.{means}

either_true : (a b : Bool) → (a || b) ≡ true → (a ≡ true) ⊎ (b ≡ true)
either_true true b e = inl refl
either_true false b e = inr e

module _ {X : Type 0} (P : X → Type 0) (x : X) (xs : List X) where
  pub all_head : All P (x ∷ xs) → P x
  all_head h = h 0 x (omega arith)

  pub all_tail : All P (x ∷ xs) → All P xs
  all_tail h k d lt = h (suc k) d (omega arith)

module _ {E R S : Type 0} where
  -- the passes of seats
  abbrev pub passes : List (SeatOf E R S) → List (Pass E R S)
  passes seats = map (λ seat. seat.pass) seats

module _ {E R S : Type 0} (s : S) (log : List (Entry E R)) (r : Roster) (id : ℕ) where
  -- a number that was given below one of these is among all
  kid : (all : List Numbered) (seats : List (SeatOf E R S)) (n : List ℕ) (k : ℕ) → AllKnown s log r id (passes seats)
      → missing_below all (numbers seats) ≡ 0 → has_number n (numbers seats) ≡ true → r (k ∷ n) ≢ none
      → has_number (k ∷ n) all ≡ true
  kid all [] n k known kids h given = absurd (false≢true h)
  kid all (x ∷ xs) n k known kids h given = let p = x.pass in
      let parts : missing_children all p.number p.children + missing_below all (numbers xs) ≡ 0 = kids in
      ⊎_elim
      (λ e. let is = same-true p.number n e in dite (dec_lt k p.children)
      (λ lt. subst (λ (q : List ℕ). has_number (k ∷ q) all ≡ true) is
      (child_there all p.number p.children k (omega arith) lt))
      (λ ge. absurd (given (ap (λ (q : List ℕ). r (k ∷ q)) (sym is) ∙ known.0.4 k (omega arith)))))
      (λ e. kid all xs n k known.1 (omega arith) e given)
      (either_true (same_number p.number n) (has_number n (numbers xs)) h)

  -- each number that was given is among the seats, where none is missing
  covered : (seats : List (SeatOf E R S)) → AllKnown s log r id (passes seats) → missing (numbers seats) ≡ 0
      → ((n : List ℕ) (k : ℕ) → r n ≡ none → r (k ∷ n) ≡ none) → (n : List ℕ) → r n ≢ none
      → has_number n (numbers seats) ≡ true
  covered seats known all parents [] given = is_there (numbers seats) [] (omega arith)
  covered seats known all parents (k ∷ n) given =
      kid (numbers seats) seats n k known (omega arith) (covered seats known all parents n (λ e. given (parents n k e)))
      given

  owner : (seats : List (SeatOf E R S)) (n : List ℕ) → AllKnown s log r id (passes seats)
      → has_number n (numbers seats) ≡ true → r n ≡ some id
  owner [] n known h = absurd (false≢true h)
  owner (x ∷ xs) n known h = ⊎_elim (λ e. ap r (sym (same-true x.pass.number n e)) ∙ known.0.3)
      (λ e. owner xs n known.1 e) (either_true (same_number x.pass.number n) (has_number n (numbers xs)) h)

  saw : (seats : List (SeatOf E R S)) → AllKnown s log r id (passes seats) → All (HasSeen log) seats
  saw [] h k d lt = absurd (omega arith)
  saw (x ∷ xs) h zero d lt = (h.0.1, h.0.2)
  saw (x ∷ xs) h (suc k) d lt = saw xs h.1 k d (omega arith)

  pub all_began : (lock : LockOf S) → lock.start ≡ s → (seats : List (SeatOf E R S))
      → All (λ (x : SeatOf E R S). x.lock ≡ lock.id) seats → AllKnown s log r id (passes seats)
      → All (IsSeatOf lock) seats
  all_began lock is [] of h k d lt = absurd (omega arith)
  all_began lock is (x ∷ xs) of h zero d lt =
      (all_head (λ (y : SeatOf E R S). y.lock ≡ lock.id) x xs of, h.0.0 ∙ ap Some (sym is))
  all_began lock is (x ∷ xs) of h (suc k) d lt =
      all_began lock is xs (all_tail (λ (y : SeatOf E R S). y.lock ≡ lock.id) x xs of) h.1 k d (omega arith)

module _ {E R : Type 0} where
  has_call : (x : Entry E R) (xs : List (Entry E R)) → calls_by x.by (x ∷ xs) ≢ []
  has_call x xs e = let b : (λ (q : Bool). cond q (x ∷ calls_by x.by xs) (calls_by x.by xs)) (same_number x.by x.by)
      ≡ [] = e in
      let t : x ∷ calls_by x.by xs ≡ [] =
      sym (ap (λ (q : Bool). cond q (x ∷ calls_by x.by xs) (calls_by x.by xs)) (same-eq x.by x.by refl)) ∙ b in
      let l : length (x ∷ calls_by x.by xs) ≡ 0 = ap length t in absurd (omega arith)

  rest_none : (xs ys : List (Entry E R)) → xs ++ ys ≡ [] → ys ≡ []
  rest_none [] ys e = e
  rest_none (x ∷ xs) ys e = let l : length (x ∷ (xs ++ ys)) ≡ 0 = ap length e in absurd (omega arith)

  tail_none : (before after : List (Entry E R)) (n : List ℕ) → calls_by n (before ++ after) ≡ [] → calls_by n after ≡ []
  tail_none before after n e = rest_none (calls_by n before) (calls_by n after) (sym (calls-append n before after) ∙ e)

  under : (P : List ℕ → Type 0) (before log : List (Entry E R)) → ((n : List ℕ) → calls_by n (before ++ log) ≢ [] → P n)
      → All (λ (x : Entry E R). P x.by) log
  under P before [] f k d lt = absurd (omega arith)
  under P before (x ∷ xs) f zero d lt = f x.by (λ e. has_call x xs (tail_none before (x ∷ xs) x.by e))
  under P before (x ∷ xs) f (suc k) d lt =
      under P (before ++ x ∷ []) xs
      (λ n ne. f n (λ e. ne (ap (calls_by n) (Rattle.std.proofs.Common.append_assoc before (x ∷ []) xs) ∙ e))) k d
      (omega arith)

module _ {M E R S : Type 0} (g : Ghosts M E R S) (code : Coded S) (lock : LockOf S) where
  -- the slot's value, and what it stands for
  pub closes : (words : List ℕ) (slots : List (Option (Held M E R S g))) (id : ℕ) (v : View E R S)
      (seats : List (SeatOf E R S)) → Final (Seen (Kept g lock.start) id v) words slots → v.seated ≡ true
      → v.holds ≡ false
      → passes seats ≡ v.pass ∷ v.gathered → missing (numbers seats) ≡ 0
      → All (λ (x : SeatOf E R S). x.lock ≡ lock.id) seats
      → (x : Held M E R S g) × (get_elem? slots 0 ≡ some (Some x)) × IsClosed g lock.start seats x.boxed.value.machine
      × All (IsSeatOf lock) seats
  closes words slots id v seats fin seated free are all of = let s = fin.0 in let k = fin.1.0 in let at = fin.1.1 in
      let known = k.each_seat id v at in let mine = known.2 seated in
      let knows : AllKnown lock.start k.log k.roster id (passes seats) =
      subst (AllKnown lock.start k.log k.roster id) (sym are) (mine, known.3) in
      let given : (n : List ℕ) → k.roster n ≢ none
      → has_number n (numbers seats) ≡ true = covered lock.start k.log k.roster id seats knows all k.parents in
      let even : get_or s.words 0 0 % 2 ≡ 0 =
      dite (ℕ_discrete (get_or s.words 0 0 % 2) 0) (λ e. e)
      (λ ne. let b = k.busy (omega arith) in let hv = b.0 in let kh = (k.each_seat k.holder hv b.1).2 b.3 in
      let mine_too : k.holder ≡ id = some-injective k.holder id
      (sym kh.3 ∙ owner lock.start k.log k.roster id seats hv.pass.number knows
      (given hv.pass.number (λ e. some-ne-none k.holder (sym kh.3 ∙ e)))) in
      let same : hv ≡ v = some-injective hv v (sym b.1 ∙ (ap (get_elem? s.views) mine_too ∙ at)) in
      absurd (false≢true (sym free ∙ (ap (λ (z : View E R S). z.holds) (sym same) ∙ b.2)))) in
      let h = k.home even in let x = h.0 in (
        x,
        fin.4 0 (Some x) h.1,
        record {
          log = k.log;
          legal = k.legal;
          means = means g code lock.start x.boxed.value k.log h.2;
          seen = saw lock.start k.log k.roster id seats knows;
          under = under (λ n. Rattle.std.specs.Prelude.IsTrue (has_number n (numbers seats))) [] k.log
              (λ n some_call. given n (λ e. some_call (k.unborn n e)));
        },
        all_began lock.start k.log k.roster id lock refl seats of knows,
      )
