-- Whose time is up: nobody's before a bound, and each once.
use Rattle.std.proofs.Common.{◌≡◌, ◌∙◌, ℕ, zero, suc, ◌+◌, ◌<◌, Bool, true, false, cond, List, [], ◌∷◌, ◌++◌, drop, map}
use Rattle.std.proofs.Common.{arith, ◌≤◌, take, slice_get, Some, refl, sym, ap, subst, suc-add, append_assoc, filter, not, ◌&&◌}
use Rattle.std.specs.List.{AllByRecursion}
use Rattle.std.proofs.lemmas.List.Sorted.{IsPermutation-refl}
use Rattle.member_table.specs.InsideKept.{IsQuietUntil}
use Rattle.member_table.specs.Timeouts.{ListsRising, is_hard_due, is_idle_due, serials_of}
use Rattle.member_table.specs.declared.entry.Entry.{Entry}
use Rattle.member_table.proofs.Kept.{earlier}

-- the item at a place, and those behind
drop_at : {X : Type 0} (xs : List X) (n : ℕ) (x : X) → Some x ≡ slice_get xs n → drop n xs ≡ x ∷ drop (n + 1) xs
drop_at [] zero x e = absurd (cc)
drop_at [] (suc n) x e = absurd (cc)
drop_at (y ∷ xs) zero x e = let same : y ≡ x = cc in ap (λ z. z ∷ xs) same
drop_at (y ∷ xs) (suc n) x e = rw suc-add (drop_at xs n x e)

first_of : (test : Entry → Bool) (e : Entry) (es : List Entry)
    → serials_of test (e ∷ es) ≡ serials_of test (e ∷ []) ++ serials_of test es
first_of test e es = by (test e)
  where
    by : (b : Bool) → map (λ (x : Entry). x.serial) (cond b (e ∷ filter test es) (filter test es))
        ≡ map (λ (x : Entry). x.serial) (cond b (e ∷ []) []) ++ map (λ (x : Entry). x.serial) (filter test es)
    by true = refl
    by false = refl

-- one more was looked at
pub due_next : (test : Entry → Bool) (es : List Entry) (n : ℕ) (e : Entry) (before after all : List ℕ)
    → Some e ≡ slice_get es n → after ≡ before ++ serials_of test (e ∷ [])
    → before ++ serials_of test (drop n es) ≡ all → after ++ serials_of test (drop (n + 1) es) ≡ all
due_next test es n e before after all at more h =
    ap (λ ns. ns ++ serials_of test (drop (n + 1) es)) more
    ∙ (append_assoc before (serials_of test (e ∷ [])) (serials_of test (drop (n + 1) es))
    ∙ (ap (λ ns. before ++ ns)
    (sym (ap (serials_of test) (drop_at es n e at) ∙ first_of test e (drop (n + 1) es))) ∙ h))

none_of : (test : Entry → Bool) (es : List Entry) → AllByRecursion (λ e. test e ≡ false) es → serials_of test es ≡ []
none_of test [] a = refl
none_of test (e ∷ es) a = rw a.0 (none_of test es a.1)

each_quiet : (test : Entry → Bool) (soonest now : ℕ) → now < soonest
    → ((e : Entry) → IsQuietUntil soonest e → test e ≡ false) → (es : List Entry)
    → AllByRecursion (IsQuietUntil soonest) es → AllByRecursion (λ e. test e ≡ false) es
each_quiet test soonest now less h [] a = tt
each_quiet test soonest now less h (e ∷ es) a = (h e a.0, each_quiet test soonest now less h es a.1)

none_listed : ListsRising [] []
none_listed = record { same = IsPermutation-refl []; rising = λ k d low less. absurd (omega (arith, less)) }

-- before the bound no time is up
pub none_hard : (soonest now : ℕ) (es : List Entry) → now < soonest → AllByRecursion (IsQuietUntil soonest) es
    → ListsRising (serials_of (is_hard_due now) es) []
none_hard soonest now es less a =
    subst (λ ns. ListsRising ns []) (sym (none_of (is_hard_due now) es
    (each_quiet (is_hard_due now) soonest now less (λ e q. (q now less).0) es a))) none_listed

pub none_idle : (soonest now : ℕ) (es : List Entry) → now < soonest → AllByRecursion (IsQuietUntil soonest) es
    → ListsRising (serials_of (is_idle_due now) es) []
none_idle soonest now es less a =
    subst (λ ns. ListsRising ns []) (sym (none_of (is_idle_due now) es
    (each_quiet (is_idle_due now) soonest now less
    (λ e q. ap (λ b. not (is_hard_due now e) && b) (q now less).1 ∙ and_false (not (is_hard_due now e))) es a)))
    none_listed
  where
    and_false : (b : Bool) → (b && false) ≡ false
    and_false true = refl
    and_false false = refl

-- of one more no timeout passes before a bound
pub quiet_next : (soonest soonest' : ℕ) (es : List Entry) (n : ℕ) (e : Entry) → soonest' ≤ soonest
    → Some e ≡ slice_get es n → IsQuietUntil soonest' e → AllByRecursion (IsQuietUntil soonest) (take n es)
    → AllByRecursion (IsQuietUntil soonest') (take (n + 1) es)
quiet_next soonest soonest' [] zero e less at q a = absurd (cc)
quiet_next soonest soonest' [] (suc n) e less at q a = absurd (cc)
quiet_next soonest soonest' (x ∷ es) zero e less at q a =
    let same : e ≡ x = cc in
    (subst (IsQuietUntil soonest') same q, tt)
quiet_next soonest soonest' (x ∷ es) (suc n) e less at q a =
    rw suc-add (earlier soonest soonest' less x a.0, quiet_next soonest soonest' es n e less at q a.1)
