-- Cookies that rise.
use Rattle.std.proofs.Common.{◌≡◌, ◌∙◌, ◌<◌, ◌≤◌, ℕ, Bool, true, false, List, [], ◌∷◌, Some, None, Result, Ok, Err}
use Rattle.std.proofs.Common.{arith, ap, inl, inr, refl, subst, sym}
use Rattle.std.specs.Prelude.{◌==◌, ◌||◌, ◌⊎◌, OnErr, OnOk, find, if◌then◌else◌, nat_le}
use Rattle.std.specs.BTreeMap.{is_at}
use Rattle.std.specs.BTreeSet.{insert_key}
use Rattle.std.specs.Cmp.{nat_cmp_is}
use Rattle.std.specs.List.{AllByRecursion}
use Rattle.std.specs.Ordering.{is_eq, match_ordering, nat_cmp}
use Rattle.std.specs.Set.{remove_key}
use Rattle.std.specs.declared.cmp.Ordering.{Ordering}
use Rattle.std.specs.declared.cmp.Ordering.TheVariants.{Less, Equal, Greater}
use Rattle.std.proofs.lemmas.Bool.{cases_lt}
use Rattle.std.proofs.lemmas.Bool.Decides.{nat_tests}
use Rattle.shared_list.specs.Behind.{StandBehind, put_before}
use Rattle.switch_state.specs.InsideKnown.{Rise}
use Rattle.switch_state.specs.Known.{is_one_of}

-- two numbers -------------------------------------------------------------------------------------------------------

le_true : (k n : ℕ) → k ≤ n → nat_le k n ≡ true
le_true k n h = grind (arith, nat_tests)

le_false : (k n : ℕ) → n < k → nat_le k n ≡ false
le_false k n h = grind (arith, nat_tests)

eq_true : (k n : ℕ) → k ≡ n → (n == k) ≡ true
eq_true k n h = grind (arith, nat_tests)

eq_false : (k n : ℕ) → k < n → (n == k) ≡ false
eq_false k n h = grind (arith, nat_tests)

cmp_less : (k n : ℕ) → k < n → nat_cmp k n ≡ Less
cmp_less k n h = sym (nat_cmp_is k n Less h)

cmp_equal : (k n : ℕ) → k ≡ n → nat_cmp k n ≡ Equal
cmp_equal k n h = sym (nat_cmp_is k n Equal h)

cmp_greater : (k n : ℕ) → n < k → nat_cmp k n ≡ Greater
cmp_greater k n h = sym (nat_cmp_is k n Greater h)

by_order : {P : Type 0} (k n : ℕ) → (k < n → P) → (k ≡ n → P) → (n < k → P) → P
by_order {P} k n less equal greater = first (cases_lt k n)
  where
    second : (n < k) ⊎ (k ≤ n) → n ≤ k → P
    second (inl lt) le = greater lt
    second (inr ge) le = equal (omega arith)

    first : (k < n) ⊎ (n ≤ k) → P
    first (inl lt) = less lt
    first (inr le) = second (cases_lt n k) le

-- what holds after a success holds of what is equal
pub on_ok_then : {E : Type 0} (now old next : List ℕ) (result : Result (Unit {0}) E) → OnOk result (now ≡ old)
    → old ≡ next → OnOk result (now ≡ next)
on_ok_then now old next (Ok v) e f = e ∙ f
on_ok_then now old next (Err e) p f = tt

-- rising numbers ----------------------------------------------------------------------------------------------------

module _ (k : ℕ) where
  at : ℕ → Bool
  at = is_at (nat_cmp k)

  all_from : (n : ℕ) (ns : List ℕ) → k ≤ n → AllByRecursion (λ m. n < m) ns
      → AllByRecursion (λ m. nat_le k m ≡ true) ns
  all_from n [] le up = tt
  all_from n (m ∷ ns) le up = (le_true k m (omega (arith, up.0)), all_from n ns le up.1)

  -- from the number on they stand behind the others
  pub behind : (ns : List ℕ) → Rise ns → StandBehind (nat_le k) ns
  behind [] up = tt
  behind (n ∷ ns) up = (λ t. all_from n ns (le_from t) up.0, behind ns up.1)
    where
      le_from : nat_le k n ≡ true → k ≤ n
      le_from t = grind (arith, nat_tests)

  none_above : (n : ℕ) (ns : List ℕ) → k ≤ n → AllByRecursion (λ m. n < m) ns → is_one_of ns k ≡ false
  none_above n [] le up = refl
  none_above n (m ∷ ns) le up =
      ap (λ (r : Ordering). is_eq r || is_one_of ns k) (cmp_less k m (omega (arith, up.0))) ∙ none_above n ns le up.1

  -- the first from the number on tells whether it is there
  has_first : (ns : List ℕ) → Rise ns → (n : ℕ) → Some n ≡ find (nat_le k) ns → (n == k) ≡ is_one_of ns k
  has_first [] up n e = cc
  has_first (m ∷ ns) up n e = by_order k m less equal (λ lt. greater lt (has_first ns up.1 n))
    where
      first : k ≤ m → n ≡ m
      first le =
          let is : Some n ≡ Some m = e ∙ ap (λ (b : Bool). if b then Some m else find (nat_le k) ns) (le_true k m le) in
          cc

      less : k < m → (n == k) ≡ (is_eq (nat_cmp k m) || is_one_of ns k)
      less lt =
          ap (λ (a : ℕ). a == k) (first (omega (arith, lt)))
          ∙ (eq_false k m lt
          ∙ sym (ap (λ (r : Ordering). is_eq r || is_one_of ns k) (cmp_less k m lt)
          ∙ none_above m ns (omega (arith, lt)) up.0))

      equal : k ≡ m → (n == k) ≡ (is_eq (nat_cmp k m) || is_one_of ns k)
      equal is =
          ap (λ (a : ℕ). a == k) (first (omega (arith, is)))
          ∙ (eq_true k m is ∙ sym (ap (λ (r : Ordering). is_eq r || is_one_of ns k) (cmp_equal k m is)))

      greater : m < k → (Some n ≡ find (nat_le k) ns → (n == k) ≡ is_one_of ns k)
          → (n == k) ≡ (is_eq (nat_cmp k m) || is_one_of ns k)
      greater lt rest =
          rest (e ∙ ap (λ (b : Bool). if b then Some m else find (nat_le k) ns) (le_false k m lt))
          ∙ sym (ap (λ (r : Ordering). is_eq r || is_one_of ns k) (cmp_greater k m lt))

  pub has_some : (ns : List ℕ) → Rise ns → (n : ℕ) → Some n ≡ find (nat_le k) ns → (n == k) ≡ is_one_of ns k
  has_some ns up n e = has_first ns up n e

  pub has_none : (ns : List ℕ) → None ≡ find (nat_le k) ns → false ≡ is_one_of ns k
  has_none [] e = refl
  has_none (m ∷ ns) e = by (nat_le k m) refl e (has_none ns)
    where
      lower : nat_le k m ≡ false → m < k
      lower f = grind (arith, nat_tests)

      by : (b : Bool) → nat_le k m ≡ b → None ≡ (if b then Some m else find (nat_le k) ns)
          → (None ≡ find (nat_le k) ns → false ≡ is_one_of ns k) → false ≡ (is_eq (nat_cmp k m) || is_one_of ns k)
      by true t e rest = cc
      by false f e rest =
          rest e ∙ sym (ap (λ (r : Ordering). is_eq r || is_one_of ns k) (cmp_greater k m (lower f)))

  -- a number that isn't there is put in its place
  put_in : (ns : List ℕ) → is_one_of ns k ≡ false → put_before (nat_le k) k ns ≡ insert_key nat_cmp ns k
  put_in [] none = refl
  put_in (m ∷ ns) none = by_order k m less equal (λ lt. greater lt (put_in ns))
    where
      less : k < m → put_before (nat_le k) k (m ∷ ns) ≡ insert_key nat_cmp (m ∷ ns) k
      less lt =
          ap (λ (b : Bool). if b then k ∷ m ∷ ns else m ∷ put_before (nat_le k) k ns)
          (le_true k m (omega (arith, lt)))
          ∙ sym (ap (λ (r : Ordering). match_ordering r (k ∷ m ∷ ns) (m ∷ ns) (m ∷ insert_key nat_cmp ns k))
          (cmp_less k m lt))

      equal : k ≡ m → put_before (nat_le k) k (m ∷ ns) ≡ insert_key nat_cmp (m ∷ ns) k
      equal is =
          let there : true ≡ false =
          sym (ap (λ (r : Ordering). is_eq r || is_one_of ns k) (cmp_equal k m is)) ∙ none in
          cc

      greater : m < k → (is_one_of ns k ≡ false → put_before (nat_le k) k ns ≡ insert_key nat_cmp ns k)
          → put_before (nat_le k) k (m ∷ ns) ≡ insert_key nat_cmp (m ∷ ns) k
      greater lt rest =
          ap (λ (b : Bool). if b then k ∷ m ∷ ns else m ∷ put_before (nat_le k) k ns) (le_false k m lt)
          ∙ (ap (λ (xs : List ℕ). m ∷ xs)
          (rest (sym (ap (λ (r : Ordering). is_eq r || is_one_of ns k) (cmp_greater k m lt)) ∙ none))
          ∙ sym (ap (λ (r : Ordering). match_ordering r (k ∷ m ∷ ns) (m ∷ ns) (m ∷ insert_key nat_cmp ns k))
          (cmp_greater k m lt)))

  pub is_put : (ns : List ℕ) → false ≡ is_one_of ns k → put_before (nat_le k) k ns ≡ insert_key nat_cmp ns k
  is_put ns none = put_in ns (sym none)

  -- one that is there stays
  stays : (ns : List ℕ) → Rise ns → is_one_of ns k ≡ true → ns ≡ insert_key nat_cmp ns k
  stays [] up there = cc
  stays (m ∷ ns) up there = by_order k m less equal (λ lt. greater lt (stays ns up.1))
    where
      less : k < m → m ∷ ns ≡ insert_key nat_cmp (m ∷ ns) k
      less lt =
          let none : is_one_of (m ∷ ns) k ≡ false =
          ap (λ (r : Ordering). is_eq r || is_one_of ns k) (cmp_less k m lt)
          ∙ none_above m ns (omega (arith, lt)) up.0 in
          let never : true ≡ false = sym there ∙ none in
          cc

      equal : k ≡ m → m ∷ ns ≡ insert_key nat_cmp (m ∷ ns) k
      equal is =
          sym (ap (λ (r : Ordering). match_ordering r (k ∷ m ∷ ns) (m ∷ ns) (m ∷ insert_key nat_cmp ns k))
          (cmp_equal k m is))

      greater : m < k → (is_one_of ns k ≡ true → ns ≡ insert_key nat_cmp ns k)
          → m ∷ ns ≡ insert_key nat_cmp (m ∷ ns) k
      greater lt rest =
          ap (λ (xs : List ℕ). m ∷ xs)
          (rest (sym (ap (λ (r : Ordering). is_eq r || is_one_of ns k) (cmp_greater k m lt)) ∙ there))
          ∙ sym (ap (λ (r : Ordering). match_ordering r (k ∷ m ∷ ns) (m ∷ ns) (m ∷ insert_key nat_cmp ns k))
          (cmp_greater k m lt))

  pub is_there : (ns : List ℕ) → Rise ns → true ≡ is_one_of ns k → ns ≡ insert_key nat_cmp ns k
  is_there ns up there = stays ns up (sym there)

  -- the first from the number on goes, which is the number
  goes : (ns : List ℕ) → Rise ns → is_one_of ns k ≡ true
      → remove_key (nat_le k) ns ≡ remove_key (is_at (nat_cmp k)) ns
  goes [] up there = refl
  goes (m ∷ ns) up there = by_order k m less equal (λ lt. greater lt (goes ns up.1))
    where
      less : k < m → remove_key (nat_le k) (m ∷ ns) ≡ remove_key (is_at (nat_cmp k)) (m ∷ ns)
      less lt =
          let none : is_one_of (m ∷ ns) k ≡ false =
          ap (λ (r : Ordering). is_eq r || is_one_of ns k) (cmp_less k m lt)
          ∙ none_above m ns (omega (arith, lt)) up.0 in
          let never : true ≡ false = sym there ∙ none in
          cc

      equal : k ≡ m → remove_key (nat_le k) (m ∷ ns) ≡ remove_key (is_at (nat_cmp k)) (m ∷ ns)
      equal is =
          ap (λ (b : Bool). if b then ns else m ∷ remove_key (nat_le k) ns) (le_true k m (omega (arith, is)))
          ∙ sym (ap (λ (r : Ordering). if is_eq r then ns else m ∷ remove_key (is_at (nat_cmp k)) ns)
          (cmp_equal k m is))

      greater : m < k
          → (is_one_of ns k ≡ true → remove_key (nat_le k) ns ≡ remove_key (is_at (nat_cmp k)) ns)
          → remove_key (nat_le k) (m ∷ ns) ≡ remove_key (is_at (nat_cmp k)) (m ∷ ns)
      greater lt rest =
          ap (λ (b : Bool). if b then ns else m ∷ remove_key (nat_le k) ns) (le_false k m lt)
          ∙ (ap (λ (xs : List ℕ). m ∷ xs)
          (rest (sym (ap (λ (r : Ordering). is_eq r || is_one_of ns k) (cmp_greater k m lt)) ∙ there))
          ∙ sym (ap (λ (r : Ordering). if is_eq r then ns else m ∷ remove_key (is_at (nat_cmp k)) ns)
          (cmp_greater k m lt)))

  pub is_gone : (ns : List ℕ) → Rise ns → true ≡ is_one_of ns k
      → remove_key (nat_le k) ns ≡ remove_key (is_at (nat_cmp k)) ns
  is_gone ns up there = goes ns up (sym there)

  pub none_gone : (ns : List ℕ) → false ≡ is_one_of ns k → ns ≡ remove_key (is_at (nat_cmp k)) ns
  none_gone [] none = refl
  none_gone (m ∷ ns) none = by (is_eq (nat_cmp k m)) none (none_gone ns)
    where
      by : (b : Bool) → false ≡ (b || is_one_of ns k)
          → (false ≡ is_one_of ns k → ns ≡ remove_key (is_at (nat_cmp k)) ns)
          → m ∷ ns ≡ (if b then ns else m ∷ remove_key (is_at (nat_cmp k)) ns)
      by true none rest = cc
      by false none rest = ap (λ (xs : List ℕ). m ∷ xs) (rest none)

  -- they rise still --------------------------------------------------------------------------------------------------

  above_put : (n : ℕ) (ns : List ℕ) → n < k → AllByRecursion (λ m. n < m) ns
      → AllByRecursion (λ m. n < m) (insert_key nat_cmp ns k)
  above_put n [] lt up = (lt, tt)
  above_put n (m ∷ ns) lt up = by (nat_cmp k m) (above_put n ns lt up.1)
    where
      by : (r : Ordering) → AllByRecursion (λ (a : ℕ). n < a) (insert_key nat_cmp ns k)
          → AllByRecursion (λ (a : ℕ). n < a) (match_ordering r (k ∷ m ∷ ns) (m ∷ ns) (m ∷ insert_key nat_cmp ns k))
      by Less rest = (lt, up)
      by Equal rest = up
      by Greater rest = (up.0, rest)

  all_above : (m : ℕ) (ns : List ℕ) → k < m → AllByRecursion (λ a. m < a) ns → AllByRecursion (λ a. k < a) ns
  all_above m [] lt up = tt
  all_above m (a ∷ ns) lt up = (omega (arith, up.0), all_above m ns lt up.1)

  pub rise_put : (ns : List ℕ) → Rise ns → Rise (insert_key nat_cmp ns k)
  rise_put [] up = (tt, tt)
  rise_put (m ∷ ns) up = by_order k m less equal (λ lt. greater lt (rise_put ns up.1))
    where
      make : (r : Ordering) → nat_cmp k m ≡ r
          → Rise (match_ordering r (k ∷ m ∷ ns) (m ∷ ns) (m ∷ insert_key nat_cmp ns k))
          → Rise (insert_key nat_cmp (m ∷ ns) k)
      make r e h =
          subst (λ (s : Ordering). Rise (match_ordering s (k ∷ m ∷ ns) (m ∷ ns) (m ∷ insert_key nat_cmp ns k)))
          (sym e) h

      less : k < m → Rise (insert_key nat_cmp (m ∷ ns) k)
      less lt = make Less (cmp_less k m lt) ((lt, all_above m ns lt up.0), up)

      equal : k ≡ m → Rise (insert_key nat_cmp (m ∷ ns) k)
      equal is = make Equal (cmp_equal k m is) up

      greater : m < k → Rise (insert_key nat_cmp ns k) → Rise (insert_key nat_cmp (m ∷ ns) k)
      greater lt rest = make Greater (cmp_greater k m lt) (above_put m ns lt up.0, rest)

  above_left : (n : ℕ) (test : ℕ → Bool) (ns : List ℕ) → AllByRecursion (λ m. n < m) ns
      → AllByRecursion (λ m. n < m) (remove_key test ns)
  above_left n test [] up = tt
  above_left n test (m ∷ ns) up = by (test m) (above_left n test ns up.1)
    where
      by : (b : Bool) → AllByRecursion (λ (a : ℕ). n < a) (remove_key test ns)
          → AllByRecursion (λ (a : ℕ). n < a) (if b then ns else m ∷ remove_key test ns)
      by true rest = up.1
      by false rest = (up.0, rest)

  pub rise_left : (test : ℕ → Bool) (ns : List ℕ) → Rise ns → Rise (remove_key test ns)
  rise_left test [] up = tt
  rise_left test (m ∷ ns) up = by (test m) (rise_left test ns up.1)
    where
      by : (b : Bool) → Rise (remove_key test ns) → Rise (if b then ns else m ∷ remove_key test ns)
      by true rest = up.1
      by false rest = (above_left m test ns up.0, rest)

  -- a number was put, or memory was wanted and nothing changed
  pub rise_after : {E : Type 0} (ns now : List ℕ) (result : Result (Unit {0}) E)
      → OnOk result (now ≡ insert_key nat_cmp ns k) → OnErr result (now ≡ ns) → Rise ns → Rise now
  rise_after ns now (Ok v) put kept up = subst Rise (sym put) (rise_put ns up)
  rise_after ns now (Err e) put kept up = subst Rise (sym kept) up
