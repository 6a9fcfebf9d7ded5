-- Answers of numbers in a row.
use Rattle.std.proofs.Common.{◌≡◌, ◌∙◌, ◌+◌, ◌-◌, ◌<◌, ◌≤◌, ℕ, zero, suc, Bool, true, false, List, [], ◌∷◌}
use Rattle.std.proofs.Common.{◌++◌, Result, Ok, Err}
use Rattle.std.proofs.Common.{arith, ap, ap₂, append-nil, append_assoc, cond, get_or, inl, inr, length, length-set}
use Rattle.std.proofs.Common.{map, not, refl, subst, sym, take}
use Rattle.std.specs.Prelude.{◌==◌, ◌&&◌, ◌||◌, ◌⊎◌, OnOk, filter, if◌then◌else◌, nat_le, nat_lt, slice_set}
use Rattle.std.specs.List.{AllByRecursion, list_any, refill}
use Rattle.std.specs.List.Retain.{RetainsInTurn}
use Rattle.std.proofs.lemmas.Bool.{cases_lt}
use Rattle.std.proofs.lemmas.Bool.Decides.{nat_tests}
use Rattle.std.proofs.lemmas.List.{drop_all, length-map, map-append, take_all, take_more}
use Rattle.std.proofs.lemmas.List.Elements.{filter-append}
use Rattle.std.proofs.lemmas.List.Folds.{list_any-append}
use Rattle.waitings.specs.InsideSpans.{IsSpan, all_spelled, has_in, is_next, row, span_with_xid, spelled}
use Rattle.waitings.specs.Waitings.{is_part, part_with_xid}
use Rattle.waitings.specs.declared.parts.Span.{Span}
use Rattle.waitings.specs.declared.state.Part.{Part}

eq_same : (a b : ℕ) → a ≡ b → (a == b) ≡ true
eq_same a b h = grind (arith, nat_tests)

eq_apart : (a b : ℕ) → (a < b) ⊎ (b < a) → (a == b) ≡ false
eq_apart a b (inl h) = grind (arith, nat_tests)
eq_apart a b (inr h) = grind (arith, nat_tests)

pub on_ok : {T E P Q : Type 0} (r : Result T E) → OnOk r P → (P → Q) → OnOk r Q
on_ok (Ok x) p f = f p
on_ok (Err e) p f = tt

-- the rest of a list that is as long is nothing
pub refilled : {A : Type 0} (xs ws : List A) → length ws ≡ length xs → refill (length xs) xs ws ≡ ws
refilled xs ws e =
    ap (λ rest. take (length xs) (ws ++ rest)) (drop_all (length ws) xs (omega (arith, e)))
    ∙ (ap (take (length xs)) (append-nil ws) ∙ take_all (length xs) ws (omega (arith, e)))

-- a row of answers --------------------------------------------------------------------------------------------------

module _ (n number : ℕ) where
  -- a row of another switch has no answer of this one, and one that ends before a number or begins behind it not that
  other_switch : (s first count : ℕ) → (s == n) ≡ false → list_any (is_part n number) (row s first count) ≡ false
  other_switch s first zero e = refl
  other_switch s first (suc count) e =
      ap (λ (b : Bool). (b && (first == number)) || list_any (is_part n number) (row s (suc first) count)) e
      ∙ other_switch s (suc first) count e

  and_false : (b : Bool) → (b && false) ≡ false
  and_false true = refl
  and_false false = refl

  out_of : (s first count : ℕ) → (number < first) ⊎ (first + count ≤ number)
      → list_any (is_part n number) (row s first count) ≡ false
  out_of s first zero out = refl
  out_of s first (suc count) (inl lt) =
      ap (λ (b : Bool). ((s == n) && b) || list_any (is_part n number) (row s (suc first) count))
      (eq_apart first number (inr lt))
      ∙ (ap (λ (b : Bool). b || list_any (is_part n number) (row s (suc first) count)) (and_false (s == n))
      ∙ out_of s (suc first) count (inl (omega (arith, lt))))
  out_of s first (suc count) (inr le) =
      ap (λ (b : Bool). ((s == n) && b) || list_any (is_part n number) (row s (suc first) count))
      (eq_apart first number (inl (omega (arith, le))))
      ∙ (ap (λ (b : Bool). b || list_any (is_part n number) (row s (suc first) count)) (and_false (s == n))
      ∙ out_of s (suc first) count (inr (omega (arith, le))))

  or_true : (a b : Bool) → b ≡ true → (a || b) ≡ true
  or_true true b e = refl
  or_true false b e = e

  within : (s first count : ℕ) → (s == n) ≡ true → first ≤ number → number < first + count
      → list_any (is_part n number) (row s first count) ≡ true
  within s first zero e low high = absurd (omega (arith, low, high))
  within s first (suc count) e low high = by (cases_lt first number) (within s (suc first) count e)
    where
      by : (first < number) ⊎ (number ≤ first)
          → (suc first ≤ number → number < suc first + count
          → list_any (is_part n number) (row s (suc first) count) ≡ true)
          → (((s == n) && (first == number)) || list_any (is_part n number) (row s (suc first) count)) ≡ true
      by (inl lt) rest =
          or_true ((s == n) && (first == number)) (list_any (is_part n number) (row s (suc first) count))
          (rest (omega (arith, lt)) (omega (arith, high)))
      by (inr ge) rest =
          ap₂ (λ (a b : Bool). (a && b) || list_any (is_part n number) (row s (suc first) count)) e
          (eq_same first number (omega (arith, ge, low)))

  has_span : (s : Span) → IsSpan s → has_in n number s ≡ list_any (is_part n number) (spelled s)
  has_span s is = by (s.switch == n) refl
    where
      none : (nat_le s.first number && nat_le number s.last) ≡ false
          → (number < s.first) ⊎ (s.first + suc (s.last - s.first) ≤ number)
          → has_in n number s ≡ list_any (is_part n number) (spelled s)
      none f out =
          ap (λ (b : Bool). (s.switch == n) && b) f
          ∙ (and_false (s.switch == n) ∙ sym (out_of s.switch s.first (suc (s.last - s.first)) out))

      low_false : number < s.first → (nat_le s.first number && nat_le number s.last) ≡ false
      low_false lt =
          let f : nat_le s.first number ≡ false = grind (arith, nat_tests) in
          ap (λ (b : Bool). b && nat_le number s.last) f

      high_false : s.last < number → (nat_le s.first number && nat_le number s.last) ≡ false
      high_false lt =
          let f : nat_le number s.last ≡ false = grind (arith, nat_tests) in
          ap (λ (b : Bool). nat_le s.first number && b) f ∙ and_false (nat_le s.first number)

      there : (s.switch == n) ≡ true → s.first ≤ number → number ≤ s.last
          → has_in n number s ≡ list_any (is_part n number) (spelled s)
      there e low high =
          let a : nat_le s.first number ≡ true = grind (arith, nat_tests) in
          let b : nat_le number s.last ≡ true = grind (arith, nat_tests) in
          (λ i. e i && (a i && b i))
          ∙ sym (within s.switch s.first (suc (s.last - s.first)) e low (omega (arith, low, high)))

      places : (s.switch == n) ≡ true → (number < s.first) ⊎ (s.first ≤ number)
          → (s.last < number) ⊎ (number ≤ s.last) → has_in n number s ≡ list_any (is_part n number) (spelled s)
      places e (inl lt) right = none (low_false lt) (inl lt)
      places e (inr low) (inl lt) = none (high_false lt) (inr (omega (arith, is.0, lt)))
      places e (inr low) (inr high) = there e low high

      by : (b : Bool) → (s.switch == n) ≡ b → has_in n number s ≡ list_any (is_part n number) (spelled s)
      by false e =
          ap (λ (b : Bool). b && (nat_le s.first number && nat_le number s.last)) e
          ∙ sym (other_switch s.switch s.first (suc (s.last - s.first)) e)
      by true e = places e (cases_lt number s.first) (cases_lt s.last number)

  pub has_all : (ss : List Span) → AllByRecursion IsSpan ss
      → list_any (has_in n number) ss ≡ list_any (is_part n number) (all_spelled ss)
  has_all [] are = refl
  has_all (s ∷ ss) are =
      ap₂ (λ (a b : Bool). a || b) (has_span s are.0) (has_all ss are.1)
      ∙ sym (list_any-append (is_part n number) (spelled s) (all_spelled ss))

  -- without an answer -----------------------------------------------------------------------------------------------

  left : List Part → List Part
  left = filter (λ (part : Part). not (is_part n number part))

  none_left : (xs : List Part) → list_any (is_part n number) xs ≡ false
      → filter (λ (part : Part). not (is_part n number part)) xs ≡ xs
  none_left [] h = refl
  none_left (x ∷ xs) h = by (is_part n number x) h (none_left xs)
    where
      by : (b : Bool) → (b || list_any (is_part n number) xs) ≡ false
          → (list_any (is_part n number) xs ≡ false → filter (λ (part : Part). not (is_part n number part)) xs ≡ xs)
          → (if not b then x ∷ filter (λ (part : Part). not (is_part n number part)) xs
          else filter (λ (part : Part). not (is_part n number part)) xs) ≡ x ∷ xs
      by true h rest = cc
      by false h rest = ap (λ ys. x ∷ ys) (rest h)

  pub row_left : (s first count : ℕ) → (s == n) ≡ true → first ≤ number → number < first + count
      → filter (λ (part : Part). not (is_part n number part)) (row s first count)
      ≡ row s first (number - first) ++ row s (suc number) (first + count - suc number)
  row_left s first zero e low high = absurd (omega (arith, low, high))
  row_left s first (suc count) e low high = by (cases_lt first number) (row_left s (suc first) count e)
    where
      rest_of : List Part
      rest_of = filter (λ (part : Part). not (is_part n number part)) (row s (suc first) count)

      by : (first < number) ⊎ (number ≤ first)
          → (suc first ≤ number → number < suc first + count
          → filter (λ (part : Part). not (is_part n number part)) (row s (suc first) count)
          ≡ row s (suc first) (number - suc first) ++ row s (suc number) (suc first + count - suc number))
          → (if not ((s == n) && (first == number)) then record { switch = s; number = first } ∷ rest_of else rest_of)
          ≡ row s first (number - first) ++ row s (suc number) (first + suc count - suc number)
      by (inl lt) rest =
          let more : number - first ≡ suc (number - suc first) = omega (arith, lt) in
          let same : suc first + count - suc number ≡ first + suc count - suc number = omega arith in
          ap (λ (b : Bool). if not b then record { switch = s; number = first } ∷ rest_of else rest_of)
          (ap (λ (b : Bool). (s == n) && b) (eq_apart first number (inl lt)) ∙ and_false (s == n))
          ∙ (ap (λ (ps : List Part). record { switch = s; number = first } ∷ ps)
          (rest (omega (arith, lt)) (omega (arith, high))
          ∙ ap (λ (k : ℕ). row s (suc first) (number - suc first) ++ row s (suc number) k) same)
          ∙ ap (λ (k : ℕ). row s first k ++ row s (suc number) (first + suc count - suc number)) (sym more))
      by (inr ge) rest =
          let at : first ≡ number = omega (arith, low, ge) in
          let none : number - first ≡ 0 = omega (arith, ge) in
          let many : count ≡ first + suc count - suc number = omega (arith, at) in
          ap₂ (λ (a b : Bool). if not (a && b) then record { switch = s; number = first } ∷ rest_of else rest_of) e
          (eq_same first number at)
          ∙ (none_left (row s (suc first) count) (out_of s (suc first) count (inl (omega (arith, ge))))
          ∙ ((λ i. row s (suc (at i)) (many i))
          ∙ ap (λ (k : ℕ). row s first k ++ row s (suc number) (first + suc count - suc number)) (sym none)))

  -- of a span that has the answer, what comes before it and behind it is left
  pub span_left : (s : Span) → IsSpan s → true ≡ has_in n number s
      → row s.switch s.first (number - s.first) ++ row s.switch (suc number) (s.last - number)
      ≡ filter (λ (part : Part). not (is_part n number part)) (spelled s)
  span_left s is there = by (s.switch == n) refl (cases_lt number s.first) (cases_lt s.last number)
    where
      never : false ≡ has_in n number s
          → row s.switch s.first (number - s.first) ++ row s.switch (suc number) (s.last - number)
          ≡ filter (λ (part : Part). not (is_part n number part)) (spelled s)
      never f = let e : true ≡ false = there ∙ sym f in cc

      by : (b : Bool) → (s.switch == n) ≡ b → (number < s.first) ⊎ (s.first ≤ number)
          → (s.last < number) ⊎ (number ≤ s.last)
          → row s.switch s.first (number - s.first) ++ row s.switch (suc number) (s.last - number)
          ≡ filter (λ (part : Part). not (is_part n number part)) (spelled s)
      by false e low high = never (sym (ap (λ (b : Bool). b && (nat_le s.first number && nat_le number s.last)) e))
      by true e (inl lt) high =
          let f : nat_le s.first number ≡ false = grind (arith, nat_tests) in
          never (sym (ap (λ (b : Bool). (s.switch == n) && (b && nat_le number s.last)) f ∙ and_false (s.switch == n)))
      by true e (inr low) (inl lt) =
          let f : nat_le number s.last ≡ false = grind (arith, nat_tests) in
          never (sym (ap (λ (b : Bool). (s.switch == n) && (nat_le s.first number && b)) f
          ∙ (ap (λ (b : Bool). (s.switch == n) && b) (and_false (nat_le s.first number)) ∙ and_false (s.switch == n))))
      by true e (inr low) (inr high) =
          let same : s.last - number ≡ s.first + suc (s.last - s.first) - suc number = omega (arith, low, high, is.0) in
          ap (λ (k : ℕ). row s.switch s.first (number - s.first) ++ row s.switch (suc number) k) same
          ∙ sym (row_left s.switch s.first (suc (s.last - s.first)) e low (omega (arith, low, high)))

  -- one that hasn't is left
  pub span_stays : (s : Span) → IsSpan s → false ≡ has_in n number s
      → spelled s ≡ filter (λ (part : Part). not (is_part n number part)) (spelled s)
  span_stays s is f = sym (none_left (spelled s) (sym (f ∙ has_span s is)))

-- spans behind one another ------------------------------------------------------------------------------------------

pub one_more : (ss : List Span) (s : Span) → all_spelled (ss ++ s ∷ []) ≡ all_spelled ss ++ spelled s
one_more [] s = append-nil (spelled s)
one_more (x ∷ ss) s =
    ap (λ ps. spelled x ++ ps) (one_more ss s) ∙ sym (append_assoc (spelled x) (all_spelled ss) (spelled s))

pub are_more : (ss : List Span) (s : Span) → AllByRecursion IsSpan ss → IsSpan s → AllByRecursion IsSpan (ss ++ s ∷ [])
are_more [] s are is = (is, tt)
are_more (x ∷ ss) s are is = (are.0, are_more ss s are.1 is)

spelled_more : (ss : List Span) (i : ℕ) (d : Span) → i < length ss
    → all_spelled (take (i + 1) ss) ≡ all_spelled (take i ss) ++ spelled (get_or ss i d)
spelled_more ss i d lt = ap all_spelled (take_more ss i d lt) ∙ one_more (take i ss) (get_or ss i d)

-- one more span is without an answer
pub without_more : (stays : Part → Bool) (ss : List Span) (i : ℕ) (d : Span) (old new : List Span) → i < length ss
    → all_spelled old ≡ filter stays (all_spelled (take i ss))
    → all_spelled new ≡ all_spelled old ++ filter stays (spelled (get_or ss i d))
    → all_spelled new ≡ filter stays (all_spelled (take (i + 1) ss))
without_more stays ss i d old new lt before after =
    after
    ∙ (ap (λ (ps : List Part). ps ++ filter stays (spelled (get_or ss i d))) before
    ∙ (sym (filter-append stays (all_spelled (take i ss)) (spelled (get_or ss i d)))
    ∙ ap (filter stays) (sym (spelled_more ss i d lt))))

-- a row is longer by the next answer
longer_row : (s first count number : ℕ) → number ≡ first + count
    → row s first (suc count) ≡ row s first count ++ record { switch = s; number = number } ∷ []
longer_row s first zero number e =
    let same : first ≡ number = omega (arith, e) in ap (λ (k : ℕ). record { switch = s; number = k } ∷ []) same
longer_row s first (suc count) number e =
    ap (λ (ps : List Part). record { switch = s; number = first } ∷ ps)
    (longer_row s (suc first) count number (omega (arith, e)))

eq_to : (a b : ℕ) → (a == b) ≡ true → a ≡ b
eq_to a b t = grind (arith, nat_tests)

lt_to : (a b : ℕ) → nat_lt a b ≡ true → a < b
lt_to a b t = grind (arith, nat_tests)

four : (a b c d : Bool) → (a && (b && (c && d))) ≡ true → (a ≡ true) × ((b ≡ true) × ((c ≡ true) × (d ≡ true)))
four true true true true h = (refl, (refl, (refl, refl)))
four true true true false h = cc
four true true false d h = cc
four true false c d h = cc
four false b c d h = cc

module _ (s : Span) (part : Part) (is : IsSpan s) (next : is_next part s ≡ true) where
  parts : ((s.switch == part.switch) ≡ true) × ((nat_lt 0 s.first ≡ true) × ((nat_lt s.last part.number ≡ true)
      × ((part.number - s.last == 1) ≡ true)))
  parts =
      four (s.switch == part.switch) (nat_lt 0 s.first) (nat_lt s.last part.number) (part.number - s.last == 1) next

  above : s.last < part.number
  above = lt_to s.last part.number parts.1.1.0

  by_one : part.number - s.last ≡ 1
  by_one = eq_to (part.number - s.last) 1 parts.1.1.1

  begun : 0 < s.first
  begun = lt_to 0 s.first parts.1.0

  pub is_longer : IsSpan (record { switch = s.switch; first = s.first; last = part.number })
  is_longer = (omega (arith, is.0, above), λ z. absurd (omega (arith, z, begun)))

  pub longer_spelled : spelled (record { switch = s.switch; first = s.first; last = part.number })
      ≡ spelled s ++ part ∷ []
  longer_spelled =
      let more : part.number - s.first ≡ suc (s.last - s.first) = omega (arith, is.0, above, by_one) in
      let at : part.number ≡ s.first + suc (s.last - s.first) = omega (arith, is.0, above, by_one) in
      let switch : s.switch ≡ part.switch = eq_to s.switch part.switch parts.0 in
      ap (λ (k : ℕ). row s.switch s.first (suc k)) more
      ∙ (longer_row s.switch s.first (suc (s.last - s.first)) part.number at
      ∙ ap (λ (k : ℕ). spelled s ++ record { switch = k; number = part.number } ∷ []) switch)

-- the last of a vector's items, as its slice shows them
pub last_at : (seen ss : List Span) (s : Span) → seen ≡ ss → 0 < length seen → s ≡ get_or seen (length seen - 1) s
    → (suc (length seen - 1) ≡ length ss) × (s ≡ get_or ss (length seen - 1) s)
last_at seen ss s same some at =
    let long : suc (length seen - 1) ≡ length seen = omega (arith, some) in
    (long ∙ ap length same, subst (λ xs. s ≡ get_or xs (length seen - 1) s) same at)

pub last_is : (ss : List Span) (n : ℕ) (s : Span) → AllByRecursion IsSpan ss → suc n ≡ length ss → s ≡ get_or ss n s
    → IsSpan s
last_is [] n s are long at = absurd (omega (arith, long))
last_is (x ∷ ss) zero s are long at = subst IsSpan (sym at) are.0
last_is (x ∷ ss) (suc n) s are long at = last_is ss n s are.1 (omega (arith, long)) at

-- a write through the slice is one to the items
pub set_filled : (seen ss : List Span) (n : ℕ) (s : Span) → seen ≡ ss
    → refill (length ss) ss (slice_set seen n s) ≡ slice_set ss n s
set_filled seen ss n s same =
    refilled ss (slice_set seen n s) (length-set seen n s ∙ ap length same) ∙ ap (λ xs. slice_set xs n s) same

-- the last of several is longer
module _ (part : Part) (s longer : Span) (is : IsSpan longer) (more : spelled longer ≡ spelled s ++ part ∷ []) where
  pub last_longer : (ss : List Span) (n : ℕ) → suc n ≡ length ss → s ≡ get_or ss n s
      → all_spelled (slice_set ss n longer) ≡ all_spelled ss ++ part ∷ []
  last_longer [] n long at = absurd (omega (arith, long))
  last_longer (x ∷ []) zero long at =
      append-nil (spelled longer)
      ∙ (more ∙ (ap (λ (y : Span). spelled y ++ part ∷ []) at
      ∙ ap (λ ps. ps ++ part ∷ []) (sym (append-nil (spelled x)))))
  last_longer (x ∷ y ∷ ss) zero long at = absurd (omega (arith, long))
  last_longer (x ∷ ss) (suc n) long at =
      ap (λ ps. spelled x ++ ps) (last_longer ss n (omega (arith, long)) at)
      ∙ sym (append_assoc (spelled x) (all_spelled ss) (part ∷ []))

  pub are_longer : (ss : List Span) (n : ℕ) → AllByRecursion IsSpan ss
      → AllByRecursion IsSpan (slice_set ss n longer)
  are_longer [] n are = tt
  are_longer (x ∷ ss) zero are = (is, are.1)
  are_longer (x ∷ ss) (suc n) are = (are.0, are_longer ss n are.1)

pub none_waited : (ss : List Span) → (length ss == 0) ≡ (length (all_spelled ss) == 0)
none_waited [] = refl
none_waited (s ∷ ss) =
    eq_apart (suc (length ss)) 0 (inr (omega arith))
    ∙ sym (eq_apart (suc (length (row s.switch (suc s.first) (s.last - s.first) ++ all_spelled ss))) 0
    (inr (omega arith)))

-- what comes before a number, and what comes behind it ----------------------------------------------------------------

pub front_is : (s : Span) (number : ℕ) → IsSpan s → number ≤ s.last → s.first < number
    → IsSpan (record { switch = s.switch; first = s.first; last = number - 1 })
front_is s number is le lt = (omega (arith, lt), λ z. let end = is.1 z in absurd (omega (arith, z, end, le, lt)))

pub front_spelled : (s : Span) (number : ℕ) → s.first < number
    → spelled (record { switch = s.switch; first = s.first; last = number - 1 })
    ≡ row s.switch s.first (number - s.first)
front_spelled s number lt =
    let same : suc ((number - 1) - s.first) ≡ number - s.first = omega (arith, lt) in
    ap (row s.switch s.first) same

pub front_none : (s : Span) (number : ℕ) → number ≤ s.first → [] ≡ row s.switch s.first (number - s.first)
front_none s number le =
    let none : 0 ≡ number - s.first = omega (arith, le) in ap (row s.switch s.first) none

pub back_is : (s : Span) (number : ℕ) → number < s.last
    → IsSpan (record { switch = s.switch; first = number + 1; last = s.last })
back_is s number lt = (omega (arith, lt), λ z. absurd (omega (arith, z)))

pub back_spelled : (s : Span) (number : ℕ) → number < s.last
    → spelled (record { switch = s.switch; first = number + 1; last = s.last })
    ≡ row s.switch (suc number) (s.last - number)
back_spelled s number lt =
    let same : suc (s.last - (number + 1)) ≡ s.last - number = omega (arith, lt) in
    let next : number + 1 ≡ suc number = omega arith in
    λ i. row s.switch (next i) (same i)

pub back_none : (s : Span) (number : ℕ) → s.last ≤ number → [] ≡ row s.switch (suc number) (s.last - number)
back_none s number le =
    let none : 0 ≡ s.last - number = omega (arith, le) in ap (row s.switch (suc number)) none

-- those of one switch -------------------------------------------------------------------------------------------------

module _ (n : ℕ) where
  abbrev pub of_it : Part → Bool
  of_it part = part.switch == n

  row_of : (s first count : ℕ) → list_any of_it (row s first (suc count)) ≡ (s == n)
  row_of s first zero = by (s == n)
    where
      by : (b : Bool) → (b || false) ≡ b
      by true = refl
      by false = refl
  row_of s first (suc count) = by (s == n) (row_of s (suc first) count)
    where
      by : (b : Bool) → list_any of_it (row s (suc first) (suc count)) ≡ b
          → (b || list_any of_it (row s (suc first) (suc count))) ≡ b
      by true rest = refl
      by false rest = rest

  pub any_of : (ss : List Span) → list_any (λ (s : Span). s.switch == n) ss ≡ list_any of_it (all_spelled ss)
  any_of [] = refl
  any_of (s ∷ ss) =
      ap₂ (λ (a b : Bool). a || b) (sym (row_of s.switch s.first (s.last - s.first))) (any_of ss)
      ∙ sym (list_any-append of_it (spelled s) (all_spelled ss))

  row_dropped : (s first count : ℕ) (b : Bool) → (s == n) ≡ b
      → filter (λ (part : Part). not (of_it part)) (row s first count) ≡ (if b then [] else row s first count)
  row_dropped s first zero true e = refl
  row_dropped s first zero false e = refl
  row_dropped s first (suc count) true e =
      let rest = filter (λ (part : Part). not (of_it part)) (row s (suc first) count) in
      ap (λ (b : Bool). if not b then record { switch = s; number = first } ∷ rest else rest) e
      ∙ row_dropped s (suc first) count true e
  row_dropped s first (suc count) false e =
      let rest = filter (λ (part : Part). not (of_it part)) (row s (suc first) count) in
      ap (λ (b : Bool). if not b then record { switch = s; number = first } ∷ rest else rest) e
      ∙ ap (λ (ps : List Part). record { switch = s; number = first } ∷ ps) (row_dropped s (suc first) count false e)

  pub dropped_of : (ss : List Span) → all_spelled (filter (λ (s : Span). not (s.switch == n)) ss)
      ≡ filter (λ (part : Part). not (of_it part)) (all_spelled ss)
  dropped_of [] = refl
  dropped_of (s ∷ ss) = by (s.switch == n) (row_dropped s.switch s.first (suc (s.last - s.first)) (s.switch == n) refl)
      (dropped_of ss) ∙ sym (filter-append (λ (part : Part). not (of_it part)) (spelled s) (all_spelled ss))
    where
      by : (b : Bool)
          → filter (λ (part : Part). not (of_it part)) (spelled s) ≡ (if b then [] else spelled s)
          → all_spelled (filter (λ (x : Span). not (x.switch == n)) ss)
          ≡ filter (λ (part : Part). not (of_it part)) (all_spelled ss)
          → all_spelled (if not b then s ∷ filter (λ (x : Span). not (x.switch == n)) ss
          else filter (λ (x : Span). not (x.switch == n)) ss)
          ≡ filter (λ (part : Part). not (of_it part)) (spelled s)
          ++ filter (λ (part : Part). not (of_it part)) (all_spelled ss)
      by true e rest = rest ∙ ap (λ ps. ps ++ filter (λ (part : Part). not (of_it part)) (all_spelled ss)) (sym e)
      by false e rest = λ i. sym e i ++ rest i

-- where no call changes the closure or the item, `retain` leaves what passes the test
pub retained : {A F : Type 0} (R : F → A → Bool → F → A → Type 0) (test : A → Bool) (f : F)
    → ((x : A) (b : Bool) (g : F) (y : A) → R f x b g y → (b ≡ test x) × (g ≡ f) × (y ≡ x))
    → (xs ys : List A) → RetainsInTurn R f xs ys → ys ≡ filter test xs
retained R test f says [] ys h = h
retained R test f says (x ∷ xs) ys h =
    let said = says x h.0 h.1 h.2 h.3 in
    let rest = retained R test f says xs h.4 (subst (λ g. RetainsInTurn R g xs h.4) said.1 h.5) in
    h.6 ∙ (λ i. cond (said.0 i) (said.2 i ∷ rest i) (rest i))

pub kept_of : (test : Span → Bool) (ss : List Span) → AllByRecursion IsSpan ss
    → AllByRecursion IsSpan (filter test ss)
kept_of test [] are = tt
kept_of test (s ∷ ss) are = by (test s) (kept_of test ss are.1)
  where
    by : (b : Bool) → AllByRecursion IsSpan (filter test ss)
        → AllByRecursion IsSpan (if b then s ∷ filter test ss else filter test ss)
    by true rest = (are.0, rest)
    by false rest = rest

-- xids ----------------------------------------------------------------------------------------------------------------

module _ (n xid : ℕ) where
  row_numbered : (s first count : ℕ) → 0 < first → map (part_with_xid n xid) (row s first count) ≡ row s first count
  row_numbered s first zero lt = refl
  row_numbered s first (suc count) lt =
      let not_zero : is_part n 0 (record { switch = s; number = first }) ≡ false =
      ap (λ (b : Bool). (s == n) && b) (eq_apart first 0 (inr lt)) ∙ and_false n 0 (s == n) in
      ap (λ (b : Bool). (if b then record { switch = s; number = xid } else record { switch = s; number = first })
      ∷ map (part_with_xid n xid) (row s (suc first) count)) not_zero
      ∙ ap (λ (ps : List Part). record { switch = s; number = first } ∷ ps)
      (row_numbered s (suc first) count (omega arith))

  row_apart : (s first count : ℕ) → (s == n) ≡ false
      → map (part_with_xid n xid) (row s first count) ≡ row s first count
  row_apart s first zero e = refl
  row_apart s first (suc count) e =
      ap (λ (b : Bool). (if b && (first == 0) then record { switch = s; number = xid }
      else record { switch = s; number = first }) ∷ map (part_with_xid n xid) (row s (suc first) count)) e
      ∙ ap (λ (ps : List Part). record { switch = s; number = first } ∷ ps) (row_apart s (suc first) count e)

  span_numbered : (s : Span) → IsSpan s
      → spelled (span_with_xid n xid s) ≡ map (part_with_xid n xid) (spelled s)
  span_numbered s is = by (s.switch == n) refl (cases_lt 0 s.first)
    where
      stays : ((s.switch == n) && (s.first == 0)) ≡ false
          → map (part_with_xid n xid) (spelled s) ≡ spelled s
          → spelled (span_with_xid n xid s) ≡ map (part_with_xid n xid) (spelled s)
      stays f same =
          ap (λ (b : Bool). spelled (if b then record { switch = s.switch; first = xid; last = xid } else s)) f
          ∙ sym same

      by : (b : Bool) → (s.switch == n) ≡ b → (0 < s.first) ⊎ (s.first ≤ 0)
          → spelled (span_with_xid n xid s) ≡ map (part_with_xid n xid) (spelled s)
      by false e at =
          stays (ap (λ (b : Bool). b && (s.first == 0)) e)
          (row_apart s.switch s.first (suc (s.last - s.first)) e)
      by true e (inl lt) =
          stays (ap (λ (b : Bool). (s.switch == n) && b) (eq_apart s.first 0 (inr lt)) ∙ and_false n 0 (s.switch == n))
          (row_numbered s.switch s.first (suc (s.last - s.first)) lt)
      by true e (inr le) =
          let zero_first : s.first ≡ 0 = omega (arith, le) in
          let zero_last : s.last ≡ 0 = is.1 zero_first in
          let given : ((s.switch == n) && (s.first == 0)) ≡ true =
          (λ i. e i && eq_same s.first 0 zero_first i) in
          let none : xid - xid ≡ 0 = omega arith in
          let alone : s.last - s.first ≡ 0 = omega (arith, zero_first, zero_last) in
          ap (λ (b : Bool). spelled (if b then record { switch = s.switch; first = xid; last = xid } else s)) given
          ∙ (ap (λ (k : ℕ). row s.switch xid (suc k)) none
          ∙ sym (ap (λ (k : ℕ). map (part_with_xid n xid) (row s.switch s.first (suc k))) alone
          ∙ ap (λ (b : Bool). (if b then record { switch = s.switch; number = xid }
          else record { switch = s.switch; number = s.first }) ∷ []) given))

  pub all_numbered : (ss : List Span) → AllByRecursion IsSpan ss
      → all_spelled (map (span_with_xid n xid) ss) ≡ map (part_with_xid n xid) (all_spelled ss)
  all_numbered [] are = refl
  all_numbered (s ∷ ss) are =
      (λ i. span_numbered s are.0 i ++ all_numbered ss are.1 i)
      ∙ sym (map-append (part_with_xid n xid) (spelled s) (all_spelled ss))

  is_numbered : (s : Span) → IsSpan s → IsSpan (span_with_xid n xid s)
  is_numbered s is = by ((s.switch == n) && (s.first == 0))
    where
      by : (b : Bool) → IsSpan (if b then record { switch = s.switch; first = xid; last = xid } else s)
      by true = (omega arith, λ z. z)
      by false = is

  pub are_numbered : (ss : List Span) → AllByRecursion IsSpan ss
      → AllByRecursion IsSpan (map (span_with_xid n xid) ss)
  are_numbered [] are = tt
  are_numbered (s ∷ ss) are = (is_numbered s are.0, are_numbered ss are.1)

  pub numbered_filled : (ss new : List Span) → new ≡ map (span_with_xid n xid) ss
      → refill (length ss) ss new ≡ map (span_with_xid n xid) ss
  numbered_filled ss new e = refilled ss new (ap length e ∙ length-map ss (span_with_xid n xid)) ∙ e
