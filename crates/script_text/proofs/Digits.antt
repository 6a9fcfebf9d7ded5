-- A text is read as the number whose decimal digits it is.
use Rattle.std.proofs.Common.{◌≡◌, ℕ, zero, suc, ◌+◌, ◌-◌, ◌*◌, ◌^◌, ◌<◌, ◌≤◌, Bool, true, false, cond, List, [], ◌∷◌}
use Rattle.std.proofs.Common.{length, get_or, take, drop, Option, Some, None, refl, sym, ap, subst, ◌∙◌, inl, inr}
use Rattle.std.proofs.Common.{arith}
use Rattle.std.specs.Prelude.{◌&&◌, ◌==◌, not, decimal, nat_le, nat_lt}
use Rattle.std.specs.Int.{IsInRange}
use Rattle.std.specs.Str.{all_ascii_digits, bytes_eq}
use Rattle.std.proofs.lemmas.Bool.{cases_lt, eqb-true, le-leb, lt-ltb, leb-true, ltb-true, ne_eqb}
use Rattle.std.proofs.lemmas.Fmt.{decimal-digits_value, decimal_digit, decimal_nonempty, digits_decimal}
use Rattle.std.proofs.lemmas.Fmt.{digits_value-decimal, first_decimal}
use Rattle.std.proofs.lemmas.List.{drop_all, drop_more}
use Rattle.std.proofs.lemmas.Option.{cond_some}
use Rattle.std.proofs.lemmas.Str.Parse.{IsNumeralModel, digit_at, numerals_by_fold, tells_all_ascii_digits}
use Rattle.std.proofs.lemmas.Str.Parse.{tells_by_index}
use Rattle.script_text.specs.InsideNumbers.{digits_in, starts_well}
use Rattle.script_text.specs.Numbers.{number_in, value_after, value_of}
use Rattle.script_text.proofs.Passed.{both, false_if, if_false, if_true, same_text, text_same}

pub own : IsNumeralModel (λ ds. all_ascii_digits ds ≡ true) value_of
own = numerals_by_fold (λ ds. all_ascii_digits ds ≡ true) tells_all_ascii_digits value_after
    (record { empty = λ n. refl; more = λ n c cs r. refl })

by_index : IsNumeralModel (λ ds. (i : ℕ) → i < length ds → IsInRange 48 57 (get_or ds i 0)) value_of
by_index = numerals_by_fold (λ ds. (i : ℕ) → i < length ds
    → IsInRange 48 57 (get_or ds i 0)) tells_by_index value_after
    (record { empty = λ n. refl; more = λ n c cs r. refl })

pub value_grows : (n : ℕ) (ds : List ℕ) → n ≤ value_after n ds
value_grows n [] = omega arith
value_grows n (c ∷ cs) = omega (arith, value_grows (n * 10 + (c - 48)) cs)

-- ---- the digits

abbrev most64 : ℕ
most64 = 18446744073709551616

pub no_digits : (text : List ℕ) → (all_ascii_digits text ≡ true → value_of text < most64 → ⊥) → digits_in text ≡ None
unfolding digits_in
no_digits text never =
    if_false (all_ascii_digits text && nat_lt (value_of text) most64) (Some (value_of text)) None
    (false_if (all_ascii_digits text && nat_lt (value_of text) most64)
    (λ e. let p = both (all_ascii_digits text) (nat_lt (value_of text) most64) e in never p.0 (ltb-true _ _ p.1)))

pub no_digit_at : (text : List ℕ) (i : ℕ) → i < length text → (IsInRange 48 57 (get_or text i 0) → ⊥)
    → digits_in text ≡ None
no_digit_at text i lt never = no_digits text (λ e small. never (digit_at text i (own.to text e) lt))

pub too_large : (text : List ℕ) (value i : ℕ) → i < length text → value_after value (drop i text) ≡ value_of text
    → most64 ≤ value * 10 + (get_or text i 0 - 48) → digits_in text ≡ None
too_large text value i lt so_far large =
    no_digits text
    (λ e small. omega (
      arith,
      small,
      large,
      ap (value_after value) (drop_more text i 0 lt),
      so_far,
      value_grows (value * 10 + (get_or text i 0 - 48)) (drop (i + 1) text),
    ))

pub all_digits : (text : List ℕ) (value i : ℕ) → ((k : ℕ) → k < i → IsInRange 48 57 (get_or text k 0)) → length text ≤ i
    → value < most64 → value_after value (drop i text) ≡ value_of text → digits_in text ≡ Some value
unfolding digits_in
all_digits text value i digits over small so_far =
    let is : value ≡ value_of text = ap (value_after value) (sym (drop_all i text over)) ∙ so_far in
    let tested : all_ascii_digits text ≡ true =
    own.from text (by_index.to text (λ k lt. digits k (omega (arith, lt, over)))) in
    let fits : nat_lt (value_of text) most64 ≡ true = lt-ltb _ _ (omega (arith, is, small)) in
    (λ i. cond (tested i && fits i) (Some (value_of text)) None) ∙ ap (λ (n : ℕ). Some n) (sym is)

-- ---- decimals

starts_by_first : (ds : List ℕ) → 0 < length ds → 48 < get_or ds 0 0 → starts_well ds ≡ true
starts_by_first [] some high = absurd (omega (arith, some))
starts_by_first (c ∷ []) some high = refl
starts_by_first (c ∷ d ∷ cs) some high = ap not (ne_eqb c 48 (λ e. omega (arith, e, high)))

decimal_starts : (n : ℕ) → n < most64 → starts_well (decimal n) ≡ true
decimal_starts zero small = ap starts_well (decimal_digit 0 (omega arith))
decimal_starts (suc n) small = starts_by_first (decimal (suc n)) (decimal_nonempty (suc n) small)
    (first_decimal (suc n) (omega arith) small)

some_first : (text : List ℕ) → starts_well text ≡ true → 0 < length text
some_first [] e = absurd cc
some_first (c ∷ cs) e = omega arith

one_zero : (text : List ℕ) → starts_well text ≡ true → get_or text 0 0 ≡ 48 → length text ≡ 1
one_zero [] e z = absurd cc
one_zero (c ∷ []) e z = refl
one_zero (c ∷ d ∷ cs) e z = absurd (never (c == 48) e (ap (λ (n : ℕ). n == 48) z))
  where
    never : (b : Bool) → not b ≡ true → b ≡ true → ⊥
    never true e f = cc
    never false e f = cc

none_if : (most : ℕ) (text : List ℕ) → (decimal (value_of text) ≡ text → value_of text ≤ most → ⊥)
    → number_in most text ≡ None
unfolding number_in
none_if most text never =
    let same = bytes_eq (decimal (value_of text)) text in
    let small = nat_le (value_of text) most in
    if_false (same && small) (Some (value_of text)) None
    (false_if (same && small) (λ e. let p = both same small e in never (same_text _ _ p.0) (leb-true _ _ p.1)))

pub badly_started : (most : ℕ) (text : List ℕ) → most < most64 → starts_well text ≡ false → number_in most text ≡ None
badly_started most text bound bad =
    none_if most text (λ same small. never (starts_well text)
    (ap starts_well (sym same) ∙ decimal_starts (value_of text) (omega (arith, small, bound))) bad)
  where
    never : (b : Bool) → b ≡ true → b ≡ false → ⊥
    never true e f = cc
    never false e f = cc

-- digits that start well are those of their number
digits_same : (text : List ℕ) (value : ℕ) → starts_well text ≡ true → digits_in text ≡ Some value
    → (value ≡ value_of text) × (decimal (value_of text) ≡ text)
unfolding digits_in
digits_same text value starts read =
    let p = cond_some (all_ascii_digits text && nat_lt (value_of text) most64) (value_of text) value read in
    let q = both (all_ascii_digits text) (nat_lt (value_of text) most64) p.0 in
    (sym p.1, decimal-digits_value own text q.0 (some_first text starts) (one_zero text starts) (ltb-true _ _ q.1))

pub is_number : (most : ℕ) (text : List ℕ) (value : ℕ) → starts_well text ≡ true → digits_in text ≡ Some value
    → value ≤ most → number_in most text ≡ Some value
unfolding number_in
is_number most text value starts read small =
    let d = digits_same text value starts read in
    let same = text_same (decimal (value_of text)) text d.1 in
    let fits : nat_le (value_of text) most ≡ true = le-leb _ _ (omega (arith, d.0, small)) in
    (λ i. cond (same i && fits i) (Some (value_of text)) None) ∙ ap (λ (n : ℕ). Some n) (sym d.0)

pub above_most : (most : ℕ) (text : List ℕ) (value : ℕ) → starts_well text ≡ true → digits_in text ≡ Some value
    → most < value → number_in most text ≡ None
above_most most text value starts read large =
    none_if most text (λ same small. omega (arith, (digits_same text value starts read).0, small, large))

pub no_number : (most : ℕ) (text : List ℕ) → most < most64 → digits_in text ≡ None → number_in most text ≡ None
unfolding digits_in
no_number most text bound read =
    none_if most text (λ same small.
    let tested : all_ascii_digits text ≡ true = ap all_ascii_digits (sym same)
    ∙ digits_decimal own (value_of text) (omega (arith, small, bound)) in
    let fits : nat_lt (value_of text) most64 ≡ true = lt-ltb _ _ (omega (arith, small, bound)) in
    none_some (value_of text) (sym read ∙ (λ i. cond (tested i && fits i) (Some (value_of text)) None)))
  where
    none_some : (n : ℕ) → None ≡ Some n → ⊥
    none_some n e = cc

-- ---- both ways

pub number_is : (most : ℕ) (text : List ℕ) (n : ℕ) → number_in most text ≡ Some n → (text ≡ decimal n) × (n ≤ most)
unfolding number_in
number_is most text n read =
    let p = cond_some (bytes_eq (decimal (value_of text)) text && nat_le (value_of text) most) (value_of text) n read in
    let q = both (bytes_eq (decimal (value_of text)) text) (nat_le (value_of text) most) p.0 in
    (sym (same_text _ _ q.0) ∙ ap decimal p.1, omega (arith, leb-true _ _ q.1, p.1))

pub decimal_is : (most n : ℕ) → most < most64 → n ≤ most → number_in most (decimal n) ≡ Some n
unfolding number_in
decimal_is most n bound small =
    let is : value_of (decimal n) ≡ n = digits_value-decimal own n (omega (arith, small, bound)) in
    let same = text_same (decimal (value_of (decimal n))) (decimal n) (ap decimal is) in
    let fits : nat_le (value_of (decimal n)) most ≡ true = le-leb _ _ (omega (arith, is, small)) in
    (λ i. cond (same i && fits i) (Some (value_of (decimal n))) None) ∙ ap (λ (k : ℕ). Some k) is
