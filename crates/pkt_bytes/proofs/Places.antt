-- Numbers at places of a list in which others were put.
use Rattle.std.proofs.Common.{◌≡◌, ◌<◌, ◌≤◌, ◌+◌, ◌-◌, ◌^◌, ℕ, zero, suc, true, List, [], ◌++◌, length, take, drop}
use Rattle.std.proofs.Common.{slice_index, get_or, Option, Some, None, refl, sym, subst, ap, ◌∙◌, inl, inr, arith}
use Rattle.std.specs.Prelude.{OnSome, IfSome}
use Rattle.std.proofs.lemmas.List.{append-nil, length-append, length-take, length-drop, drop-drop, drop_all, drop_at}
use Rattle.std.proofs.lemmas.List.{take_rest, length-take-le, get_or_append_left, get_or-append_right, get_or-take}
use Rattle.std.proofs.lemmas.List.{get_or-drop}
use Rattle.std.proofs.lemmas.Bool.{cases_lt}
use Rattle.std.specs.Int.{byte_at, bytes_high_first}
use Rattle.of10_actions.specs.Spelling.{IsBytes}
use Rattle.byteorder.specs.Endian.{big_from, big_bytes}
use Rattle.byteorder.specs.Numbers.{big_number-reads_back, length-bytes_high_first}
use borrow.Rule.Slice.PartMut.{put_mid}
use Rattle.of10_actions.specs.Rewriting.{set_to}
use Rattle.pkt_bytes.specs.Numbers.{number_at, put, put_if}
use Rattle.pkt_bytes.specs.Touched.{IsOutside}

-- a write at the start of what follows a place
pub part_written : (place n value : ℕ) (xs ys : List ℕ) → place ≤ length xs
    → ys ≡ big_bytes n value ++ drop n (take (length xs - place) (drop place xs))
    → put_mid place (length xs - place) xs ys ≡ put place n value xs
unfolding put
part_written place n value xs ys h e =
    let nothing : drop (length xs - place) (drop place xs) ≡ [] =
    drop_all (length xs - place) (drop place xs) (omega (arith, length-drop place xs)) in
    let written : ys ≡ big_bytes n value ++ drop (place + n) xs = e
    ∙ (ap (λ (zs : List ℕ). big_bytes n value ++ drop n zs) (take_rest xs place)
    ∙ ap (λ (zs : List ℕ). big_bytes n value ++ zs) (drop-drop n place xs)) in
    ap (λ (zs : List ℕ). take place xs ++ (ys ++ zs)) nothing
    ∙ ap (λ (zs : List ℕ). take place xs ++ zs) (append-nil ys ∙ written)

pub length-put : (place n value : ℕ) (xs : List ℕ) → place + n ≤ length xs → length (put place n value xs) ≡ length xs
unfolding put
length-put place n value xs h =
    simp (length-append, length-take, length-drop, length-bytes_high_first) (omega arith)

-- the bytes in front
get-put_before : (place n value k : ℕ) (xs : List ℕ) → place + n ≤ length xs → k < place
    → slice_index (put place n value xs) k ≡ slice_index xs k
unfolding put
get-put_before place n value k xs h before =
    let front : length (take place xs) ≡ place = length-take-le place xs (omega arith) in
    get_or_append_left (take place xs) (big_bytes n value ++ drop (place + n) xs) 0 k (omega arith)
    ∙ get_or-take place xs k 0 before

-- the bytes behind
get-put_behind : (place n value k : ℕ) (xs : List ℕ) → place + n ≤ length xs → place + n ≤ k
    → slice_index (put place n value xs) k ≡ slice_index xs k
unfolding put
get-put_behind place n value k xs h behind =
    let rest : place + n + (k - place - n) ≡ k = omega arith in
    get_or-append_right (take place xs) (big_bytes n value ++ drop (place + n) xs) place k 0
    (length-take-le place xs (omega arith)) (omega arith)
    ∙ get_or-append_right (big_bytes n value) (drop (place + n) xs) n (k - place) 0 (length-bytes_high_first n value)
    (omega arith)
    ∙ get_or-drop (place + n) xs (k - place - n) 0
    ∙ ap (λ (i : ℕ). get_or xs i 0) rest

pub get-put_other : (place n value k : ℕ) (xs : List ℕ) → place + n ≤ length xs → IsOutside place n k
    → slice_index (put place n value xs) k ≡ slice_index xs k
get-put_other place n value k xs h outside =
    elim outside [
      | inl before ↦ get-put_before place n value k xs h before
      | inr behind ↦ get-put_behind place n value k
          xs h behind
    ]

-- numbers of the same bytes
pub number_at-same : (place n : ℕ) (xs ys : List ℕ)
    → ((k : ℕ) → place ≤ k → k < place + n → slice_index xs k ≡ slice_index ys k)
    → number_at place n xs ≡ number_at place n ys
number_at-same place zero xs ys h = refl
number_at-same place (suc n) xs ys h =
    let byte = h place (omega arith) (omega arith) in
    let rest = number_at-same (suc place) n xs ys (λ k lo hi. h k (omega arith) (omega arith)) in
    rw (byte, rest) refl

-- the number at a place of what follows another
big_from-drop : (j n i : ℕ) (xs : List ℕ) → big_from j n (drop i xs) ≡ big_from (i + j) n xs
big_from-drop j zero i xs = refl
big_from-drop j (suc n) i xs =
    let byte = get_or-drop i xs j 0 in
    let rest = big_from-drop (suc j) n i xs in
    let next : i + suc j ≡ suc (i + j) = omega arith in
    rw (byte, rest, next) refl

pub number_at-put : (place n value : ℕ) (xs : List ℕ) → place + n ≤ length xs → value < 256 ^ n
    → number_at place n (put place n value xs) ≡ value
unfolding put
number_at-put place n value xs h fits =
    let whole : place + 0 ≡ place = omega arith in
    let bytes : List ℕ = big_bytes n value ++ drop (place + n) xs in
    ap (λ (i : ℕ). number_at i n (take place xs ++ bytes)) (sym whole)
    ∙ sym (big_from-drop 0 n place (take place xs ++ bytes))
    ∙ ap (λ (zs : List ℕ). big_from 0 n zs)
    (drop_at (take place xs) bytes place (length-take-le place xs (omega arith)))
    ∙ big_number-reads_back n value (drop (place + n) xs) fits

-- the same of a number that may be put
pub length-put_if : (place n : ℕ) (value : Option ℕ) (xs : List ℕ) → place + n ≤ length xs
    → length (put_if place n value xs) ≡ length xs
length-put_if place n None xs h = refl
length-put_if place n (Some value) xs h = length-put place n value xs h

pub get-put_if : (place n : ℕ) (value : Option ℕ) (k : ℕ) (xs : List ℕ) → place + n ≤ length xs
    → OnSome value (IsOutside place n k)
    → slice_index (put_if place n value xs) k ≡ slice_index xs k
get-put_if place n None k xs h outside = refl
get-put_if place n (Some value) k xs h outside = get-put_other place n value k xs h outside

pub number_at-put_if : (place n : ℕ) (value : Option ℕ) (xs : List ℕ) → place + n ≤ length xs
    → IfSome value (λ v. v < 256 ^ n)
    → number_at place n (put_if place n value xs) ≡ set_to true value (number_at place n xs)
number_at-put_if place n None xs h fits = refl
number_at-put_if place n (Some value) xs h fits = number_at-put place n value xs h fits

-- what holds without a value holds beside one
pub beside : {A : Type 0} (value : Option A) {P : Type 0} → P → OnSome value P
beside None p = tt
beside (Some v) p = p

-- the bytes of the number itself
get-put_in : (place n value k : ℕ) (xs : List ℕ) → place + n ≤ length xs → place ≤ k → k < place + n
    → slice_index (put place n value xs) k ≡ slice_index (big_bytes n value) (k - place)
unfolding put
get-put_in place n value k xs h lo hi =
    let long = length-bytes_high_first n value in
    get_or-append_right (take place xs) (big_bytes n value ++ drop (place + n) xs) place k 0
    (length-take-le place xs (omega arith)) lo
    ∙ get_or_append_left (big_bytes n value) (drop (place + n) xs) 0 (k - place) (omega arith)

digit-lt : (n x : ℕ) → byte_at n x < 256
digit-lt zero x = omega arith
digit-lt (suc n) x = omega arith

digits-lt : (n x k : ℕ) → slice_index (bytes_high_first n x) k < 256
digits-lt zero x k = omega arith
digits-lt (suc n) x zero = digit-lt n x
digits-lt (suc n) x (suc k) = digits-lt n x k

-- bytes with a number in them are bytes
pub IsBytes-put : (place n value : ℕ) (xs : List ℕ) → place + n ≤ length xs → IsBytes xs
    → IsBytes (put place n value xs)
IsBytes-put place n value xs h bytes k =
    let P : ℕ → Type 0 = λ (v : ℕ). v < 256 in
    elim (cases_lt k place) [
      | inl front ↦ subst P (sym (get-put_before place n value k xs h front)) (bytes k)
      | inr from ↦ elim (cases_lt k (place + n)) [
        | inl within ↦ subst P (sym (get-put_in place n value k xs h from within)) (digits-lt n value (k - place))
        | inr behind ↦ subst P (sym (get-put_behind place n value k xs h behind)) (bytes k)
      ]
    ]

pub IsBytes-put_if : (place n : ℕ) (value : Option ℕ) (xs : List ℕ) → place + n ≤ length xs → IsBytes xs
    → IsBytes (put_if place n value xs)
IsBytes-put_if place n None xs h bytes = bytes
IsBytes-put_if place n (Some value) xs h bytes = IsBytes-put place n value xs h bytes
