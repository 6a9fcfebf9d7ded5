-- Counts do not depend on which cookies are folded into totals.
use Rattle.std.proofs.Common.{◌≡◌, ℕ, ◌+◌, Bool, true, false, List, [], ◌∷◌, ◌++◌, refl, ap, ◌∙◌, sym, arith}
use Rattle.std.specs.Prelude.{if◌then◌else◌, sum_by, IsPermutation}
use Rattle.std.proofs.lemmas.List.Sorted.{sum_by-IsPermutation}
use Rattle.std.proofs.lemmas.List.Sums.{sum_by-append, sum_by-cons}
use Rattle.cv_io.specs.declared.leaf.Leaf.{Leaf}
use Rattle.switch_meaning.specs.Counts.{Cookie, CountsAdd, CountsWithoutTotals, FoldingKeepsCounts, Numbers, added}
use Rattle.switch_meaning.specs.Counts.{bytes_for, capped, folded, folded_in, names, packets_for}

abbrev numbers : ℕ → ℕ → Numbers
numbers p b = record { packets = p; bytes = b }

same-numbers : {p q b c : ℕ} → p ≡ q → b ≡ c → numbers p b ≡ numbers q c
same-numbers e f = rw (e, f) refl

-- capping in between changes nothing
capped-between : (t c s x : ℕ) → capped (capped (t + c) + (s + x)) ≡ capped (t + ((c + s) + x))
capped-between t c s x = omega arith

without-zero : (x : ℕ) → 0 + x ≡ x
without-zero x = omega arith

-- one of the two numbers
module _ (part : Numbers → ℕ) (adds : (a b : Numbers) → part (added a b) ≡ capped (part a + part b)) (leaf : Leaf) where
  abbrev share : Cookie → ℕ
  share c = if names leaf c then part c.numbers else 0

  folds-in :
      (b : Bool) (t c : Numbers) (s x : ℕ)
      → capped (part (if b then added t c else t) + (s + x)) ≡ capped (part t + (((if b then part c else 0) + s) + x))
  folds-in true t c s x = ap (λ (n : ℕ). capped (n + (s + x))) (adds t c) ∙ capped-between (part t) (part c) s x
  folds-in false t c s x = ap (λ (n : ℕ). capped (part t + (n + x))) (sym (without-zero s))

  folds : (totals : Leaf → Numbers) (gone : List Cookie) (x : ℕ) → capped (part (folded totals gone leaf) + x)
      ≡ capped (part (totals leaf) + (sum_by share gone + x))
  folds totals [] x = ap (λ (n : ℕ). capped (part (totals leaf) + n)) (sym (without-zero x))
  folds totals (c ∷ cs) x =
      folds (folded_in totals c) cs x
      ∙ (folds-in (names leaf c) (totals leaf) c.numbers (sum_by share cs) x
      ∙ ap (λ (n : ℕ). capped (part (totals leaf) + (n + x))) (sym (sum_by-cons share c cs)))

  keeps : (totals : Leaf → Numbers) (gone rest all : List Cookie) → IsPermutation (gone ++ rest) all
      → capped (part (folded totals gone leaf) + capped (sum_by share rest))
      ≡ capped (part (totals leaf) + capped (sum_by share all))
  keeps totals gone rest all same =
      let a : sum_by share all ≡ sum_by share (gone ++ rest) = sum_by-IsPermutation share (gone ++ rest) all same in
      let b : sum_by share (gone ++ rest) ≡ sum_by share gone + sum_by share rest = sum_by-append share gone rest in
      let c = folds totals gone (sum_by share rest) in
      omega arith

  adds-up : (a b : List Cookie) → capped (capped (sum_by share a) + capped (sum_by share b)) ≡ capped
      (sum_by share (a ++ b))
  adds-up a b = let e : sum_by share (a ++ b) ≡ sum_by share a + sum_by share b = sum_by-append share a b in omega arith

capped-twice : (n : ℕ) → capped (0 + capped n) ≡ capped n
capped-twice n = omega arith

pub counts-without-totals : CountsWithoutTotals
counts-without-totals cookies leaf = same-numbers (capped-twice (sum_by (packets_for leaf) cookies))
    (capped-twice (sum_by (bytes_for leaf) cookies))

pub folding-keeps-counts : FoldingKeepsCounts
folding-keeps-counts totals gone rest all same leaf =
    same-numbers (keeps (λ (n : Numbers). n.packets) (λ a b. refl) leaf totals gone rest all same)
    (keeps (λ (n : Numbers). n.bytes) (λ a b. refl) leaf totals gone rest all same)

pub counts-add : CountsAdd
counts-add a b leaf = same-numbers (adds-up (λ (n : Numbers). n.packets) (λ a b. refl) leaf a b)
    (adds-up (λ (n : Numbers). n.bytes) (λ a b. refl) leaf a b)
