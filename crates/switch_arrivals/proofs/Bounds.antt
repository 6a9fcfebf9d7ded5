-- Strangers stay bounded.
use Rattle.std.proofs.Common.{◌≡◌, ℕ, ◌<◌, ◌≤◌, List, [], ◌∷◌, ◌++◌, arith, drop, length, length-append, suc, take, zero}
use Rattle.std.specs.List.{All, remove}
use Rattle.std.specs.Prelude.{Some, slice_get, slice_set}
use Rattle.std.proofs.lemmas.List.{length-set}
use Rattle.std.proofs.lemmas.List.Edits.{length-remove, remove-append_left}
use Rattle.std.proofs.lemmas.List.Elements.{All-append, All-drop, All-nil, All-push, All-set, All-take}
use Rattle.switch_arrivals.specs.Strangers.{AreBounded}
use Rattle.switch_arrivals.specs.declared.strangers.Stranger.{Stranger}

module _ {C : Type 0} where
  abbrev pub IsShort : Stranger C → Type 0
  IsShort s = length s.said ≤ 131072

  pub bounded_none : AreBounded {C = C} []
  bounded_none = (omega arith, All-nil IsShort)

  pub bounded_push : (xs : List (Stranger C)) (x : Stranger C) → length xs < 64 → IsShort x → AreBounded xs
      → AreBounded (xs ++ x ∷ [])
  bounded_push xs x room short b =
      let few : length (xs ++ x ∷ []) ≤ 64 = omega (arith, length-append xs (x ∷ [])) in
      (few, All-push IsShort xs x b.1 short)

  short_remove : (xs : List (Stranger C)) (i : ℕ) → All IsShort xs → All IsShort (remove xs i)
  short_remove xs i b =
      All-append IsShort (take i xs) (drop (suc i) xs) (All-take IsShort i xs b) (All-drop IsShort (suc i) xs b)

  pub bounded_remove : (xs : List (Stranger C)) (i : ℕ) → i < length xs → AreBounded xs → AreBounded (remove xs i)
  bounded_remove xs i there b =
      let few : length (remove xs i) ≤ 64 = omega (arith, length-remove xs i there, b.0) in
      (few, short_remove xs i b.1)

  pub bounded_instead : (xs : List (Stranger C)) (i : ℕ) (x : Stranger C) → i < length xs → IsShort x → AreBounded xs
      → AreBounded (remove xs i ++ x ∷ [])
  bounded_instead xs i x there short b =
      let few : length (remove xs i ++ x ∷ []) ≤ 64 =
      omega (arith, length-append (remove xs i) (x ∷ []), length-remove xs i there, b.0) in
      (few, All-push IsShort (remove xs i) x (short_remove xs i b.1) short)

  pub bounded_set : (xs : List (Stranger C)) (i : ℕ) (y : Stranger C) → IsShort y → AreBounded xs
      → AreBounded (slice_set xs i y)
  bounded_set xs i y short b =
      let few : length (slice_set xs i y) ≤ 64 = omega (arith, length-set xs i y, b.0) in
      (few, All-set IsShort xs i y short b.1)

  pub removed_push : (xs : List (Stranger C)) (i : ℕ) (x : Stranger C) → i < length xs
      → remove (xs ++ x ∷ []) i ≡ remove xs i ++ x ∷ []
  removed_push xs i x there = remove-append_left xs (x ∷ []) i there

  pub get_pushed : (xs : List (Stranger C)) (i : ℕ) (x y : Stranger C) → i < length xs
      → slice_get (xs ++ x ∷ []) i ≡ Some y → slice_get xs i ≡ Some y
  get_pushed [] i x y there at = absurd (omega arith)
  get_pushed (z ∷ xs) zero x y there at = at
  get_pushed (z ∷ xs) (suc i) x y there at = get_pushed xs i x y (omega arith) at
