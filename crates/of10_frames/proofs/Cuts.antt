-- A byte string has one cut, and a cut goes on where more bytes come.
use Rattle.std.proofs.Common.{◌≡◌, ℕ, List, [], ◌∷◌, ◌++◌, length, take, All, sym, ap, refl, ◌∙◌, append_assoc, arith}
use Rattle.std.specs.List.{flat_map, AllByRecursion}
use Rattle.std.proofs.lemmas.List.{take_at, append_cancel_left, append-nil}
use Rattle.std.proofs.lemmas.List.Concat.{flat_map-append, flat_map-cons}
use Rattle.std.proofs.lemmas.List.Elements.{recursion_from_All, All-push}
use Rattle.of10_frames.specs.Wire.{length_field}
use Rattle.of10_frames.specs.Frames.{IsFrame, BeginsWithFrame, IsCut}
use Rattle.of10_frames.proofs.Fronts.{length_field-append}

abbrev pub joined : List (List ℕ) → List ℕ
joined frames = flat_map (λ frame. frame) frames

-- the frames that were taken from the front of bytes, and the bytes after them
pub record AreTaken (bytes : List ℕ) (frames : List (List ℕ)) (rest : List ℕ) : Type 0 where
  pub parts : bytes ≡ joined frames ++ rest
  pub whole : All IsFrame frames

-- one more is taken
pub more_taken : (bytes : List ℕ) (frames : List (List ℕ)) (old frame new : List ℕ) → AreTaken bytes frames old
    → IsFrame frame → old ≡ frame ++ new → AreTaken bytes (frames ++ frame ∷ []) new
more_taken bytes frames old frame new t f e = record {
  parts = t.parts ∙ (ap (λ (x : List ℕ). joined frames ++ x) e
      ∙ (sym (append_assoc (joined frames) frame new)
      ∙ ap (λ (x : List ℕ). x ++ new) (ap (λ (x : List ℕ). joined frames ++ x) (sym (append-nil frame))
      ∙ sym (flat_map-append (λ (x : List ℕ). x) frames (frame ∷ [])))));
  whole = All-push IsFrame frames frame t.whole f;
}

-- two frames that begin one byte string are one
same_front : (f g x y : List ℕ) → IsFrame f → IsFrame g → f ++ x ≡ g ++ y → f ≡ g
same_front f g x y a b e =
    let size : length f ≡ length g =
    sym a.whole ∙ (sym (length_field-append f x (omega (arith, a.header)))
    ∙ (ap length_field e ∙ (length_field-append g y (omega (arith, b.header)) ∙ b.whole))) in
    sym (take_at f x (length f) refl) ∙ (ap (take (length f)) e ∙ take_at g y (length f) (sym size))

-- bytes of a frame and more begin with it
starts : (f x : List ℕ) (fs : List (List ℕ)) (rest : List ℕ) → x ≡ joined (f ∷ fs) ++ rest
    → x ≡ f ++ (joined fs ++ rest)
starts f x fs rest e = e ∙ (ap (λ (y : List ℕ). y ++ rest) (flat_map-cons (λ (y : List ℕ). y) f fs)
    ∙ append_assoc f (joined fs) rest)

same_parts : (bytes : List ℕ) (fs gs : List (List ℕ)) (r s : List ℕ) → AllByRecursion IsFrame fs
    → AllByRecursion IsFrame gs → (BeginsWithFrame r → ⊥) → (BeginsWithFrame s → ⊥) → bytes ≡ joined fs ++ r
    → bytes ≡ joined gs ++ s → (fs ≡ gs) × (r ≡ s)
same_parts bytes [] [] r s a b p q d e = (refl, sym d ∙ e)
same_parts bytes [] (g ∷ gs) r s a b p q d e = absurd (p (g, joined gs ++ s, b.0, sym d ∙ starts g bytes gs s e))
same_parts bytes (f ∷ fs) [] r s a b p q d e = absurd (q (f, joined fs ++ r, a.0, sym e ∙ starts f bytes fs r d))
same_parts bytes (f ∷ fs) (g ∷ gs) r s a b p q d e =
    let d' = starts f bytes fs r d in
    let e' = starts g bytes gs s e in
    let front = same_front f g (joined fs ++ r) (joined gs ++ s) a.0 b.0 (sym d' ∙ e') in
    let after : joined fs ++ r ≡ joined gs ++ s =
    append_cancel_left f _ _ (sym d' ∙ (e' ∙ ap (λ (x : List ℕ). x ++ (joined gs ++ s)) (sym front))) in
    let rest = same_parts (joined fs ++ r) fs gs r s a.1 b.1 p q refl after in
    (cc, rest.1)

-- a byte string has one cut
pub one_cut : (bytes : List ℕ) (fs gs : List (List ℕ)) (r s : List ℕ) → IsCut bytes fs r → IsCut bytes gs s
    → (fs ≡ gs) × (r ≡ s)
one_cut bytes fs gs r s a b =
    same_parts bytes fs gs r s (recursion_from_All IsFrame fs a.whole) (recursion_from_All IsFrame gs b.whole) a.ends
    b.ends a.parts b.parts
