-- The frame that bytes begin with is found by its length field.
use Rattle.std.proofs.Common.{◌≡◌, ℕ, ◌+◌, ◌≤◌, List, ◌++◌, length, take, drop, sym, ap, subst, ◌∙◌, arith}
use Rattle.std.proofs.lemmas.List.{take-append-drop, drop-append-le, length-drop, length-take-le, drop-drop}
use Rattle.byteorder.specs.Endian.{big_number}
use Rattle.byteorder.specs.Numbers.{big_from-append}
use Rattle.of10_frames.specs.Wire.{length_field}
use Rattle.of10_frames.specs.Frames.{IsFrame, BeginsWithFrame}

-- what follows a header's length field doesn't change it
pub length_field-append : (front after : List ℕ) → 4 ≤ length front → length_field (front ++ after) ≡ length_field front
length_field-append front after long =
    let rest : 2 ≤ length (drop 2 front) = omega (arith, length-drop 2 front) in
    ap (big_number 2) (drop-append-le 2 front after (omega arith)) ∙ big_from-append 2 (drop 2 front) after rest

-- so many bytes of the front are a frame
pub front_frame : (bytes : List ℕ) → 8 ≤ length_field bytes → length_field bytes ≤ length bytes
    → IsFrame (take (length_field bytes) bytes)
front_frame bytes header whole =
    let n = length_field bytes in
    let size : length (take n bytes) ≡ n = length-take-le n bytes whole in
    let same : n ≡ length_field (take n bytes) = ap length_field (sym (take-append-drop n bytes))
    ∙ length_field-append (take n bytes) (drop n bytes) (omega arith) in
    record { header = omega arith; whole = sym same ∙ sym size }

pub begins : (bytes : List ℕ) → 8 ≤ length_field bytes → length_field bytes ≤ length bytes → BeginsWithFrame bytes
begins bytes header whole = (
  take (length_field bytes) bytes,
  drop (length_field bytes) bytes,
  front_frame bytes header whole,
  sym (take-append-drop (length_field bytes) bytes),
)

-- what is given out is a frame, and the bytes after it are kept
pub given_out : (items : List ℕ) (given size : ℕ) (kept frame : List ℕ) → drop given items ≡ kept
    → size ≡ length_field kept → 8 ≤ size → size ≤ length kept → frame ≡ take size kept
    → IsFrame frame × (kept ≡ frame ++ drop (given + size) items)
given_out items given size kept frame is n header whole taken =
    let k : size ≡ length_field kept = n in (
      subst IsFrame (ap (λ (m : ℕ). take m kept) (sym k) ∙ sym taken) (front_frame kept (omega arith) (omega arith)),
      sym (take-append-drop size kept)
          ∙ (ap (λ (x : List ℕ). x ++ drop size kept) (sym taken)
          ∙ ap (λ (x : List ℕ). frame ++ x) (ap (drop size) (sym is) ∙ drop-drop size given items)),
    )
