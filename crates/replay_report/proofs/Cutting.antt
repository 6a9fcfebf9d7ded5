-- All frames are taken out one after the other.
use Rattle.std.proofs.Common.{◌≡◌, ◌≢◌, ℕ, zero, suc, ◌+◌, ◌≤◌, ◌<◌, Bool, true, false, ◌&&◌, cond, nat_le, nat_lt}
use Rattle.std.proofs.Common.{List, [], ◌∷◌, ◌++◌, length, take, drop, sym, ap, refl, ◌∙◌, subst, arith}
use Rattle.std.specs.Prelude.{if◌then◌else◌}
use Rattle.std.proofs.lemmas.List.{take_at, drop_at, length-drop, length-append}
use Rattle.std.proofs.lemmas.Bool.Decides.{nat_tests}
use Rattle.of10_frames.specs.Wire.{length_field}
use Rattle.of10_frames.specs.Frames.{BeginsWithFrame, IsFrame, IsShort, IsUnfinished}
use Rattle.of10_frames.proofs.Fronts.{begins, length_field-append}
use Rattle.replay_report.specs.Cuts.{begins_whole, frames_of, frames_up_to, is_short, rest_of, rest_up_to}

-- bytes that begin with a whole frame are so many, of which some are the frame's
both_hold : (n size : ℕ) → (nat_le 8 n && nat_le n size) ≡ true → (8 ≤ n) × (n ≤ size)
both_hold n size b = (grind (arith, nat_tests), grind (arith, nat_tests))

they_hold : (n size : ℕ) → 8 ≤ n → n ≤ size → (nat_le 8 n && nat_le n size) ≡ true
they_hold n size a b = grind (arith, nat_tests)

-- what is left behind a frame is shorter
shorter : (n k : ℕ) (bytes : List ℕ) → 8 ≤ k → length bytes ≤ suc n → length (drop k bytes) ≤ n
shorter n k bytes a b = omega (arith, length-drop k bytes)

-- more room for frames makes no difference
pub record IsSame (n m : ℕ) (bytes : List ℕ) : Type 0 where
  pub frames : frames_up_to n bytes ≡ frames_up_to m bytes
  pub rest : rest_up_to n bytes ≡ rest_up_to m bytes

no_room : (m : ℕ) (bytes : List ℕ) → length bytes ≤ 0 → IsSame 0 m bytes
no_room zero bytes a = record { frames = refl; rest = refl }
no_room (suc m) [] a = record { frames = refl; rest = refl }
no_room (suc m) (byte ∷ bytes) a = absurd (omega arith)

next_room : (b : Bool) (n m k : ℕ) (bytes : List ℕ) → (b ≡ true → IsSame n m (drop k bytes)) →
    ((if b then take k bytes ∷ frames_up_to n (drop k bytes) else [])
    ≡ (if b then take k bytes ∷ frames_up_to m (drop k bytes) else []))
    × ((if b then rest_up_to n (drop k bytes) else bytes) ≡ (if b then rest_up_to m (drop k bytes) else bytes))
next_room true n m k bytes f = (ap (λ xs. take k bytes ∷ xs) (f refl).frames, (f refl).rest)
next_room false n m k bytes f = (refl, refl)

pub more_room : (n m : ℕ) (bytes : List ℕ) → length bytes ≤ n → length bytes ≤ m → IsSame n m bytes
more_room zero m bytes a b = no_room m bytes a
more_room (suc n) zero bytes a b = let s = no_room (suc n) bytes b in
    record { frames = sym s.frames; rest = sym s.rest }
more_room (suc n) (suc m) bytes a b =
    let k = length_field bytes in
    let same = next_room (begins_whole bytes) n m k bytes
    (λ e. let h = both_hold k (length bytes) e in
    more_room n m (drop k bytes) (shorter n k bytes h.0 a) (shorter m k bytes h.0 b)) in
    record { frames = same.0; rest = same.1 }

-- with room for one more
with_room : (bytes : List ℕ) → IsSame (length bytes) (suc (length bytes)) bytes
with_room bytes = more_room (length bytes) (suc (length bytes)) bytes (omega arith) (omega arith)

-- a frame comes first
pub record TakesFrame (bytes frame after : List ℕ) : Type 0 where
  pub frames : frames_of bytes ≡ frame ∷ frames_of after
  pub rest : rest_of bytes ≡ rest_of after

pub frame_first : (frame after bytes : List ℕ) → IsFrame frame → bytes ≡ frame ++ after → TakesFrame bytes frame after
unfolding frames_of rest_of
frame_first frame after bytes f e =
    let k = length_field bytes in
    let size : k ≡ length frame = ap length_field e
    ∙ (length_field-append frame after (omega (arith, f.header)) ∙ f.whole) in
    let total : length bytes ≡ length frame + length after = ap length e ∙ length-append frame after in
    let holds : begins_whole bytes ≡ true = they_hold k (length bytes) (omega (arith, f.header)) (omega arith) in
    let front : take k bytes ≡ frame = (λ i. take (size i) (e i)) ∙ take_at frame after (length frame) refl in
    let back : drop k bytes ≡ after = (λ i. drop (size i) (e i)) ∙ drop_at frame after (length frame) refl in
    let room = with_room bytes in
    let enough : length (drop k bytes) ≤ length bytes = omega (arith, length-drop k bytes) in
    let same = more_room (length bytes) (length after) after (omega arith) (omega arith) in
    record {
      frames = room.frames
          ∙ (ap (λ b. if b then take k bytes ∷ frames_up_to (length bytes) (drop k bytes) else []) holds
          ∙ ((λ i. front i ∷ frames_up_to (length bytes) (back i)) ∙ ap (λ xs. frame ∷ xs) same.frames));
      rest = room.rest ∙ (ap (λ b. if b then rest_up_to (length bytes) (drop k bytes) else bytes) holds
          ∙ (ap (rest_up_to (length bytes)) back ∙ same.rest));
    }

-- no frame comes first
pub record HasNoFrame (bytes : List ℕ) : Type 0 where
  pub frames : frames_of bytes ≡ []
  pub rest : rest_of bytes ≡ bytes

not_true : (b : Bool) → (b ≡ true → ⊥) → b ≡ false
not_true true f = absurd (f refl)
not_true false f = refl

pub no_frame_first : (bytes : List ℕ) → (BeginsWithFrame bytes → ⊥) → HasNoFrame bytes
unfolding frames_of rest_of
no_frame_first bytes none =
    let k = length_field bytes in
    let holds : begins_whole bytes ≡ false =
    not_true (begins_whole bytes) (λ e. let h = both_hold k (length bytes) e in none (begins bytes h.0 h.1)) in
    let room = with_room bytes in
    record {
      frames = room.frames ∙ ap (λ b. if b then take k bytes ∷ frames_up_to (length bytes) (drop k bytes) else [])
          holds;
      rest = room.rest ∙ ap (λ b. if b then rest_up_to (length bytes) (drop k bytes) else bytes) holds;
    }

-- bytes with a short length begin with no frame
pub short_begins_none : (bytes : List ℕ) → IsShort bytes → BeginsWithFrame bytes → ⊥
short_begins_none bytes s (frame, after, f, e) =
    let size : length_field bytes ≡ length frame = ap length_field e
    ∙ (length_field-append frame after (omega (arith, f.header)) ∙ f.whole) in
    let small = s.1 in
    let big = f.header in
    absurd (omega arith)

pub short_is : (bytes : List ℕ) → IsShort bytes → is_short bytes ≡ true
short_is bytes s = let long = s.0 in let small = s.1 in grind (arith, nat_tests)

short_both : (n size : ℕ) → (nat_le 4 size && nat_lt n 8) ≡ true → (4 ≤ size) × (n < 8)
short_both n size b = (grind (arith, nat_tests), grind (arith, nat_tests))

pub not_short_is : (bytes : List ℕ) → (IsShort bytes → ⊥) → is_short bytes ≡ false
not_short_is bytes none = not_true (is_short bytes) (λ e. none (short_both (length_field bytes) (length bytes) e))
