-- The frames of bytes are bytes, and short.
use Rattle.std.proofs.Common.{ℕ, zero, suc, ◌<◌, Bool, true, false, List, []}
use Rattle.std.proofs.Common.{◌∷◌, ◌++◌}
use Rattle.std.proofs.Common.{take, drop, if◌then◌else◌, arith}
use Rattle.std.specs.List.{AllByRecursion}
use Rattle.std.proofs.lemmas.List.{length-take}
use Rattle.of10_actions.specs.Spelling.{IsBytes}
use Rattle.of10_frames.specs.Wire.{length_field}
use Rattle.of10_msgs.proofs.FoundParts.{number_lt}
use Rattle.machine_meaning.specs.Events.{AreBytes}
use Rattle.replay_report.specs.Cuts.{begins_whole, frames_up_to, rest_up_to}

abbrev pub EachByte : List ℕ → Type 0
EachByte bytes = AllByRecursion (λ byte. byte < 256) bytes

pub each_drop : (n : ℕ) (bytes : List ℕ) → EachByte bytes → EachByte (drop n bytes)
each_drop zero bytes h = h
each_drop (suc n) [] h = tt
each_drop (suc n) (b ∷ bytes) h = each_drop n bytes h.1

pub each_take : (n : ℕ) (bytes : List ℕ) → EachByte bytes → EachByte (take n bytes)
each_take zero bytes h = tt
each_take (suc n) [] h = tt
each_take (suc n) (b ∷ bytes) h = (h.0, each_take n bytes h.1)

pub each_rest : (n : ℕ) (bytes : List ℕ) → EachByte bytes → EachByte (rest_up_to n bytes)
each_rest zero bytes h = h
each_rest (suc n) bytes h =
    by (begins_whole bytes) (each_rest n (drop (length_field bytes) bytes) (each_drop (length_field bytes) bytes h))
  where
    by : (b : Bool) → EachByte (rest_up_to n (drop (length_field bytes) bytes))
        → EachByte (if b then rest_up_to n (drop (length_field bytes) bytes) else bytes)
    by true k = k
    by false k = h

-- the length that bytes give has two bytes
placed : (bytes : List ℕ) → EachByte bytes → IsBytes bytes
placed [] h i = omega arith
placed (b ∷ bytes) h zero = h.0
placed (b ∷ bytes) h (suc i) = placed bytes h.1 i

length_short : (bytes : List ℕ) → EachByte bytes → length_field bytes < 65536
length_short bytes h = number_lt 2 2 bytes (placed bytes h)

-- a frame is no longer than its length
frame_bytes : (bytes : List ℕ) → EachByte bytes → AreBytes (take (length_field bytes) bytes)
frame_bytes bytes h = record {
  each = each_take (length_field bytes) bytes h;
  few =
      let field = length_short bytes h in
      let long = length-take (length_field bytes) bytes in
      omega (arith, field, long);
}

pub frames_bytes : (n : ℕ) (bytes : List ℕ) → EachByte bytes → AllByRecursion AreBytes (frames_up_to n bytes)
frames_bytes zero bytes h = tt
frames_bytes (suc n) bytes h =
    by (begins_whole bytes) (frames_bytes n (drop (length_field bytes) bytes) (each_drop (length_field bytes) bytes h))
  where
    rest : List (List ℕ)
    rest = frames_up_to n (drop (length_field bytes) bytes)

    by : (b : Bool) → AllByRecursion AreBytes rest
        → AllByRecursion AreBytes (if b then take (length_field bytes) bytes ∷ rest else [])
    by true k = (frame_bytes bytes h, k)
    by false k = tt

pub each_both : (xs ys : List ℕ) → EachByte xs → EachByte ys → EachByte (xs ++ ys)
each_both [] ys h k = k
each_both (x ∷ xs) ys h k = (h.0, each_both xs ys h.1 k)
