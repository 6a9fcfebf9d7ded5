-- What a session sends, cut into frames.
use Rattle.std.specs.Prelude.{◌≡◌, ℕ, true, false, List, [], ◌∷◌}
use Rattle.of10_frames.specs.Wire.{length_field}
use Rattle.replay_report.specs.Cuts.{frames_of, is_short, rest_of}
use Rattle.replay_report.specs.declared.streams.Next.{Next}
use Rattle.replay_report.specs.declared.streams.Next.TheVariants as nexts
use Rattle.replay_report.specs.declared.streams.Stream.{Stream}

-- the stream of a session that comes up
abbrev pub fresh : Stream
fresh = record { framer = []; is_short = false }

-- the next frame is taken out of what is kept
abbrev pub Steps : Next → List ℕ → List ℕ → Type 0
Steps (nexts.Frame frame) old new = (frames_of old ≡ frame ∷ frames_of new) × (rest_of old ≡ rest_of new)
Steps (nexts.Short len) old new =
    (frames_of old ≡ []) × (rest_of old ≡ old) × (new ≡ old) × (is_short old ≡ true) × (len ≡ length_field old)
Steps nexts.Nothing old new = (frames_of old ≡ []) × (rest_of old ≡ old) × (new ≡ old) × (is_short old ≡ false)
