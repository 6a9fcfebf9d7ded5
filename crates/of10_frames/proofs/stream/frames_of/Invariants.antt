use Rattle.std.proofs.Common.{take}
use Rattle.std.specs.List.{flat_map}
use Rattle.of10_frames.specs.Frames.{IsCut}
use Rattle.of10_frames.proofs.stream.frames_of.Given as goal

abbrev pub invariant-loop-piece : goal.invariant-loop-piece
invariant-loop-piece l = IsCut (flat_map (λ piece. piece) (take l.piece-index l.pieces)) l.frames l.framer
