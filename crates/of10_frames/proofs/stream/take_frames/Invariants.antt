use Rattle.std.proofs.Common.{◌≡◌, ◌++◌, List, ℕ, length}
use Rattle.of10_frames.proofs.Cuts.{AreTaken}
use Rattle.of10_frames.proofs.stream.take_frames.Given as goal

abbrev pub invariant-loop-frame : goal.invariant-loop-frame
invariant-loop-frame l = (taken : List (List ℕ)) × (l.frames ≡ l.fn.frames ++ taken)
    × AreTaken l.fn.framer taken l.framer

abbrev pub decreases-loop-frame : goal.decreases-loop-frame
decreases-loop-frame l = length l.framer
