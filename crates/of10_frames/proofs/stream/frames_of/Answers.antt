use Rattle.std.proofs.Common.{List, ℕ, subst}
use Rattle.std.proofs.lemmas.List.{take_all}
use Rattle.of10_frames.specs.Frames.{IsCut}
use Rattle.of10_frames.proofs.Cuts.{one_cut, joined}
use Rattle.of10_frames.proofs.stream.frames_of.Goals as goal

pub returns : goal.returns
returns c =
    let all = take_all c.loop-piece.piece-index c.args.pieces.now c.loop-piece-test.false in
    let cut = subst (λ (ps : List (List ℕ)). IsCut (joined ps) c.loop-piece.frames c.loop-piece.framer) all
    c.loop-piece.invariant in
    record {
      cut = cut;
      only = λ others left other. one_cut (joined c.args.pieces.now) others c.loop-piece.frames left
          c.loop-piece.framer other cut;
    }
