use Rattle.std.proofs.Common.{◌∷◌, ◌++◌, [], List, ℕ, ap, ◌∙◌, append_assoc}
use Rattle.of10_frames.proofs.Cuts.{more_taken}
use Rattle.of10_frames.proofs.stream.take_frames.Goals as goal

pub loop-frame-preserved : goal.loop-frame-preserved
loop-frame-preserved c =
    let frame = c.in-Ok-Some.frame in
    let before = c.loop-frame.invariant in
    let gave = rw c.in-Ok-Some.field-0-is at c.in-Ok-Some.ensures.frame in (
      before.0 ++ frame ∷ [],
      c.in_ok-push-in-Ok-Some.ensures.pushed
          ∙ (ap (λ (x : List (List ℕ)). x ++ frame ∷ []) before.1
          ∙ append_assoc c.args.frames.now before.0 (frame ∷ [])),
      more_taken c.args.framer.now before.0 c.loop-frame.framer frame c.next.new.self before.2 gave.0 gave.1,
    )
