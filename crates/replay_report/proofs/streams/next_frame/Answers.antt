use Rattle.std.proofs.Common.{◌≡◌, ◌∙◌, Err, Ok, ap, subst}
use Rattle.std.specs.Prelude.{IfErr, OnErr}
use Rattle.of10_frames.specs.Frames.{IsCause}
use Rattle.replay_report.proofs.Cutting.{frame_first, no_frame_first, not_short_is, short_begins_none, short_is}
use Rattle.replay_report.proofs.streams.next_frame.Goals as goal

pub returns-in-Ok-Some : goal.returns-in-Ok-Some
returns-in-Ok-Some c =
    let h = rw c.in-Ok-Some.field-0-is at c.in-Ok-Some.ensures.frame in
    let t = frame_first c.in-Ok-Some.frame c.next.new.self c.args.framer.now h.0 h.1 in
    (t.frames, t.rest)

pub returns-in-Ok-None : goal.returns-in-Ok-None
returns-in-Ok-None c =
    let old = c.args.framer.now in
    let is = c.in-Ok-None.is ∙ ap Ok c.in-Ok-None.field-0-is in
    let u = (c.next.ensures.none).0 is in
    let t = no_frame_first old u.0 in
    (t.frames, t.rest, c.next.ensures.kept is, not_short_is old u.1)

pub returns-in-Err-Short : goal.returns-in-Err-Short
returns-in-Err-Short c =
    let old = c.args.framer.now in
    let is = c.in-Err-Short.is ∙ ap Err c.in-Err-Short.field-0-is in
    let h = subst (λ r. IfErr r (λ fault. IsCause fault old)) is c.next.ensures.cause in
    let t = no_frame_first old (short_begins_none old h.0) in
    (t.frames, t.rest, subst (λ r. OnErr r (c.next.new.self ≡ old)) is c.next.ensures.err, short_is old h.0, h.1)
