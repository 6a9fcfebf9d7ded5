use Rattle.std.proofs.Common.{◌++◌, ◌∙◌, refl}
use Rattle.std.proofs.lemmas.Result.{err_from_is_err_and}
use Rattle.sessions.proofs.Framed.{posted-ended, posted-more, posted-none, posted-seen, posted-stopped}
use Rattle.sessions.proofs.hearing.hear_frames.Goals as goal

pub loop-init : goal.loop-init
loop-init g c = record {
  posted = posted-none (g.S.Source.remaining c.args.source.now) c.args.framer.now c.args.session.now
      (g.D.Desk.posts c.args.pass.now);
  admits = c.requires.pass;
  faults = refl;
  reliable = refl;
}

pub returns-in_err-frame-clause-stop : goal.returns-in_err-frame-clause-stop
returns-in_err-frame-clause-stop g c =
    let p = err_from_is_err_and c.from_residual.result c.from_residual.ensures.1 in
    rw (p.1, p.2) (posted-stopped (g.S.Source.remaining c.args.source.now) (g.S.Source.remaining c.loop.source)
    (g.S.Source.remaining c.next_frame.new.source) c.args.framer.now c.loop.framer c.next_frame.new.framer
    c.args.session.now
    (g.D.Desk.posts c.args.pass.now) (g.D.Desk.posts c.loop.pass) (g.S.Source.faults c.args.source.now)
    (g.S.Source.faults c.loop.source) (g.S.Source.faults c.next_frame.new.source)
    (g.S.Source.is_reliable c.args.source.now) (g.S.Source.is_reliable c.loop.source)
    c.in_err-frame.field-0.0 c.loop.invariant.posted c.loop.invariant.faults c.loop.invariant.reliable
    c.in_err-frame.ensures.stop)

pub returns-in_err-at-clause-stop : goal.returns-in_err-at-clause-stop
returns-in_err-at-clause-stop g c =
    let p = err_from_is_err_and c.from_residual-in_err-at.result c.from_residual-in_err-at.ensures.1 in
    rw (p.1, p.2) (
      c.in_ok-frame.frame ++ c.next_frame.new.framer,
      posted-seen (g.S.Source.remaining c.args.source.now) (g.S.Source.remaining c.loop.source)
          (g.S.Source.remaining c.next_frame.new.source) c.args.framer.now c.loop.framer c.next_frame.new.framer
          c.args.session.now
          (g.D.Desk.posts c.args.pass.now) (g.D.Desk.posts c.loop.pass) (g.D.Desk.posts c.hear.new.pass)
          c.loop.invariant.posted c.in_ok-frame.frame c.in_ok-frame.ensures.frame c.in_err-at.ensures.memory,
    )

pub returns-in-Closed-clause-closed : goal.returns-in-Closed-clause-closed
returns-in-Closed-clause-closed g c = (
  posted-ended (g.S.Source.remaining c.args.source.now) (g.S.Source.remaining c.loop.source)
      (g.S.Source.remaining c.next_frame.new.source) c.args.framer.now c.loop.framer c.next_frame.new.framer
      c.args.session.now
      (g.D.Desk.posts c.args.pass.now) (g.D.Desk.posts c.loop.pass) (g.D.Desk.posts c.hear.new.pass)
      c.loop.invariant.posted c.in_ok-frame.frame c.in_ok-frame.ensures.frame
      (rw c.in-Closed.is at c.in_ok-at.ensures.posted),
  rw c.in-Closed.is at c.in_ok-at.ensures.closed,
)

pub loop-preserved : goal.loop-preserved
loop-preserved g c = record {
  posted = posted-more (g.S.Source.remaining c.args.source.now) (g.S.Source.remaining c.loop.source)
      (g.S.Source.remaining c.next_frame.new.source) c.args.framer.now c.loop.framer c.next_frame.new.framer
      c.args.session.now
      (g.D.Desk.posts c.args.pass.now) (g.D.Desk.posts c.loop.pass) (g.D.Desk.posts c.hear.new.pass)
      c.loop.invariant.posted c.in_ok-frame.frame c.in_ok-frame.ensures.frame
      (rw c.in_default.is at c.in_ok-at.ensures.posted);
  admits = c.hear.ensures.pass;
  faults = c.in_ok-frame.ensures.quiet ∙ c.loop.invariant.faults;
  reliable = c.next_frame.ensures.reliable ∙ c.loop.invariant.reliable;
}
