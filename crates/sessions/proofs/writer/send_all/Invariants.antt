use Rattle.std.proofs.Common.{◌≡◌, ◌≤◌, ℕ}
use Rattle.sessions.specs.Posts.{ShowsUpTo}
use Rattle.sessions.specs.Writing.{HasWritten, IsReached}
use Rattle.sessions.proofs.writer.send_all.Given as goal

abbrev pub invariant-loop : goal.invariant-loop
invariant-loop g l = record {
  written : HasWritten l.session (IsReached (g.C.Clock.may l.initial.clock) (g.C.Clock.greatest l.clock))
      (g.D.Desk.posts l.initial.pass) (g.K.Sink.held l.initial.sink) (g.K.Sink.held l.sink) (g.D.Desk.posts l.pass);
  admits : g.D.Desk.admits l.desk l.pass;
  faults : g.K.Sink.faults l.sink ≡ g.K.Sink.faults l.initial.sink;
  wants : g.K.Sink.wants l.sink ≡ g.K.Sink.wants l.initial.sink;
  reliable : g.K.Sink.is_reliable l.sink ≡ g.K.Sink.is_reliable l.initial.sink;
  last : l.last ≤ g.C.Clock.greatest l.clock;
  no_more : (moment : ℕ) → g.C.Clock.may l.clock moment → g.C.Clock.may l.initial.clock moment;
  shown : ShowsUpTo (g.D.Desk.shows l.pass) (g.C.Clock.greatest l.initial.clock) (g.C.Clock.greatest l.clock);
}
