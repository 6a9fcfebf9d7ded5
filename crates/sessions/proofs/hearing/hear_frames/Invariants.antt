use Rattle.std.proofs.Common.{◌≡◌}
use Rattle.sessions.specs.Reading.{HasPosted}
use Rattle.sessions.proofs.hearing.hear_frames.Given as goal

abbrev pub invariant-loop : goal.invariant-loop
invariant-loop g l = record {
  posted : HasPosted (g.S.Source.remaining l.initial.source) (g.S.Source.remaining l.source) l.initial.framer l.session
      (g.D.Desk.posts l.initial.pass) (g.D.Desk.posts l.pass) l.framer;
  admits : g.D.Desk.admits l.desk l.pass;
  faults : g.S.Source.faults l.source ≡ g.S.Source.faults l.initial.source;
  reliable : g.S.Source.is_reliable l.source ≡ g.S.Source.is_reliable l.initial.source;
}
