use Rattle.std.proofs.Common.{refl}
use Rattle.sessions.proofs.Bytes.{in_any_case}
use Rattle.endpoint_works.specs.Sides.{seen}
use Rattle.endpoint_works.proofs.Rounds.{was-read, was-wanted}
use Rattle.endpoint_works.proofs.round.serve_round.Goals as goal

pub returns-in_err-end-clause-memory : goal.returns-in_err-end-clause-memory
returns-in_err-end-clause-memory g c =
    in_any_case c.from_residual-in_err-end.result
    (was-wanted c.args.side.now (g.S.Source.remaining c.args.source.now) (g.S.Source.remaining c.open.new.source)
    (g.S.Source.remaining c.run_reader.new.source)
    (g.K.Sink.held c.args.sink) (g.K.Sink.is_reliable c.args.sink)
    (g.D.Desk.posts c.args.pass.now) (g.D.Desk.posts c.up.new.pass) (g.D.Desk.posts c.run_reader.new.pass)
    c.open.new.framer
    (seen (g.K.Sink.held c.args.sink) (g.K.Sink.held c.open.new.sink) (g.K.Sink.faults c.args.sink)
    (g.K.Sink.faults c.open.new.sink)
    (g.K.Sink.wants c.args.sink) (g.K.Sink.wants c.open.new.sink) (g.K.Sink.is_reliable c.args.sink))
    c.in-Ok.opened.0 c.in-Ok.opened.1 c.in_ok-session.session (refl, refl) c.in-Ok.ensures.opened
    c.in_ok-session.ensures.who c.in_ok-session.ensures.posted
    c.in_err-end.ensures.memory)

pub returns-clause-posted : goal.returns-clause-posted
returns-clause-posted g c =
    was-read c.args.side.now (g.S.Source.remaining c.args.source.now) (g.S.Source.remaining c.open.new.source)
    (g.S.Source.remaining c.run_reader.new.source)
    (g.K.Sink.held c.args.sink) (g.K.Sink.is_reliable c.args.sink)
    (g.D.Desk.posts c.args.pass.now) (g.D.Desk.posts c.up.new.pass) (g.D.Desk.posts c.run_reader.new.pass)
    c.open.new.framer
    (seen (g.K.Sink.held c.args.sink) (g.K.Sink.held c.open.new.sink) (g.K.Sink.faults c.args.sink)
    (g.K.Sink.faults c.open.new.sink)
    (g.K.Sink.wants c.args.sink) (g.K.Sink.wants c.open.new.sink) (g.K.Sink.is_reliable c.args.sink))
    c.in-Ok.opened.0 c.in-Ok.opened.1 c.in_ok-session.session (refl, refl) c.in-Ok.ensures.opened
    c.in_ok-session.ensures.who c.in_ok-session.ensures.posted
    (g.D.Desk.ended c.run_reader.new.pass) (g.S.Source.faults c.open.new.source)
    (g.S.Source.faults c.run_reader.new.source)
    (g.S.Source.is_reliable c.args.source.now) (g.S.Source.is_reliable c.open.new.source) c.run_reader.new.framer
    c.in_ok-end.end
    c.open.ensures.reliable c.in_ok-end.ensures.posted c.in_ok-end.ensures.end
