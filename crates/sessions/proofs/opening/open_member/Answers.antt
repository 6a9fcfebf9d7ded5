use Rattle.std.proofs.lemmas.Result.{MatchResult-weaker, err_from_is_err_and}
use Rattle.sessions.proofs.Failing.{not-greeted}
use Rattle.sessions.proofs.opening.open_member.Goals as goal

pub returns-in_err-place-clause-part : goal.returns-in_err-place-clause-part
returns-in_err-place-clause-part g c =
    let p = err_from_is_err_and c.from_residual-in_err-place.result c.from_residual-in_err-place.ensures.1 in
    rw (p.1, p.2) (8, c.in_ok-send.ensures.written)

pub returns-clause-part : goal.returns-clause-part
returns-clause-part g c =
    MatchResult-weaker c.first_hello.result c.first_hello.ensures.end (λ x t. t)
    (λ end h. not-greeted (g.S.Source.remaining c.args.source.now) (g.S.Source.remaining c.first_hello.new.source)
    c.args.framer.now c.first_hello.new.framer
    (g.K.Sink.held c.args.sink.now) (g.K.Sink.held c.send.new.sink) c.in_ok-send.ensures.written
    (g.S.Source.faults c.args.source.now) (g.S.Source.faults c.first_hello.new.source)
    (g.S.Source.is_reliable c.args.source.now)
    (g.K.Sink.faults c.args.sink.now) (g.K.Sink.faults c.send.new.sink) (g.K.Sink.wants c.args.sink.now)
    (g.K.Sink.wants c.send.new.sink) (g.K.Sink.is_reliable c.args.sink.now) end h)
