use Rattle.std.proofs.Common.{◌∷◌, []}
use Rattle.std.proofs.lemmas.Result.{on_err_weaker}
use Rattle.sessions.proofs.Bytes.{appends-part, in_any_case}
use Rattle.endpoint_works.proofs.Audits.{some-front}
use Rattle.endpoint_works.proofs.audit.write_line.Goals as goal

pub returns-in_err-write_all-clause-some : goal.returns-in_err-write_all-clause-some
returns-in_err-write_all-clause-some g c =
    in_any_case c.from_residual.result
    (some-front (g.K.Sink.held c.args.out.now) (g.K.Sink.held c.write_all.new.sink) c.args.line.now (10 ∷ [])
    c.in_err-write_all.ensures.part)

pub returns-clause-some : goal.returns-clause-some
returns-clause-some g c =
    on_err_weaker c.write_all-2.result
    (λ p. appends-part (g.K.Sink.held c.args.out.now) (g.K.Sink.held c.write_all.new.sink)
    (g.K.Sink.held c.write_all-2.new.sink) c.args.line.now
    (10 ∷ []) c.in_ok-write_all.ensures.written p)
    c.write_all-2.ensures.part
