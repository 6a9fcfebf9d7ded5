use Rattle.std.proofs.lemmas.Result.{err_from_is_err_and}
use Rattle.sessions.proofs.Framed.{posted-none}
use Rattle.sessions.proofs.hearing.hear_all.Goals as goal

pub returns-in_err-place-clause-stop : goal.returns-in_err-place-clause-stop
returns-in_err-place-clause-stop g c =
    let p = err_from_is_err_and c.from_residual.result c.from_residual.ensures.1 in
    rw (p.1, p.2) (
      c.args.framer.now,
      posted-none (g.S.Source.remaining c.args.source.now) c.args.framer.now
          c.args.session.now (g.D.Desk.posts c.args.pass.now),
    )
