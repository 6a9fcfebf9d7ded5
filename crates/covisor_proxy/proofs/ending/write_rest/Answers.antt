use Rattle.std.proofs.lemmas.Result.{on_err_weaker}
use Rattle.replay_report.specs.Players.{reported}
use Rattle.covisor_proxy.proofs.Appending.{short_after}
use Rattle.covisor_proxy.proofs.ending.write_rest.Goals as goal

pub returns-clause-short : goal.returns-clause-short
returns-clause-short g c =
    on_err_weaker c.write_all.result
    (short_after (g.K.Sink.held c.args.out.now) (g.K.Sink.held c.flush.new.out) (g.K.Sink.held c.write_all.new.out)
    (reported c.args.player.now) c.args.last.now c.in_ok-flush.ensures.written)
    c.write_all.ensures.short
