use Rattle.std.proofs.Common.{◌≡◌}
use Rattle.replay_report.specs.Players.{form_of, is_ready, plan_of, progress_of, reported}
use Rattle.covisor_proxy.specs.Following.{Follows}
use Rattle.covisor_proxy.specs.Outcomes.{moment}
use Rattle.covisor_proxy.proofs.replay.replay_over.Given as goal

abbrev pub invariant-loop : goal.invariant-loop
invariant-loop g l = record {
  follows : Follows (form_of l.initial.player) (plan_of l.initial.player)
      (moment (g.S.Source.remaining l.initial.input) (g.S.Source.faults l.initial.input) (g.K.Sink.held l.initial.out)
      (g.K.Sink.faults l.initial.out) l.initial.steps)
      (moment (g.S.Source.remaining l.input) (g.S.Source.faults l.input) (g.K.Sink.held l.out) (g.K.Sink.faults l.out)
      l.steps)
      (progress_of l.player) l.lines (reported l.player);
  reads : g.S.Source.faults l.input ≡ g.S.Source.faults l.initial.input;
  writes : g.K.Sink.faults l.out ≡ g.K.Sink.faults l.initial.out;
  form : form_of l.player ≡ form_of l.initial.player;
  plan : plan_of l.player ≡ plan_of l.initial.player;
  ready : is_ready l.player;
}
