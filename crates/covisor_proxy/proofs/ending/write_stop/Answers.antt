use Rattle.std.proofs.Common.{◌≡◌, ℕ, List, ◌++◌, Option, inl, inr, subst, sym, take}
use Rattle.outside.specs.Outside.{Rose}
use Rattle.replay_report.specs.Players.{reported}
use Rattle.covisor_proxy.specs.Following.{StopsWith}
use Rattle.covisor_proxy.specs.Written.{Appends, Writes}
use Rattle.covisor_proxy.specs.declared.status.Status.{Status}
use Rattle.covisor_proxy.specs.declared.status.Status.TheVariants.{Line}
use Rattle.covisor_proxy.proofs.Appending.{appends_both}
use Rattle.covisor_proxy.proofs.ending.write_stop.Goals as goal

-- what waited, and then the last line, or the first of it
stops_line : (held mid held' : Option (List ℕ)) (faults between faults' : ℕ) (w last : List ℕ) → Appends held mid w
    → between ≡ faults
    → Writes mid held' between faults' last → StopsWith Line held held' faults faults' w last
stops_line held mid held' faults between faults' w last e q (inl a) = inl (appends_both held mid held' w last e a)
stops_line held mid held' faults between faults' w last e q (inr a) =
    inr (
      subst (λ (x : ℕ). Rose x faults') q a.0,
      (a.1.0, a.1.1, appends_both held mid held' w (take a.1.0 last) e a.1.2),
    )

pub returns-in-Ok : goal.returns-in-Ok
returns-in-Ok g c =
    subst (λ (x : Status). StopsWith x (g.K.Sink.held c.args.out.now) (g.K.Sink.held c.write_fault.new.out)
    (g.K.Sink.faults c.args.out.now) (g.K.Sink.faults c.write_fault.new.out) (reported c.args.player.now)
    c.args.last.now)
    (sym c.write_fault.ensures.status)
    (stops_line (g.K.Sink.held c.args.out.now) (g.K.Sink.held c.flush.new.out) (g.K.Sink.held c.write_fault.new.out)
    (g.K.Sink.faults c.args.out.now) (g.K.Sink.faults c.flush.new.out) (g.K.Sink.faults c.write_fault.new.out)
    (reported c.args.player.now) c.args.last.now
    c.in-Ok.ensures.written c.in-Ok.ensures.quiet c.write_fault.ensures.writes)
