use Rattle.std.proofs.Common.{Option, refl, subst}
use Rattle.hyper_core.specs.contracts.machine.HyperMachine.TheImpl.{ghosts as hyper}
use Rattle.command_line.specs.declared.command.Command.{Command}
use Rattle.covisor_proxy.specs.Noted.{Notes}
use Rattle.covisor_proxy.specs.Outcomes.{code_of}
use Rattle.covisor_proxy.specs.Outside.{outside_of}
use Rattle.covisor_proxy.specs.Runs.{Runs}
use Rattle.command_line.specs.Forms.{command_of}
use Rattle.covisor_proxy.proofs.Joining.{runs-wanted}
use Rattle.covisor_proxy.proofs.ToldRuns.{wanted_noted}
use Rattle.covisor_proxy.proofs.program.answer.Goals as goal

pub returns-in-Err-clause-runs : goal.returns-in-Err-clause-runs
returns-in-Err-clause-runs g c =
    let here = outside_of (g.F.Files.files c.args.files.now) (g.F.Files.faults c.args.files.now)
    (g.S.Source.remaining c.args.input.now) (g.S.Source.faults c.args.input.now) (g.K.Sink.held c.args.out.now) (g.K.Sink.faults c.args.out.now)
    (g.L.Links.told c.args.links.now) (g.L.Links.is_reliable c.args.links.now) (g.L.Links.faults c.args.links.now)
    (g.P.Spawner.faults c.args.spawner.now) c.args.steps.now in
    runs-wanted hyper (g.C.Clock.may c.args.clock.now) here here (command_of c.args.words.now) refl refl

pub returns-in-Ok-clause-runs : goal.returns-in-Ok-clause-runs
returns-in-Ok-clause-runs g c =
    let may = g.C.Clock.may c.args.clock.now in
    let before = outside_of (g.F.Files.files c.args.files.now) (g.F.Files.faults c.args.files.now)
    (g.S.Source.remaining c.args.input.now) (g.S.Source.faults c.args.input.now) (g.K.Sink.held c.args.out.now) (g.K.Sink.faults c.args.out.now)
    (g.L.Links.told c.args.links.now) (g.L.Links.is_reliable c.args.links.now) (g.L.Links.faults c.args.links.now)
    (g.P.Spawner.faults c.args.spawner.now) c.args.steps.now in
    let after = outside_of (g.F.Files.files c.respond.new.files) (g.F.Files.faults c.respond.new.files)
    (g.S.Source.remaining c.respond.new.input) (g.S.Source.faults c.respond.new.input) (g.K.Sink.held c.respond.new.out) (g.K.Sink.faults c.respond.new.out)
    (g.L.Links.told c.respond.new.links) (g.L.Links.is_reliable c.respond.new.links) (g.L.Links.faults c.respond.new.links)
    (g.P.Spawner.faults c.respond.new.spawner) c.respond.new.steps in
    subst (λ (x : Option Command). Runs hyper may before after (code_of c.respond.result) x) c.in-Ok.ensures.form
    c.respond.ensures.runs

pub returns-in-Err-clause-notes : goal.returns-in-Err-clause-notes
returns-in-Err-clause-notes g c =
    let fails = g.F.Files.faults c.args.files.now in
    wanted_noted (command_of c.args.words.now) (g.F.Files.files c.args.files.now) fails fails
    (g.S.Source.remaining c.args.input.now) (g.N.Sink.held c.args.notes.now)

pub returns-in-Ok-clause-notes : goal.returns-in-Ok-clause-notes
returns-in-Ok-clause-notes g c =
    subst (λ (x : Option Command). Notes c.respond.result x (g.F.Files.files c.args.files.now)
    (g.F.Files.faults c.args.files.now) (g.F.Files.faults c.respond.new.files) (g.S.Source.remaining c.args.input.now)
    (g.N.Sink.held c.args.notes.now) (g.N.Sink.held c.respond.new.notes)) c.in-Ok.ensures.form c.respond.ensures.notes
