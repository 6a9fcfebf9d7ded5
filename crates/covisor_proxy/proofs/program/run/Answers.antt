use Rattle.std.proofs.Common.{ℕ, subst, sym}
use Rattle.hyper_core.specs.contracts.machine.HyperMachine.TheImpl.{ghosts as hyper}
use Rattle.command_line.specs.Forms.{command_of}
use Rattle.covisor_proxy.specs.Outside.{outside_of}
use Rattle.covisor_proxy.specs.Runs.{Runs}
use Rattle.covisor_proxy.proofs.program.run.Goals as goal

pub returns-clause-runs : goal.returns-clause-runs
returns-clause-runs g c =
    let may = g.C.Clock.may c.args.clock.now in
    let before = outside_of (g.F.Files.files c.args.files.now) (g.F.Files.faults c.args.files.now)
    (g.S.Source.remaining c.args.input.now) (g.S.Source.faults c.args.input.now) (g.K.Sink.held c.args.out.now) (g.K.Sink.faults c.args.out.now)
    (g.L.Links.told c.args.links.now) (g.L.Links.is_reliable c.args.links.now) (g.L.Links.faults c.args.links.now)
    (g.P.Spawner.faults c.args.spawner.now) c.args.steps.now in
    let after = outside_of (g.F.Files.files c.answer.new.files) (g.F.Files.faults c.answer.new.files)
    (g.S.Source.remaining c.answer.new.input) (g.S.Source.faults c.answer.new.input) (g.K.Sink.held c.answer.new.out) (g.K.Sink.faults c.answer.new.out)
    (g.L.Links.told c.answer.new.links) (g.L.Links.is_reliable c.answer.new.links) (g.L.Links.faults c.answer.new.links)
    (g.P.Spawner.faults c.answer.new.spawner) c.answer.new.steps in
    subst (λ (x : ℕ). Runs hyper may before after x (command_of c.args.words.now)) (sym c.code.ensures)
    c.answer.ensures.runs
