use Rattle.std.proofs.Common.{Err, None, Option, Some, refl, subst, sym}
use Rattle.outside.specs.declared.files.FileFault.TheVariants as faults
use Rattle.hyper_core.specs.contracts.machine.HyperMachine.TheImpl.{ghosts as hyper}
use Rattle.covisor_proxy.specs.Noted.{Notes}
use Rattle.covisor_proxy.specs.Outcomes.{code_of}
use Rattle.covisor_proxy.specs.Outside.{outside_of}
use Rattle.covisor_proxy.specs.Runs.{Runs}
use Rattle.covisor_proxy.specs.declared.status.Status.{Status}
use Rattle.command_line.specs.declared.command.Command.{Command}
use Rattle.covisor_proxy.proofs.Joining.{runs-usage}
use Rattle.covisor_proxy.proofs.program.respond.Goals as goal

pub returns-in-Some-clause-runs : goal.returns-in-Some-clause-runs
returns-in-Some-clause-runs g c =
    let may = g.C.Clock.may c.args.clock.now in
    let before = outside_of (g.F.Files.files c.args.files.now) (g.F.Files.faults c.args.files.now)
    (g.S.Source.remaining c.args.input.now) (g.S.Source.faults c.args.input.now) (g.K.Sink.held c.args.out.now) (g.K.Sink.faults c.args.out.now)
    (g.L.Links.told c.args.links.now) (g.L.Links.is_reliable c.args.links.now) (g.L.Links.faults c.args.links.now)
    (g.P.Spawner.faults c.args.spawner.now) c.args.steps.now in
    let after = outside_of (g.F.Files.files c.obey.new.files) (g.F.Files.faults c.obey.new.files)
    (g.S.Source.remaining c.obey.new.input) (g.S.Source.faults c.obey.new.input) (g.K.Sink.held c.obey.new.out) (g.K.Sink.faults c.obey.new.out)
    (g.L.Links.told c.obey.new.links) (g.L.Links.is_reliable c.obey.new.links) (g.L.Links.faults c.obey.new.links)
    (g.P.Spawner.faults c.obey.new.spawner) c.obey.new.steps in
    subst (λ (x : Option Command). Runs hyper may before after (code_of c.obey.result) x) (sym c.in-Some.is)
    c.obey.ensures.runs

pub returns-in-None-clause-runs : goal.returns-in-None-clause-runs
returns-in-None-clause-runs g c =
    let may = g.C.Clock.may c.args.clock.now in
    let before = outside_of (g.F.Files.files c.args.files.now) (g.F.Files.faults c.args.files.now)
    (g.S.Source.remaining c.args.input.now) (g.S.Source.faults c.args.input.now) (g.K.Sink.held c.args.out.now) (g.K.Sink.faults c.args.out.now)
    (g.L.Links.told c.args.links.now) (g.L.Links.is_reliable c.args.links.now) (g.L.Links.faults c.args.links.now)
    (g.P.Spawner.faults c.args.spawner.now) c.args.steps.now in
    let after = outside_of (g.F.Files.files c.args.files.now) (g.F.Files.faults c.args.files.now)
    (g.S.Source.remaining c.args.input.now) (g.S.Source.faults c.args.input.now) (g.K.Sink.held c.write_fault.new.out) (g.K.Sink.faults c.write_fault.new.out)
    (g.L.Links.told c.args.links.now) (g.L.Links.is_reliable c.args.links.now) (g.L.Links.faults c.args.links.now)
    (g.P.Spawner.faults c.args.spawner.now) c.args.steps.now in
    subst (λ (x : Option Command). Runs hyper may before after (code_of c.write_fault.result) x) (sym c.in-None.is)
    (subst (λ (x : Status). Runs hyper may before after (code_of x) None) (sym c.write_fault.ensures.status)
    (runs-usage hyper may before after refl c.write_fault.ensures.writes))

pub returns-in-None-clause-notes : goal.returns-in-None-clause-notes
returns-in-None-clause-notes g c =
    let left = g.S.Source.remaining c.args.input.now in
    let told = g.N.Sink.held c.args.notes.now in
    let files = g.F.Files.files c.args.files.now in
    let fails = g.F.Files.faults c.args.files.now in
    subst (λ (x : Option Command). Notes c.write_fault.result x files fails fails left told told) (sym c.in-None.is)
    (subst (λ (x : Status). Notes x None files fails fails left told told) (sym c.write_fault.ensures.status)
    (Err faults.Memory, tt, refl))
