use Rattle.std.proofs.Common.{◌≡◌, ◌∙◌, None, ap, arith, refl, subst, sym, true}
use Rattle.outside.specs.Outside.{Rose}
use Rattle.policy_lock.specs.Number.{missing}
use Rattle.serving.specs.Attending.{settled}
use Rattle.serving.specs.Histories.{lines_taken}
use Rattle.serving.specs.Runs.{Serves}
use Rattle.serving.proofs.Ends.{cut-rises, link-fails, never-spawns, numbers-same, rest-quiet, seats-of, serves-cut}
use Rattle.serving.proofs.Ends.{serves-rest, whole-quiet, worked-at, write-rises}
use Rattle.serving.proofs.attending.attend.Goals as goal

pub close-requires-after_bounds : goal.close-requires-after_bounds
close-requires-after_bounds g c κs within =
    let e = c.in_ok-worked.worked in
    let w =
    worked-at g.H.Machine.Machine g.D.Dial.left g.D.Dial.is_reliable g.C.Clock.may c.new-office.ensures.lock
    c.new-office.ensures.clock c.in_ok-worked.ensures.worked in
    seats-of g.H.Machine.Machine c.args.lock (λ _. None) (λ _. true) (g.C.Clock.may c.args.clock.now)
    g.D.Dial.left g.D.Dial.is_reliable e.failed
    e.wanted c.args.lines.lines
    c.args.seats e.seats (g.K.Sink.held c.args.out.now) (g.K.Sink.held c.work.new.out) w

pub unreachable-requires : goal.unreachable-requires
unreachable-requires g c =
    let e = c.in_ok-worked.worked in
    let w =
    worked-at g.H.Machine.Machine g.D.Dial.left g.D.Dial.is_reliable g.C.Clock.may c.new-office.ensures.lock
    c.new-office.ensures.clock c.in_ok-worked.ensures.worked in
    let same = numbers-same g.H.Machine.Machine c.args.lock (λ _. None) (λ _. true) (g.C.Clock.may c.args.clock.now)
    g.D.Dial.left g.D.Dial.is_reliable
    e.failed e.wanted
    c.args.lines.lines c.args.seats e.seats (g.K.Sink.held c.args.out.now) (g.K.Sink.held c.work.new.out) w in
    let none = ap missing same in let all = c.requires.all in let some = c.in_default.ensures.some in
    grind arith

pub returns-then-is_cut-clause-serves : goal.returns-then-is_cut-clause-serves
returns-then-is_cut-clause-serves g c = λ told reliable places misses missed undials are.
    let e = c.in_ok-worked.worked in
    let w =
    worked-at g.H.Machine.Machine g.D.Dial.left g.D.Dial.is_reliable g.C.Clock.may c.new-office.ensures.lock
    c.new-office.ensures.clock c.in_ok-worked.ensures.worked in
    serves-cut g.H.Machine.Machine c.args.lock told reliable (g.C.Clock.may c.args.clock.now)
    g.D.Dial.left g.D.Dial.is_reliable e.failed e.wanted
    c.args.lines.lines
    c.args.seats e.seats (g.K.Sink.held c.args.out.now) (g.K.Sink.held c.work.new.out) w misses missed
    c.args.lines.undialled undials places are c.requires.silent c.requires.once
    c.in-Ok.machine c.in-Ok.ensures.closed (sym c.if-is_cut.ensures)

pub returns-then-is_cut-clause-write : goal.returns-then-is_cut-clause-write
returns-then-is_cut-clause-write g c = λ _.
    cut-rises c.in_ok-worked.worked.end _ _ _ _ _ _ (sym c.if-is_cut.ensures) c.in_ok-worked.ensures.worked.audit

pub returns-clause-serves : goal.returns-clause-serves
returns-clause-serves g c = λ told reliable places misses missed undials are.
    let e = c.in_ok-worked.worked in
    let w =
    worked-at g.H.Machine.Machine g.D.Dial.left g.D.Dial.is_reliable g.C.Clock.may c.new-office.ensures.lock
    c.new-office.ensures.clock c.in_ok-worked.ensures.worked in
    subst (Serves g.H.Machine.Machine c.args.lock.start told reliable (g.C.Clock.may c.args.clock.now) lines_taken
    places (g.K.Sink.held c.args.out.now)
    (g.K.Sink.held c.write_rest-rest.new.out) misses missed) (sym c.settle.ensures)
    (serves-rest g.H.Machine.Machine c.args.lock told reliable (g.C.Clock.may c.args.clock.now)
    g.D.Dial.left g.D.Dial.is_reliable e.failed e.wanted
    c.args.lines.lines
    c.args.seats e.seats (g.K.Sink.held c.args.out.now) (g.K.Sink.held c.work.new.out) w misses missed
    c.args.lines.undialled undials places are c.requires.silent c.requires.once
    c.in-Ok.machine c.in-Ok.ensures.closed (sym c.if-is_cut.ensures) c.is_err-lost.result
    (g.H.Machine.Machine.meaning c.write_rest-rest.new.machine) (g.K.Sink.held c.write_rest-rest.new.out)
    (g.K.Sink.faults c.work.new.out) (g.K.Sink.faults c.write_rest-rest.new.out) c.write_rest-rest.result
    c.write_rest-rest.ensures.ends)

pub returns-clause-link : goal.returns-clause-link
returns-clause-link g c = λ is none well.
    let e = c.in_ok-worked.worked in
    let w =
    worked-at g.H.Machine.Machine g.D.Dial.left g.D.Dial.is_reliable g.C.Clock.may c.new-office.ensures.lock
    c.new-office.ensures.clock c.in_ok-worked.ensures.worked in
    link-fails g.H.Machine.Machine c.args.lock (λ _. None) (λ _. true) (g.C.Clock.may c.args.clock.now)
    g.D.Dial.left g.D.Dial.is_reliable e.failed
    e.wanted c.args.lines.lines
    c.args.seats e.seats (g.K.Sink.held c.args.out.now) (g.K.Sink.held c.work.new.out) w c.args.lines.undialled
    c.is_err-lost.result c.write_rest-rest.result (sym c.settle.ensures ∙ is) none well

pub returns-clause-spawn : goal.returns-clause-spawn
returns-clause-spawn g c = λ is. never-spawns c.write_rest-rest.result _ _ (sym c.settle.ensures ∙ is)

pub returns-clause-write : goal.returns-clause-write
returns-clause-write g c = λ is.
    subst (λ n. Rose n (g.K.Sink.faults c.write_rest-rest.new.out))
    (whole-quiet c.in_ok-worked.worked.end _ _ _ _ _ _ (sym c.if-is_cut.ensures) c.in_ok-worked.ensures.worked.audit)
    (write-rises g.H.Machine.Machine _ _ _ _ _ _ c.write_rest-rest.result _ _ c.write_rest-rest.ensures.ends
    (sym c.settle.ensures ∙ is))

pub returns-then-is_cut-clause-quiet : goal.returns-then-is_cut-clause-quiet
returns-then-is_cut-clause-quiet g c = λ not. absurd (not refl)

pub returns-clause-quiet : goal.returns-clause-quiet
returns-clause-quiet g c = λ not.
    c.write_rest-rest.ensures.quiet
    (rest-quiet c.write_rest-rest.result _ _ (λ is. not (c.settle.ensures ∙ is)))
    ∙ whole-quiet c.in_ok-worked.worked.end _ _ _ _ _ _ (sym c.if-is_cut.ensures) c.in_ok-worked.ensures.worked.audit
