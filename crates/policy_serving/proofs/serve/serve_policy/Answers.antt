use denote.Param.Send.{sendable}
use Rattle.std.proofs.Common.{[], List, inl, refl, subst}
use Rattle.hyper_core.specs.contracts.machine.HyperMachine.TheImpl.{ghosts as hyper}
use Rattle.event_composes.specs.Meanings.{data_in, data_of}
use Rattle.policy_serving.proofs.Crossing.{hyper as crossing}
use Rattle.machine_meaning.specs.States.{opening}
use Rattle.serving.specs.Histories.{lines_taken}
use Rattle.serving.specs.Runs.{Serves}
use Rattle.serving.specs.declared.place.Place.{Place}
use Rattle.policy_serving.specs.Places.{places_of}
use Rattle.policy_serving.proofs.Made.{made}
use Rattle.policy_serving.proofs.Opens.{none_waits, opens}
use Rattle.policy_serving.proofs.serve.serve_policy.Goals as goal

pub serve-requires-send-H-Machine : goal.serve-requires-send-H-Machine
serve-requires-send-H-Machine g c κs within = search (crossing, sendable) depth 10

pub returns-in-Ok-clause-serves : goal.returns-in-Ok-clause-serves
returns-in-Ok-clause-serves g c =
    let start = data_in c.in-Ok.machine in
    let told = g.L.Links.told c.args.links.now in
    let reliable = g.L.Links.is_reliable c.args.links.now in
    let may = g.C.Clock.may c.args.clock.now in
    let held = g.K.Sink.held c.args.out.now in
    let written = g.K.Sink.held c.serve.new.out in
    let faults = g.L.Links.faults c.args.links.now in
    let risen = g.L.Links.faults c.serve.new.links in
    let here = c.in-Ok.ensures.opening in
    let serves =
    subst (λ (places : List Place). Serves hyper start told reliable may lines_taken places held written faults risen
    c.serve.result)
    c.in-Ok.ensures.places c.serve.ensures.serves in
    record {
      start = start;
      opening = here;
      serves = made hyper c.audit_is_kept.ensures start (none_waits c.args.policy start here) refl told reliable may
          (places_of c.args.policy) held written faults risen c.serve.result serves;
    }

pub returns-in-Err-clause-serves : goal.returns-in-Err-clause-serves
returns-in-Err-clause-serves g c =
    record {
      start = data_of c.args.policy (opening c.args.policy) [];
      opening = opens c.args.policy;
      serves = inl refl;
    }
