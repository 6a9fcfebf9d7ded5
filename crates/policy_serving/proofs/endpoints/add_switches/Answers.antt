use Rattle.std.proofs.Common.{◌∙◌, ◌++◌, ◌∷◌, [], ℕ, List, ap, append_assoc, map, sym, take, arith}
use Rattle.std.specs.List.{enumerate_from}
use Rattle.outside.specs.declared.links.Endpoint.TheVariants as ends
use Rattle.endpoint_works.specs.declared.side.Side.TheVariants as sides
use Rattle.virtual_topology.proofs.Steps.{numbered_all, numbered_mapped}
use Rattle.serving.specs.declared.place.Place.{Place}
use Rattle.policy_serving.specs.Places.{dpid_of, switch_place}
use Rattle.policy_serving.proofs.endpoints.add_switches.Goals as goal

pub loop-n-preserved : goal.loop-n-preserved
loop-n-preserved c =
    let x = c.index-switches-n.result in
    let n = c.loop-n.n in
    let rounds = c.args.rounds in
    let dpids = map dpid_of c.args.switches.now in
    let make = switch_place c.args.listen.now rounds dpids in
    let item = λ (listen ids : List ℕ). let y : Place =
    record { end = ends.Switch n listen rounds x.dpid; side = sides.Switch ids } in y in
    c.in_ok-push.ensures.pushed
    ∙ (ap (λ listen. c.loop-n.places ++ item listen c.in_ok-dpids.field-0 ∷ []) c.in_ok-copy.ensures
    ∙ (ap (λ ids. c.loop-n.places ++ item c.args.listen.now ids ∷ []) c.in_ok-dpids.ensures
    ∙ (ap (λ places. places ++ item c.args.listen.now dpids ∷ []) c.loop-n.invariant
    ∙ (append_assoc c.args.places.now (map make (take n (enumerate_from 0 c.args.switches.now)))
    (item c.args.listen.now dpids ∷ [])
    ∙ ap (λ places. c.args.places.now ++ places)
    (sym (numbered_mapped make c.args.switches.now n x c.loop-n-test.true c.index-switches-n.is))))))

pub returns : goal.returns
returns c =
    c.loop-n.invariant
    ∙ ap (λ xs. c.args.places.now
    ++ map (switch_place c.args.listen.now c.args.rounds (map dpid_of c.args.switches.now)) xs)
    (numbered_all c.args.switches.now c.loop-n.n (omega (arith, c.loop-n-test.false)))
