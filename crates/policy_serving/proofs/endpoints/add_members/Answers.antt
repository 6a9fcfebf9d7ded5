use Rattle.std.proofs.Common.{◌∙◌, ◌++◌, ◌∷◌, [], ℕ, List, ap, append_assoc, map, sym, take, arith}
use Rattle.std.specs.List.{enumerate_from}
use Rattle.outside.specs.declared.links.Endpoint.TheVariants as ends
use Rattle.endpoint_works.specs.declared.side.Side.TheVariants as sides
use Rattle.virtual_topology.proofs.Steps.{numbered_all, numbered_mapped}
use Rattle.serving.specs.declared.place.Place.{Place}
use Rattle.policy_serving.specs.Places.{member_place}
use Rattle.policy_serving.proofs.endpoints.add_members.Goals as goal

pub loop-n-preserved : goal.loop-n-preserved
loop-n-preserved c =
    let x = c.index-members-n.result in
    let n = c.loop-n.n in
    let rounds = c.args.rounds in
    let item = λ (text : List ℕ). let y : Place = record { end = ends.Member n text rounds; side = sides.Member n } in
    y in
    c.in_ok-push.ensures.pushed
    ∙ (ap (λ text. c.loop-n.places ++ item text ∷ []) c.in_ok-copy.ensures
    ∙ (ap (λ places. places ++ item x.address ∷ []) c.loop-n.invariant
    ∙ (append_assoc c.args.places.now (map (member_place rounds) (take n (enumerate_from 0 c.args.members.now)))
    (item x.address ∷ [])
    ∙ ap (λ places. c.args.places.now ++ places)
    (sym (numbered_mapped (member_place rounds) c.args.members.now n x c.loop-n-test.true c.index-members-n.is)))))

pub returns : goal.returns
returns c =
    c.loop-n.invariant
    ∙ ap (λ xs. c.args.places.now ++ map (member_place c.args.rounds) xs)
    (numbered_all c.args.members.now c.loop-n.n (omega (arith, c.loop-n-test.false)))
