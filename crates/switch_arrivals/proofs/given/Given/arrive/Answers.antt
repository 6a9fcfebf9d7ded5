use Rattle.std.proofs.Common.{◌≡◌, ◌∙◌, Some, ap, slice_set}
use Rattle.switch_arrivals.proofs.Apart.{apart_back}
use Rattle.switch_arrivals.proofs.Places.{put_back, there}
use Rattle.switch_arrivals.specs.Claims.{asked}
use Rattle.switch_arrivals.specs.declared.claim.Claim.{Claim}
use Rattle.switch_arrivals.proofs.given.Given.arrive.Goals as goal

pub invariant_of-self : goal.invariant_of-self
invariant_of-self g c =
    let same : c.arrive.new.self.dpid ≡ c.index-as_mut_slice-place.result.dpid =
    cc (ap (λ (y : Claim g.row.L.Denot g.row.C.Denot). y.dpid) c.arrive.ensures.waits, c.index-as_mut_slice-place.is) in
    apart_back c.self.inside.claims c.as_mut_slice.result.now c.args.place c.index-as_mut_slice-place.result
    c.arrive.new.self c.as_mut_slice.ensures.value c.index-as_mut_slice-place.is same c.self.invariant

pub returns-clause-overtaken : goal.returns-clause-overtaken
returns-clause-overtaken g c k at =
    let v : c.args.self.now ≡ c.self.inside.claims = cc in
    let same : c.index-as_mut_slice-place.result ≡ k =
    there c.args.self.now c.self.inside.claims c.as_mut_slice.result.now c.args.place
    c.index-as_mut_slice-place.result k v c.as_mut_slice.ensures.value c.index-as_mut_slice-place.is at in
    cc (c.arrive.ensures.overtaken, c.index-as_mut_slice-place.is, same)

pub returns-clause-waits : goal.returns-clause-waits
returns-clause-waits g c k at =
    let v : c.args.self.now ≡ c.self.inside.claims = cc in
    let same : c.index-as_mut_slice-place.result ≡ k =
    there c.args.self.now c.self.inside.claims c.as_mut_slice.result.now c.args.place
    c.index-as_mut_slice-place.result k v c.as_mut_slice.ensures.value c.index-as_mut_slice-place.is at in
    let w : c.arrive.new.self ≡ record k { newcomer = Some c.args.newcomer; holder = asked c.args.now k.holder } =
    cc (c.arrive.ensures.waits, c.index-as_mut_slice-place.is, same) in
    put_back c.args.self.now c.self.inside.claims c.as_mut_slice.result.now c.args.place c.arrive.new.self v
    c.as_mut_slice.ensures.value
    ∙ ap (slice_set c.args.self.now c.args.place) w
