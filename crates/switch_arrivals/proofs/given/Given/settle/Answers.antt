use Rattle.std.proofs.Common.{◌≡◌, ◌∙◌, ap, get_or, slice_set, sym}
use Rattle.switch_arrivals.proofs.Apart.{apart_back, kept_settled}
use Rattle.switch_arrivals.proofs.Places.{put_back, there}
use Rattle.switch_arrivals.specs.Claims.{settled}
use Rattle.switch_arrivals.specs.declared.claim.Claim.{Claim}
use Rattle.switch_arrivals.proofs.given.Given.settle.Goals as goal

pub invariant_of-self : goal.invariant_of-self
invariant_of-self g c =
    let same : c.settle.new.self.dpid ≡ c.index-as_mut_slice-place.result.dpid =
    kept_settled c.settle.result (get_or c.as_mut_slice.result.now c.args.place c.index-as_mut_slice-place.result) c.settle.new.self c.settle.ensures.claims
    ∙ ap (λ (y : Claim g.row.L.Denot g.row.C.Denot). y.dpid) (sym c.index-as_mut_slice-place.is) in
    apart_back c.self.inside.claims c.as_mut_slice.result.now c.args.place c.index-as_mut_slice-place.result
    c.settle.new.self c.as_mut_slice.ensures.value c.index-as_mut_slice-place.is same c.self.invariant

pub returns-clause-outcome : goal.returns-clause-outcome
returns-clause-outcome g c k at =
    let v : c.args.self.now ≡ c.self.inside.claims = cc in
    let same : c.index-as_mut_slice-place.result ≡ k =
    there c.args.self.now c.self.inside.claims c.as_mut_slice.result.now c.args.place
    c.index-as_mut_slice-place.result k v c.as_mut_slice.ensures.value c.index-as_mut_slice-place.is at in
    cc (c.settle.ensures.outcome, c.index-as_mut_slice-place.is, same)

pub returns-clause-claims : goal.returns-clause-claims
returns-clause-claims g c k at =
    let v : c.args.self.now ≡ c.self.inside.claims = cc in
    let same : c.index-as_mut_slice-place.result ≡ k =
    there c.args.self.now c.self.inside.claims c.as_mut_slice.result.now c.args.place
    c.index-as_mut_slice-place.result k v c.as_mut_slice.ensures.value c.index-as_mut_slice-place.is at in
    let w : c.settle.new.self ≡ settled c.settle.result k =
    cc (c.settle.ensures.claims, c.index-as_mut_slice-place.is, same) in
    put_back c.args.self.now c.self.inside.claims c.as_mut_slice.result.now c.args.place c.settle.new.self v
    c.as_mut_slice.ensures.value
    ∙ ap (slice_set c.args.self.now c.args.place) w
