use Rattle.std.proofs.Common.{◌≡◌, ◌∙◌, ap, slice_set}
use Rattle.switch_arrivals.proofs.Apart.{apart_back}
use Rattle.switch_arrivals.proofs.Places.{put_back, there}
use Rattle.switch_arrivals.specs.declared.claim.Claim.{Claim}
use Rattle.switch_arrivals.specs.declared.claim.Holder.TheVariants.{Nobody}
use Rattle.switch_arrivals.proofs.given.Given.free.Goals as goal

pub invariant_of-self : goal.invariant_of-self
invariant_of-self g c =
    let same : c.free.new.self.dpid ≡ c.index-as_mut_slice-place.result.dpid =
    cc (ap (λ (y : Claim g.row.L.Denot g.row.C.Denot). y.dpid) c.free.ensures, c.index-as_mut_slice-place.is) in
    apart_back c.self.inside.claims c.as_mut_slice.result.now c.args.place c.index-as_mut_slice-place.result
    c.free.new.self c.as_mut_slice.ensures.value c.index-as_mut_slice-place.is same c.self.invariant

pub returns : goal.returns
returns g c k at =
    let v : c.args.self.now ≡ c.self.inside.claims = cc in
    let same : c.index-as_mut_slice-place.result ≡ k =
    there c.args.self.now c.self.inside.claims c.as_mut_slice.result.now c.args.place
    c.index-as_mut_slice-place.result k v c.as_mut_slice.ensures.value c.index-as_mut_slice-place.is at in
    let w : c.free.new.self ≡ record k { holder = Nobody } = cc (c.free.ensures, c.index-as_mut_slice-place.is, same) in
    put_back c.args.self.now c.self.inside.claims c.as_mut_slice.result.now c.args.place c.free.new.self v
    c.as_mut_slice.ensures.value
    ∙ ap (slice_set c.args.self.now c.args.place) w
