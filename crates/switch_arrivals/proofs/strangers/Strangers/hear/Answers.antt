use Rattle.std.proofs.Common.{◌≡◌, ◌∙◌, ap, slice_set}
use Rattle.switch_arrivals.proofs.Places.{put_back, there}
use Rattle.switch_arrivals.specs.Strangers.{with_said}
use Rattle.switch_arrivals.proofs.strangers.Strangers.hear.Goals as goal

pub returns-clause-said : goal.returns-clause-said
returns-clause-said g c k at =
    let v : c.args.self.now ≡ c.self.inside.waiting = cc in
    let same : c.index-as_mut_slice-place.result ≡ k =
    there c.args.self.now c.self.inside.waiting c.as_mut_slice.result.now c.args.place
    c.index-as_mut_slice-place.result k v c.as_mut_slice.ensures.value c.index-as_mut_slice-place.is at in
    let w : c.add_said.new.stranger ≡ with_said c.args.bytes.now k = cc (c.in_ok-add_said.ensures.said, c.index-as_mut_slice-place.is, same) in
    put_back c.args.self.now c.self.inside.waiting c.as_mut_slice.result.now c.args.place c.add_said.new.stranger v
    c.as_mut_slice.ensures.value
    ∙ ap (slice_set c.args.self.now c.args.place) w
