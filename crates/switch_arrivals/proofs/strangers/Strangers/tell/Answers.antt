use Rattle.std.proofs.Common.{◌≡◌, ◌∙◌, ap, slice_set}
use Rattle.switch_arrivals.proofs.Places.{put_back, there}
use Rattle.switch_arrivals.specs.Strangers.{with_told}
use Rattle.switch_arrivals.proofs.strangers.Strangers.tell.Goals as goal

pub returns-clause-told : goal.returns-clause-told
returns-clause-told g c k at =
    let v : c.args.self.now ≡ c.self.inside.waiting = cc in
    let same : c.index-as_mut_slice-place.result ≡ k =
    there c.args.self.now c.self.inside.waiting c.as_mut_slice.result.now c.args.place
    c.index-as_mut_slice-place.result k v c.as_mut_slice.ensures.value c.index-as_mut_slice-place.is at in
    let w : c.set_told.new.stranger ≡ with_told c.args.told k = cc (c.set_told.ensures, c.index-as_mut_slice-place.is, same) in
    put_back c.args.self.now c.self.inside.waiting c.as_mut_slice.result.now c.args.place c.set_told.new.stranger v
    c.as_mut_slice.ensures.value
    ∙ ap (slice_set c.args.self.now c.args.place) w
