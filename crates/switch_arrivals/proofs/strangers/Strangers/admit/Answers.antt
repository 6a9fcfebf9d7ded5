use Rattle.std.proofs.Common.{◌≡◌, ◌∙◌, ◌++◌, ◌∷◌, [], List, Some, ap, arith, length, slice_get, subst}
use Rattle.std.specs.List.{remove}
use Rattle.switch_arrivals.proofs.Bounds.{get_pushed, removed_push}
use Rattle.switch_arrivals.specs.Strangers.{IsCrowding}
use Rattle.switch_arrivals.specs.declared.strangers.Stranger.{Stranger}
use Rattle.switch_arrivals.proofs.strangers.Strangers.admit.Goals as goal

pub returns-clause-admitted : goal.returns-clause-admitted
returns-clause-admitted g c =
    let xs = c.args.self.now in
    let x = c.args.newcomer in
    let place = c.crowding-place.result in
    let gone = c.remove-stranger.result in
    let v : c.args.self.now ≡ c.self.inside.waiting = cc in
    let full : length c.args.self.now ≡ 64 = omega (arith, c.self.invariant.0, ap length v) in
    let seen : c.as_slice.result.now ≡ c.args.self.now = cc in
    let crowding : IsCrowding c.args.self.now c.crowding-place.result =
    subst (λ (zs : List (Stranger g.row.C.Denot)). IsCrowding zs place) seen c.crowding-place.ensures in
    let pushed : c.push-2.new.self ≡ c.args.self.now ++ c.args.newcomer ∷ [] =
    cc (c.in_ok-push-2.ensures.pushed, v) in
    let item : slice_get (c.args.self.now ++ c.args.newcomer ∷ []) c.crowding-place.result
    ≡ Some c.remove-stranger.result =
    subst (λ (zs : List (Stranger g.row.C.Denot)). slice_get zs place ≡ Some gone) pushed
    c.remove-stranger.ensures.item in
    let items : c.remove-stranger.new.self
    ≡ remove (c.args.self.now ++ c.args.newcomer ∷ []) c.crowding-place.result =
    c.remove-stranger.ensures.items
    ∙ ap (λ (zs : List (Stranger g.row.C.Denot)). remove zs place) pushed in
    (full, crowding, get_pushed xs place x gone crowding.0 item, items ∙ removed_push xs place x crowding.0)
