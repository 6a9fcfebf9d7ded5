use Rattle.std.proofs.Common.{◌≡◌, true, take}
use Rattle.std.specs.List.{list_any}
use Rattle.stats_map.specs.Counting.{Place}
use Rattle.stats_map.specs.Overlay.{IsDrawn, IsLaid, now_of}
use Rattle.stats_map.proofs.Rows.{at}
use Rattle.stats_map.proofs.overlay.Overlay.draw_switch.Given as goal

abbrev pub invariant-loop-place : goal.invariant-loop-place
invariant-loop-place l =
    (l.self.base.now ≡ l.fn.self.base.now) × (now_of l.self ≡ now_of l.fn.self) × IsLaid l.self
    × ((q : Place) → list_any (at q) (take l.place-index l.place-items) ≡ true → IsDrawn q l.self)
