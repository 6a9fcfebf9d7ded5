use Rattle.std.proofs.Common.{◌≡◌, drop}
use Rattle.std.specs.Map.{keys_of}
use Rattle.stats_map.specs.Overlay.{IsLaid, now_of}
use Rattle.stats_map.specs.Told.{told}
use Rattle.stats_map.proofs.Downing.{AreLeft}
use Rattle.stats_map.proofs.overlay.Overlay.end_all.Given as goal

abbrev pub invariant-loop-place : goal.invariant-loop-place
invariant-loop-place l =
    (l.self.base.now ≡ l.fn.self.base.now) × IsLaid l.self
    × (keys_of l.self.live.entries ≡ keys_of l.initial.self.live.entries)
    × AreLeft l.switch (drop l.place-index l.place-items) (told (now_of l.self)) (told (now_of l.fn.self))
