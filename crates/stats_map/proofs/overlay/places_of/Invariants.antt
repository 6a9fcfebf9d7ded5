use Rattle.std.specs.Map.{keys_of}
use Rattle.stats_map.proofs.Listing.{IsLeft}
use Rattle.stats_map.proofs.Switches.{part_of}
use Rattle.stats_map.proofs.overlay.places_of.Given as goal

abbrev pub invariant-loop-place : goal.invariant-loop-place
invariant-loop-place g l =
    (goal.iterator-loop-place g).can_next l.place-iterator × (goal.iterator-loop-place g).is_finite l.place-iterator
    × IsLeft l.switch (keys_of (part_of l.switch l.map.entries)) l.places.items l.place-iterator
