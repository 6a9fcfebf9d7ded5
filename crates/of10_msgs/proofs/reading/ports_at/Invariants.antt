use Rattle.std.proofs.Common.{◌≡◌, ◌+◌, ◌*◌, ◌-◌, ◌++◌}
use Rattle.of10_msgs.specs.Reading.{ports_at}
use Rattle.of10_msgs.proofs.reading.ports_at.Given as goal

abbrev pub invariant-loop-place : goal.invariant-loop-place
invariant-loop-place l =
    l.ports ++ ports_at (l.count - l.place) (32 + 48 * l.place) l.frame ≡ ports_at l.count 32 l.frame
