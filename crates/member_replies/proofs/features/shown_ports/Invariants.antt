use Rattle.std.proofs.Common.{◌≡◌, All, map, take}
use Rattle.of10_msgs.specs.Ranges.{HasAddress}
use Rattle.member_replies.specs.Switches.{shown}
use Rattle.member_replies.proofs.features.shown_ports.Given as goal

abbrev pub invariant-loop-number : goal.invariant-loop-number
invariant-loop-number l = record {
  made : l.ports ≡ map (shown l.g l.v l.dark) (take l.number-index l.number-items);
  addresses : All HasAddress l.ports;
}
