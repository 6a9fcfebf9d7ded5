use Rattle.std.proofs.Common.{◌≡◌, ◌+◌, drop}
use Rattle.policy_notes.specs.Places.{feeds}
use Rattle.policy_notes.proofs.finding.feeds.Given as goal

abbrev pub invariant-loop-byte : goal.invariant-loop-byte
invariant-loop-byte l = l.count + feeds (drop l.byte-index l.text) ≡ feeds l.text
