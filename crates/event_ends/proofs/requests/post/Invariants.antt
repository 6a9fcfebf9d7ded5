use Rattle.std.proofs.Common.{◌≡◌, ◌++◌, length, map}
use Rattle.machine_meaning.specs.Drafts.{letter}
use Rattle.event_ends.proofs.requests.post.Given as goal

-- the letters so far, and what is left
abbrev pub invariant-loop-bytes : goal.invariant-loop-bytes
invariant-loop-bytes l = l.letters ++ map (letter l.to) l.messages ≡ l.fn.letters ++ map (letter l.to) l.fn.messages

abbrev pub decreases-loop-bytes : goal.decreases-loop-bytes
decreases-loop-bytes l = length l.messages
