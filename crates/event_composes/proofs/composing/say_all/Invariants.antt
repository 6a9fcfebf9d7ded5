use Rattle.std.proofs.Common.{◌≡◌, ◌++◌, length, map}
use Rattle.machine_meaning.specs.Drafts.{letter}
use Rattle.event_composes.proofs.composing.say_all.Given as goal

-- those so far, and then those that are left
abbrev pub invariant-loop-bytes : goal.invariant-loop-bytes
invariant-loop-bytes l = l.batches ++ map (letter l.n) l.messages
    ≡ l.initial.batches ++ map (letter l.n) l.initial.messages

abbrev pub decreases-loop-bytes : goal.decreases-loop-bytes
decreases-loop-bytes l = length l.messages
