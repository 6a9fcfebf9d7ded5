use Rattle.std.proofs.Common.{◌≡◌, drop}
use Rattle.switch_meaning.specs.Following.{both_seen, copies_at}
use Rattle.switch_meaning.proofs.following.copy_all.Given as goal

-- what was appended, and then what is left
abbrev pub invariant-loop-header : goal.invariant-loop-header
invariant-loop-header l = both_seen l.seen (copies_at l.switch (drop l.header-index l.header-items))
    ≡ both_seen l.initial.seen (copies_at l.switch l.header-items)
