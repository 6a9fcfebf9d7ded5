use Rattle.std.proofs.Common.{◌≡◌, ◌-◌, length}
use Rattle.machine_meaning.specs.Ways.{group_of, over_links}
use Rattle.machine_drafts.proofs.ways.group.Given as goal

-- those to which as many links as are left lead from the ones so far
abbrev pub invariant-loop-link : goal.invariant-loop-link
invariant-loop-link l = over_links l.topology (length l.topology.virtuals - l._link) l.group ≡ group_of l.topology l.v
