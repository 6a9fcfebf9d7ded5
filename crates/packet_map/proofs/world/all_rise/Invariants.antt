use Rattle.std.proofs.Common.{ℕ, ◌<◌, slice_index_or}
use Rattle.grants.specs.declared.grant.Grant.{Grant}
use Rattle.packet_map.specs.Rising.{SeesRising}
use Rattle.packet_map.proofs.world.all_rise.Given as goal

abbrev pub invariant-loop-grant : goal.invariant-loop-grant
invariant-loop-grant l = (k : ℕ) (d : Grant) → k < l.grant-index → SeesRising (slice_index_or l.grant-items k d)
