use Rattle.std.proofs.Common.{◌∙◌}
use Rattle.stats_map.proofs.Laying.{place_exact}
use Rattle.stats_map.proofs.Overlays.{laid-else}
use Rattle.stats_map.proofs.Rows.{place_total}
use Rattle.stats_map.proofs.SlotSums.{leaf_exact, leaf_total}
use Rattle.stats_map.proofs.changes.make_in.Goals as goal

pub returns-clause-live : goal.returns-clause-live
returns-clause-live c =
    c.fill.ensures
    ∙ laid-else place_total place_exact c.args.live.now.entries c.len-places.ensures.ordered c.args.changes.live.entries
    c.add_all_rooms.new.live.entries c.len-more_places.ensures.ordered c.add_all_rooms.ensures.live_else

pub returns-clause-sums : goal.returns-clause-sums
returns-clause-sums c =
    c.fill-2.ensures
    ∙ laid-else leaf_total leaf_exact c.args.sums.now.entries c.len-leaves.ensures.ordered c.args.changes.sums.entries
    c.add_all_rooms.new.sums.entries c.len-more_leaves.ensures.ordered c.add_all_rooms.ensures.sums_else
