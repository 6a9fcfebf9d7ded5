use Rattle.std.proofs.Common.{◌∙◌}
use Rattle.stats_map.proofs.Drafting.{found-named}
use Rattle.stats_map.proofs.overlay.Overlay.draw_named.Goals as goal

pub returns-clause-named : goal.returns-clause-named
returns-clause-named c =
    found-named (record c.args.self.now { sums = c.draw_leaves.new.slots }) c.args.place.now c.in-Some.row.now
    c.live.result.now.entries c.as_slice.result.now c.live.ensures.entries (c.as_slice.ensures ∙ c.ancestry.ensures)
    c.in-Some.ensures c.in_ok-draw_leaves.ensures.there
