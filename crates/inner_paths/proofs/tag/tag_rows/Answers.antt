use Rattle.std.proofs.lemmas.List.{get_or_default}
use Rattle.virtual_topology.proofs.Steps.{pushed_some}
use Rattle.inner_paths.specs.Tags.{tag_row}
use Rattle.inner_paths.proofs.tag.tag_rows.Goals as goal

pub loop-outside-preserved : goal.loop-outside-preserved
loop-outside-preserved c =
    pushed_some (tag_row c.args.topology.now) c.outside_ports-outside-items.result.now c.loop-outside.outside-index _
    c.loop-outside.rows.items c.push_some.new.list.items c.tag_row.result
    c.loop-outside-test.true (get_or_default c.outside_ports-outside-items.result.now c.loop-outside.outside-index _ _
    c.loop-outside-test.true) c.loop-outside.invariant c.tag_row.ensures c.in_ok-push_some.ensures
