use Rattle.std.proofs.Common.{◌≡◌, take}
use Rattle.std.specs.Prelude.{filter_map}
use Rattle.inner_paths.specs.Tags.{tag_row}
use Rattle.inner_paths.proofs.tag.tag_rows.Given as goal

abbrev pub invariant-loop-outside : goal.invariant-loop-outside
invariant-loop-outside l = l.rows.items ≡ filter_map (tag_row l.topology) (take l.outside-index l.outside-items)
