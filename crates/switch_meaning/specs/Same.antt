-- Equality of entries as a test.
use Rattle.std.specs.Prelude.{Bool, ◌==◌, ◌&&◌}
use Rattle.std.specs.Cmp.Lexicographic.{pointwise}
use Rattle.cv_io.specs.Leaves.{same_leaf}
use Rattle.of10_match.specs.Same.{same_match}
use Rattle.of10_actions.specs.Same.{same_action}
use Rattle.switch_meaning.specs.declared.entry.PhysEntry.{PhysEntry}

-- two entries are the same in every part
abbrev pub same_entry : PhysEntry → PhysEntry → Bool
same_entry d e =
    same_match d.m e.m &&
    ((d.priority == e.priority) &&
    (pointwise same_action d.actions e.actions && pointwise same_leaf d.ancestry e.ancestry))
