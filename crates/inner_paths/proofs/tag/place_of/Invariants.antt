use Rattle.std.proofs.Common.{◌≡◌, ◌+◌, ◌≤◌, suc, length, filter, take}
use Rattle.inner_paths.specs.Tags.{stands_before}
use Rattle.inner_paths.proofs.tag.place_of.Given as goal

abbrev pub invariant-loop-outside : goal.invariant-loop-outside
invariant-loop-outside l =
    (l.place ≤ l.outside-index + 1)
    × (l.place ≡ suc (length (filter (stands_before l.topology l.v l.port) (take l.outside-index l.outside-items))))
