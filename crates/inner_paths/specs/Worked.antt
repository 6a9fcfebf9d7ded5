-- A virtual switch over three switches in a row: next hops and tags.
use Rattle.std.specs.Prelude.{◌≡◌, Some, None, [], ◌∷◌}
use Rattle.virtual_topology.specs.Worked.{pair_of, row_of_three, s1, s2, s3}
use Rattle.inner_paths.specs.declared.fault.PathFault.TheVariants.{Unreachable}
use Rattle.inner_paths.specs.Cuts.{cut_fault}
use Rattle.inner_paths.specs.Distances.{distance}
use Rattle.inner_paths.specs.Hops.{next_hop_of}
use Rattle.inner_paths.specs.Tags.{tag_of}

-- from the first to the third it is two cables, over the second
abbrev pub HopsLead : Type 0
HopsLead =
    (distance row_of_three 0 2 ≡ Some 2) × (next_hop_of row_of_three 0 2 ≡ Some 3)
    × (next_hop_of row_of_three 1 2 ≡ Some 4) × (next_hop_of row_of_three 2 0 ≡ Some 3)
    × (next_hop_of row_of_three 1 1 ≡ None) × (next_hop_of row_of_three 3 0 ≡ None)

-- the tags of its four ports are their numbers
abbrev pub TagsCount : Type 0
TagsCount =
    (tag_of row_of_three 0 1 ≡ Some 1) × (tag_of row_of_three 0 2 ≡ Some 2) × (tag_of row_of_three 0 3 ≡ Some 3)
    × (tag_of row_of_three 0 4 ≡ Some 4) × (tag_of row_of_three 0 5 ≡ None)

-- without the cable from the second to the third, the first has no path to the third
abbrev pub CutIsNamed : Type 0
CutIsNamed = (cut_fault row_of_three ≡ None)
    × (cut_fault (record row_of_three { cables = pair_of s1 3 s2 3 ∷ [] }) ≡ Some (Unreachable s1 s3))
