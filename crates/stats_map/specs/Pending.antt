-- What an event makes of counts, before it is made.
use Rattle.std.specs.Prelude.{◌≡◌, true, false, Option, Some, None, List, [], if◌then◌else◌, option_and_then}
use Rattle.std.specs.List.{list_any}
use Rattle.std.specs.List.Sorted.{IsStrictlySortedBy}
use Rattle.std.specs.Map.{keys_of, values_of}
use Rattle.cv_io.specs.Leaves.{leaf_cmp, same_leaf}
use Rattle.cv_io.specs.declared.leaf.Leaf.{Leaf}
use Rattle.switch_meaning.specs.Counts.{Cookie, Numbers}
use Rattle.stats_map.specs.Counting.{CountsOf, Place, cookie_at, ended, place_cmp, reported}
use Rattle.stats_map.specs.InsideSums.{AreSums, Sums, changed_by, sum_at}
use Rattle.stats_map.specs.Slots.{HasKey, overlaid, value_at}
use Rattle.stats_map.specs.Told.{HeldOf}
use Rattle.stats_map.specs.declared.sum.Event.{Event}
use Rattle.stats_map.specs.declared.sum.Sum.{Sum}

-- after the removal of a cookie is taken, with the numbers that it has
abbrev pub ended_if : Option Cookie → Place → CountsOf → CountsOf
ended_if None place s = s
ended_if (Some c) place s = ended place c s

abbrev pub ended_now : Place → CountsOf → CountsOf
ended_now place s = ended_if (cookie_at place s) place s

-- a last report of the numbers that a cookie has ends it as it is
abbrev pub LastReportEnds : Type 0
LastReportEnds =
    (place : Place) (c : Cookie) (s : CountsOf) → cookie_at place s ≡ Some c
    → reported place c.numbers true s ≡ ended_now place s

-- other numbers, and then the old ones again, leave what stood
abbrev pub OldNumbersRestore : Type 0
OldNumbersRestore =
    (place : Place) (c : Cookie) (numbers : Numbers) (s : CountsOf) → cookie_at place s ≡ Some c
    → reported place c.numbers false (reported place numbers false s) ≡ s

-- what is to be changed of the cookies, and of the sums of leaves
abbrev pub PlaceSlots : Type 0
PlaceSlots = List (Place × Option Cookie)

abbrev pub LeafSlots : Type 0
LeafSlots = List (Leaf × Option Sum)

-- what is held with the changes
abbrev pub laid : PlaceSlots → LeafSlots → HeldOf → HeldOf
laid places leaves h = record { live = overlaid place_cmp places h.live; sums = overlaid leaf_cmp leaves h.sums }

-- each of the leaves has a slot
abbrev pub HaveSlots : List Leaf → LeafSlots → Type 0
HaveSlots leaves slots = (leaf : Leaf) → list_any (same_leaf leaf) leaves ≡ true → HasKey leaf_cmp leaf slots

-- each leaf of a cookie that has a slot has one too
abbrev pub LeavesHaveSlots : PlaceSlots → LeafSlots → Type 0
LeavesHaveSlots places leaves =
    (place : Place) (c : Cookie) → value_at place_cmp place places ≡ Some (Some c) → HaveSlots c.ancestry leaves

-- the sums that have slots
abbrev pub slot_sums : LeafSlots → Sums
slot_sums slots = overlaid leaf_cmp slots []

-- it happened to the sum of a leaf, and to no other
abbrev pub HappenedAt : Event → Leaf → Sums → Sums → Type 0
HappenedAt event leaf old new =
    (q : Leaf) → sum_at q new
    ≡ (if same_leaf leaf q then option_and_then (changed_by event) (sum_at leaf old) else sum_at q old)

-- the keys of what is held rise
pub record IsOrdered (h : HeldOf) : Type 0 where
  pub places : IsStrictlySortedBy place_cmp (keys_of h.live)
  pub leaves : IsStrictlySortedBy leaf_cmp (keys_of h.sums)

-- the sums that are held are those of the cookies
abbrev pub IsSummed : HeldOf → Type 0
IsSummed h = AreSums (values_of h.live) h.sums

-- the counts as an event began, and as it makes them
pub record PendingOf : Type 0 where
  pub base : HeldOf
  pub now : HeldOf
