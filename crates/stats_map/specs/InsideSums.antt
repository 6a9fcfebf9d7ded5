-- How counts are kept: a sum for each leaf.
use Rattle.std.specs.Prelude.{◌≡◌, ℕ, ◌+◌, ◌-◌, ◌==◌, ◌<◌, ◌≤◌, ◌^◌, ◌&&◌, ⊤, Bool, true, false, Option, Some, None}
use Rattle.std.specs.Prelude.{IfSome, IsSome, option_and_then, List, ◌∷◌, count_by, sum_by, if◌then◌else◌}
use Rattle.std.specs.BTreeMap.{is_at}
use Rattle.std.specs.Map.{lookup}
use Rattle.std.specs.List.{AllByRecursion, list_any}
use Rattle.cv_io.specs.Leaves.{leaf_cmp, same_leaf}
use Rattle.cv_io.specs.declared.leaf.Leaf.{Leaf}
use Rattle.switch_meaning.specs.Counts.{Cookie, Numbers, bytes_for, capped, names, packets_for}
use Rattle.stats_map.specs.Counting.{Cookies, CountsOf, Place, of_switch}
use Rattle.stats_map.specs.declared.sum.Event.{Event}
use Rattle.stats_map.specs.declared.sum.Event.TheVariants.{Begun, Moved, Ended, Forgotten}
use Rattle.stats_map.specs.declared.sum.Sum.{Sum}

-- sums of leaves
abbrev pub Sums : Type 0
Sums = List (Leaf × Sum)

-- the sum of a leaf
abbrev pub sum_at : Leaf → Sums → Option Sum
sum_at leaf sums = lookup (is_at (leaf_cmp leaf)) sums

-- the sum of a leaf that no cookie named
abbrev pub no_sum : Sum
no_sum = record { packets = 0; bytes = 0; forgotten = false; live = 0; live_packets = 0; live_bytes = 0 }

-- sums of more leaves, which no cookie named so far
pub record HaveMore (old new : Sums) : Type 0 where
  pub kept : (leaf : Leaf) (s : Sum) → sum_at leaf old ≡ Some s → sum_at leaf new ≡ Some s
  pub fresh : (leaf : Leaf) (s : Sum) → sum_at leaf new ≡ Some s → sum_at leaf old ≡ None → s ≡ no_sum

-- the total of a sum, if there is one
abbrev pub total_in : Option Sum → Numbers
total_in None = record { packets = 0; bytes = 0 }
total_in (Some s) = record { packets = s.packets; bytes = s.bytes }

-- the sum is to go, if there is one
abbrev pub forgotten_in : Option Sum → Bool
forgotten_in None = false
forgotten_in (Some s) = s.forgotten

-- the sum, if it isn't forgotten or a cookie names the leaf
abbrev pub left_of : Sum → Option Sum
left_of s = if s.forgotten && (s.live == 0) then None else Some s

-- the sum after what happens to it, if it is still wanted
abbrev pub changed_by : Event → Sum → Option Sum
changed_by Begun s = Some (record s { live = s.live + 1 })
changed_by (Moved old new) s =
    Some (record s {
      live_packets = s.live_packets - old.packets + new.packets;
      live_bytes = s.live_bytes - old.bytes + new.bytes;
    })
changed_by (Ended n) s = left_of (record {
  packets = capped (s.packets + n.packets);
  bytes = capped (s.bytes + n.bytes);
  forgotten = s.forgotten;
  live = s.live - 1;
  live_packets = s.live_packets - n.packets;
  live_bytes = s.live_bytes - n.bytes;
})
changed_by Forgotten s = left_of (record s { forgotten = true })

-- no number of the sum falls below zero or grows too great
abbrev pub Allows : Event → Sum → Type 0
Allows Begun s = s.live + 1 < 2 ^ 64
Allows (Moved old new) s =
    (old.packets ≤ s.live_packets) × (old.bytes ≤ s.live_bytes) × (s.live_packets - old.packets + new.packets < 2 ^ 128)
    × (s.live_bytes - old.bytes + new.bytes < 2 ^ 128)
Allows (Ended n) s = (0 < s.live) × (n.packets ≤ s.live_packets) × (n.bytes ≤ s.live_bytes)
Allows Forgotten s = ⊤

-- and so for the sum of each leaf
abbrev pub AllowsEach : Event → List Leaf → Sums → Type 0
AllowsEach event leaves sums = (leaf : Leaf) → list_any (same_leaf leaf) leaves ≡ true
    → IfSome (sum_at leaf sums) (Allows event)

-- it happened to the sums of the leaves, and to no other
abbrev pub HappenedTo : Event → List Leaf → Sums → Sums → Type 0
HappenedTo event leaves old new = (leaf : Leaf)
    → sum_at leaf new ≡ (if list_any (same_leaf leaf) leaves then option_and_then (changed_by event) (sum_at leaf old)
    else sum_at leaf old)

-- a sum is that of the cookies that name the leaf; a leaf that is forgotten is named
pub record IsSum (live : List Cookie) (leaf : Leaf) (s : Sum) : Type 0 where
  pub live_count : s.live ≡ count_by (names leaf) live
  pub live_packets : s.live_packets ≡ sum_by (packets_for leaf) live
  pub live_bytes : s.live_bytes ≡ sum_by (bytes_for leaf) live
  pub named : s.forgotten ≡ true → 0 < s.live

-- the numbers of a cookie have 64 bits
abbrev pub HasNumbers : Cookie → Type 0
HasNumbers c = (c.numbers.packets < 2 ^ 64) × (c.numbers.bytes < 2 ^ 64)

-- the sums are those of the cookies that matter, and each leaf that is named has one
pub record AreSums (live : List Cookie) (sums : Sums) : Type 0 where
  pub each : (leaf : Leaf) (s : Sum) → sum_at leaf sums ≡ Some s → IsSum live leaf s
  pub summed : (leaf : Leaf) → list_any (names leaf) live ≡ true → IsSome (sum_at leaf sums)
  pub numbers : AllByRecursion HasNumbers live

-- the counts that cookies and sums make
abbrev pub seen : Cookies → Sums → CountsOf
seen live sums = record {
  live = live;
  totals = λ leaf. total_in (sum_at leaf sums);
  forgotten = λ leaf. forgotten_in (sum_at leaf sums);
}

-- the place of the first cookie of a switch
abbrev pub IsFirstOf : ℕ → Cookies → Place → Type 0
IsFirstOf switch live place = (c : Cookie) × (rest : Cookies) × (of_switch switch live ≡ (place, c) ∷ rest)
