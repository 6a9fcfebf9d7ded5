-- Counts of leaves: the cookies that matter, and what those that don't matter any more left to their leaves.
use Rattle.std.specs.Prelude.{ℕ, Bool, false, ◌==◌, ◌&&◌, ◌||◌, not, Option, Some, None, List, [], filter, fold}
use Rattle.std.specs.Prelude.{if◌then◌else◌}
use Rattle.std.specs.BTreeMap.{insert_entry, is_at}
use Rattle.std.specs.List.{list_any}
use Rattle.std.specs.Map.{lookup, remove_entry, set_value, values_of}
use Rattle.std.specs.Ordering.{nat_cmp, ordering_then}
use Rattle.std.specs.declared.cmp.Ordering.{Ordering}
use Rattle.cv_io.specs.Leaves.{same_leaf}
use Rattle.cv_io.specs.declared.leaf.Leaf.{Leaf}
use Rattle.switch_meaning.specs.Counts.{Cookie, Numbers, counted, folded_in, names, no_totals}
use Rattle.stats_map.specs.declared.counts.Known.{Known}
use Rattle.stats_map.specs.declared.counts.Known.TheVariants.{Live, Retired}

-- a switch and the number of a cookie that was written to it
abbrev pub Place : Type 0
Place = ℕ × ℕ

-- by switches and then by numbers
abbrev pub place_cmp : Place → Place → Ordering
place_cmp a b = ordering_then (nat_cmp a.0 b.0) (nat_cmp a.1 b.1)

-- cookies in their places, rising
abbrev pub Cookies : Type 0
Cookies = List (Place × Cookie)

-- the cookies that stand on switches, or were deleted and not yet reported; the totals that all others left to leaves;
-- and the leaves whose totals go with the last cookie that names them
pub record CountsOf : Type 0 where
  pub live : Cookies
  pub totals : Leaf → Numbers
  pub forgotten : Leaf → Bool

-- nothing was written
abbrev pub nothing : CountsOf
nothing = record { live = []; totals = no_totals; forgotten = λ leaf. false }

-- the cookie of a place, if it matters
abbrev pub cookie_at : Place → CountsOf → Option Cookie
cookie_at place s = lookup (is_at (place_cmp place)) s.live

-- a cookie that matters names the leaf
abbrev pub is_named : CountsOf → Leaf → Bool
is_named s leaf = list_any (names leaf) (values_of s.live)

-- the count of a leaf, over the totals and the cookies that matter
abbrev pub count : CountsOf → Leaf → Numbers
count s leaf = counted s.totals (values_of s.live) leaf

-- after a cookie was written, where there is none
abbrev pub installed_at : Option Cookie → Place → List Leaf → CountsOf → CountsOf
installed_at (Some c) place ancestry s = s
installed_at None place ancestry s = record {
  live = insert_entry place_cmp s.live place
      (record { ancestry = ancestry; numbers = record { packets = 0; bytes = 0 } });
  totals = s.totals;
  forgotten = s.forgotten;
}

-- after a cookie was written, if it wasn't already
abbrev pub installed : Place → List Leaf → CountsOf → CountsOf
installed place ancestry s = installed_at (cookie_at place s) place ancestry s

-- without the totals of leaves that are forgotten and that no cookie names
abbrev pub swept : CountsOf → CountsOf
swept s = record {
  live = s.live;
  totals = λ leaf. if s.forgotten leaf && not (is_named s leaf) then record { packets = 0; bytes = 0 }
      else s.totals leaf;
  forgotten = λ leaf. s.forgotten leaf && is_named s leaf;
}

-- the cookie with other numbers
abbrev pub with_numbers : Numbers → Cookie → Cookie
with_numbers numbers c = record { ancestry = c.ancestry; numbers = numbers }

-- after the cookie of a place has other numbers
abbrev pub renumbered : Place → Cookie → CountsOf → CountsOf
renumbered place c s = record {
  live = set_value (is_at (place_cmp place)) s.live c;
  totals = s.totals;
  forgotten = s.forgotten;
}

-- after the cookie of a place doesn't matter any more
abbrev pub ended : Place → Cookie → CountsOf → CountsOf
ended place c s =
    swept (record {
      live = remove_entry (is_at (place_cmp place)) s.live;
      totals = folded_in s.totals c;
      forgotten = s.forgotten;
    })

-- after a report on a cookie, if it matters
abbrev pub reported_on : Option Cookie → Place → Numbers → Bool → CountsOf → CountsOf
reported_on None place numbers last s = s
reported_on (Some c) place numbers last s = if last then ended place (with_numbers numbers c) s
    else renumbered place (with_numbers numbers c) s

-- after a report, of which the last one tells that the entry was removed
abbrev pub reported : Place → Numbers → Bool → CountsOf → CountsOf
reported place numbers last s = reported_on (cookie_at place s) place numbers last s

-- what is known of a cookie
abbrev pub known : Option Cookie → Known
known None = Retired
known (Some c) = Live

-- the cookies of a switch
abbrev pub of_switch : ℕ → Cookies → Cookies
of_switch switch live = filter (λ p. p.0.0 == switch) live

-- after several cookies don't matter any more
abbrev pub all_ended : Cookies → CountsOf → CountsOf
all_ended cookies s = fold (λ s p. ended p.0 p.1 s) s cookies

-- after a switch went down: none of its cookies matters any more
abbrev pub downed : ℕ → CountsOf → CountsOf
downed switch s = all_ended (of_switch switch s.live) s

-- after a leaf is to be forgotten
abbrev pub forgot : Leaf → CountsOf → CountsOf
forgot leaf s = swept (record { live = s.live; totals = s.totals; forgotten = λ q. same_leaf leaf q || s.forgotten q })
