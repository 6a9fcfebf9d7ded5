-- What a switch counted under cookies, as the counts take it over.
use Rattle.std.specs.Prelude.{◌≡◌, ℕ, List, [], ◌∷◌, false, true, fold, if◌then◌else◌, map}
use Rattle.std.specs.List.{list_any}
use Rattle.of10_stats.specs.declared.reply.FlowStat.{FlowStat}
use Rattle.stats_map.specs.Counting.{CountsOf, reported}
use Rattle.stats_map.specs.Pending.{ended_now}
use Rattle.switch_meaning.specs.Counts.{Numbers}
use Rattle.switch_state.specs.Known.{KnownOf}
use Rattle.switch_state.specs.Reports.{removal}
use Rattle.switch_state.specs.declared.removal.Removal.{Removal}
use Rattle.switch_state.specs.declared.removal.Removal.TheVariants.{Taken}
use Rattle.waitings.specs.Waitings.{waits_for_flows}
use Rattle.event_acts.specs.declared.heard.Heard.{Heard}
use Rattle.event_acts.specs.declared.heard.Heard.TheVariants.{FlowRemoved, Flows}
use Rattle.event_acts.specs.declared.hearing.CookieCount.{CookieCount}
use Rattle.waitings.specs.declared.state.Waiting.{Waiting}

-- the counts with the numbers of a cookie
abbrev pub with_count : ℕ → CountsOf → CookieCount → CountsOf
with_count n counts c = reported (n, c.cookie) (record { packets = c.packets; bytes = c.bytes }) false counts

-- with those of several, one after the other
abbrev pub with_counts : ℕ → List CookieCount → CountsOf → CountsOf
with_counts n cs counts = fold (with_count n) counts cs

-- an entry's numbers, in an answer to a poll
abbrev pub entry_count : FlowStat → CookieCount
entry_count e = record { cookie = e.cookie; packets = e.packets; bytes = e.bytes }

-- a removal's numbers, if it is taken
abbrev pub removal_counts : Removal → CookieCount → List CookieCount
removal_counts Taken c = c ∷ []
removal_counts other c = []

-- what is taken over of what a switch tells: the numbers of entries, where a poll waits for them, and those of a
-- removal that is taken
abbrev pub counts_in : List Waiting → KnownOf → ℕ → Heard → List CookieCount
counts_in waiting known n (Flows xid more entries) =
    if list_any (waits_for_flows n xid) waiting then map entry_count entries else []
counts_in waiting known n (FlowRemoved cookie packets bytes) =
    removal_counts (removal known cookie) (record { cookie = cookie; packets = packets; bytes = bytes })
counts_in waiting known n heard = []

-- a cookie has these numbers, if it matters: with them its last report ends it as it is
abbrev pub HasLast : ℕ → ℕ → Numbers → CountsOf → Type 0
HasLast n cookie numbers counts = reported (n, cookie) numbers true counts ≡ ended_now (n, cookie) counts

-- the numbers of a removal that is taken are counted
abbrev pub AreLast : ℕ → KnownOf → Heard → CountsOf → Type 0
AreLast n known (FlowRemoved cookie packets bytes) counts =
    removal known cookie ≡ Taken → HasLast n cookie (record { packets = packets; bytes = bytes }) counts
AreLast n known heard counts = Unit {0}
