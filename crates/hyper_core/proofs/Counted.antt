-- What is taken over of what a switch tells is counted then.
use Rattle.std.proofs.Common.{◌∙◌, ℕ, true, List, sym, ap}
use Rattle.stats_map.specs.Counting.{CountsOf, reported}
use Rattle.stats_map.specs.Pending.{ended_now}
use Rattle.switch_meaning.specs.Counts.{Numbers}
use Rattle.switch_state.specs.Known.{KnownOf}
use Rattle.waitings.specs.declared.state.Waiting.{Waiting}
use Rattle.event_acts.proofs.Exchanged.{last_once}
use Rattle.event_acts.specs.CookieCounts.{AreLast, counts_in, removal_counts, with_counts}
use Rattle.event_acts.specs.declared.heard.Heard.{Heard}
use Rattle.event_acts.specs.declared.heard.Heard.TheVariants as heards
use Rattle.event_acts.specs.declared.hearing.CookieCount.{CookieCount}

pub last_are_counted : (waiting : List Waiting) (known : KnownOf) (n : ℕ) (heard : Heard) (counts : CountsOf)
    → AreLast n known heard (with_counts n (counts_in waiting known n heard) counts)
last_are_counted waiting known n heards.Nothing counts = tt
last_are_counted waiting known n heards.IllFormed counts = tt
last_are_counted waiting known n heards.Error counts = tt
last_are_counted waiting known n (heards.EchoRequest xid bytes) counts = tt
last_are_counted waiting known n (heards.PacketIn total_len in_port bytes) counts = tt
last_are_counted waiting known n (heards.FlowRemoved cookie packets bytes) counts =
    λ taken.
    let numbers : Numbers = record { packets = packets; bytes = bytes } in
    let c : CookieCount = record { cookie = cookie; packets = packets; bytes = bytes } in
    let counted = ap (λ r. with_counts n (removal_counts r c) counts) taken in
    ap (reported (n, cookie) numbers true) counted
    ∙ (last_once (n, cookie) numbers counts ∙ sym (ap (ended_now (n, cookie)) counted))
last_are_counted waiting known n (heards.PortStatus reason port) counts = tt
last_are_counted waiting known n (heards.Flows xid more entries) counts = tt
last_are_counted waiting known n (heards.Ports xid more ports) counts = tt
last_are_counted waiting known n (heards.BarrierReply xid) counts = tt
