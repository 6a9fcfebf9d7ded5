-- What waits for nothing any more settles, in the order in which it began.
use Rattle.std.specs.Prelude.{ℕ, nat_lt, not, List, [], ◌∷◌, ◌++◌, Option, Some, None, filter, find, fold}
use Rattle.std.specs.Prelude.{if◌then◌else◌, map, slice_get}
use Rattle.member_replies.specs.Statistics.{aggregate, flows, messages, ports}
use Rattle.member_replies.specs.declared.filter.Filter.{Filter}
use Rattle.member_state.specs.Changes.{touched, without}
use Rattle.member_table.specs.Entries.{has_serial}
use Rattle.member_table.specs.declared.entry.Entry.{Entry}
use Rattle.of10_msgs.specs.declared.message.Body.TheVariants.{BarrierReply}
use Rattle.of10_stats.specs.declared.reply.PortStat.{PortStat}
use Rattle.policies.specs.Policies.{PolicyOf}
use Rattle.policies.specs.declared.policy.MemberItem.{MemberItem}
use Rattle.machine_meaning.specs.Counted.{count_of}
use Rattle.machine_meaning.specs.Drafts.{Draft, letter, message}
use Rattle.machine_meaning.specs.Lists.{changed_at}
use Rattle.machine_meaning.specs.Removing.{owing, with_kept}
use Rattle.machine_meaning.specs.States.{MemberOf, State}
use Rattle.waitings.specs.Waitings.{is_done}
use Rattle.waitings.specs.declared.state.Asker.{Asker}
use Rattle.waitings.specs.declared.state.Doubt.{Doubt}
use Rattle.waitings.specs.declared.state.Purpose.{Purpose}
use Rattle.waitings.specs.declared.state.Purpose.TheVariants.{Flow, Aggregate, Port, Idle, Barrier}
use Rattle.waitings.specs.declared.state.Waiting.{Waiting}

-- replies -----------------------------------------------------------------------------------------------------------

-- the entries of a member
abbrev pub entries_at : Option MemberOf → List Entry
entries_at None = []
entries_at (Some x) = x.kept.table.entries

-- FLOW: the entries of the moment, with their counts
abbrev pub flow_replies : State → Asker → Filter → List (List ℕ)
flow_replies s a f = messages a.xid (flows s.moment (count_of s a.member) f (entries_at (slice_get s.members a.member)))

-- AGGREGATE
abbrev pub aggregate_replies : State → Asker → Filter → List (List ℕ)
aggregate_replies s a f = messages a.xid (aggregate (count_of s a.member) f (entries_at (slice_get s.members a.member)))

-- PORT: the ports that the member sees
abbrev pub port_replies : Option MemberItem → Asker → ℕ → List PortStat → List (List ℕ)
port_replies None a port_no told = []
port_replies (Some m) a port_no told = messages a.xid (ports port_no m.grant.ports told)

-- a member is answered
abbrev pub settled_with : Asker → List (List ℕ) → Draft → Draft
settled_with a replies d = record d { settled = d.settled ++ map (letter a.member) replies }

-- doubts ------------------------------------------------------------------------------------------------------------

-- the count of an entry rose: it hasn't idled at this moment
abbrev pub with_risen : Doubt → State → State
with_risen doubt s =
    record s { members = changed_at doubt.member (with_kept (touched doubt.serial s.moment)) s.members }

-- it didn't: the entry is removed, with the reason IDLE_TIMEOUT
abbrev pub without_idle : Doubt → Entry → State → State
without_idle doubt e s = record s {
  members = changed_at doubt.member (with_kept (without doubt.serial)) s.members;
  owed = s.owed ++ owing doubt.member 0 s.moment (e ∷ []);
}

-- an entry that went meanwhile has no doubt any more
abbrev pub decided_on : Option Entry → Doubt → State → State
decided_on None doubt s = s
decided_on (Some e) doubt s =
    if nat_lt doubt.packets (count_of s doubt.member doubt.serial).packets then with_risen doubt s
    else without_idle doubt e s

abbrev pub decided : State → Doubt → State
decided s doubt = decided_on (find (has_serial doubt.serial) (entries_at (slice_get s.members doubt.member))) doubt s

-- the doubts of a poll are worked off in their order
abbrev pub all_decided : List Doubt → Draft → Draft
all_decided doubts d = record d { state = fold decided d.state doubts }

-- what settles ------------------------------------------------------------------------------------------------------

-- what is done for a purpose that waits for nothing any more
abbrev pub settle_for : PolicyOf → Purpose → Draft → Draft
settle_for p (Flow asker f) d = settled_with asker (flow_replies d.state asker f) d
settle_for p (Aggregate asker f) d = settled_with asker (aggregate_replies d.state asker f) d
settle_for p (Port asker port_no told) d =
    settled_with asker (port_replies (slice_get p.members asker.member) asker port_no told) d
settle_for p (Idle doubts) d = all_decided doubts d
settle_for p (Barrier asker) d = settled_with asker (message asker.xid BarrierReply ∷ []) d

abbrev pub settle_one : PolicyOf → Draft → Waiting → Draft
settle_one p d w = settle_for p w.purpose d

-- what still waits
abbrev pub with_undone : Draft → Draft
with_undone d =
    record d { state = record d.state { waiting = filter (λ (w : Waiting). not (is_done w)) d.state.waiting } }

-- what is done settles, one after the other, and waits no more
abbrev pub settle : PolicyOf → Draft → Draft
settle p d = fold (settle_one p) (with_undone d) (filter is_done d.state.waiting)
