-- A member asks for statistics.
use Rattle.std.specs.Prelude.{ℕ, [], Result, Ok, Err}
use Rattle.member_replies.specs.Filters.{filter_of}
use Rattle.member_replies.specs.Statistics.{description, messages, tables}
use Rattle.of10_stats.specs.declared.fault.StatsFault.{StatsFault}
use Rattle.of10_stats.specs.declared.request.StatsRequest.{StatsRequest}
use Rattle.of10_stats.specs.declared.request.StatsRequest.TheVariants as requests
use Rattle.policies.specs.Policies.{PolicyOf}
use Rattle.machine_meaning.specs.Drafts.{Draft, answering}
use Rattle.machine_meaning.specs.Names.{virtual_dpid, virtual_name}
use Rattle.machine_meaning.specs.Polls.{begin_poll}
use Rattle.machine_meaning.specs.States.{MemberOf}
use Rattle.waitings.specs.declared.state.Asker.{Asker}
use Rattle.waitings.specs.declared.state.Purpose.TheVariants.{Aggregate, Flow, Port}

-- who asks
abbrev pub asker : ℕ → ℕ → Asker
asker n xid = record { member = n; xid = xid }

-- DESC and TABLE are answered at once; for all else the virtual switch is polled
abbrev pub asked : PolicyOf → ℕ → ℕ → MemberOf → ℕ → StatsRequest → Draft → Draft
asked p n v x xid requests.Desc d = answering n (messages xid (description (virtual_dpid p v) (virtual_name p v))) d
asked p n v x xid requests.Table d = answering n (messages xid (tables x.kept.table.limit x.kept.table.entries)) d
asked p n v x xid (requests.Flow m table_id out_port) d =
    begin_poll p v (Flow (asker n xid) (filter_of m table_id out_port)) d
asked p n v x xid (requests.Aggregate m table_id out_port) d =
    begin_poll p v (Aggregate (asker n xid) (filter_of m table_id out_port)) d
asked p n v x xid (requests.Port port_no) d = begin_poll p v (Port (asker n xid) port_no []) d

-- a request that can't be read is refused before
abbrev pub statistics : PolicyOf → ℕ → ℕ → MemberOf → ℕ → Result StatsRequest StatsFault → Draft → Draft
statistics p n v x xid (Ok request) d = asked p n v x xid request d
statistics p n v x xid (Err fault) d = d
