-- A switch answers a poll, in parts.
use Rattle.std.specs.Prelude.{ℕ, Bool, List}
use Rattle.of10_stats.specs.declared.reply.PortStat.{PortStat}
use Rattle.of10_stats.specs.declared.reply.ReplyBody.{ReplyBody}
use Rattle.of10_stats.specs.declared.reply.ReplyBody.TheVariants as replies
use Rattle.policies.specs.Policies.{PolicyOf, plan}
use Rattle.machine_meaning.specs.Drafts.{Draft}
use Rattle.waitings.specs.Lists.{changed_first}
use Rattle.waitings.specs.Ports.{taking_ports}
use Rattle.machine_meaning.specs.States.{State}
use Rattle.waitings.specs.Waitings.{unless_more, waits_for_flows, waits_for_ports}

-- the oldest poll of entries that waits for the part takes it; its numbers are counted already
abbrev pub with_flows : ℕ → ℕ → Bool → State → State
with_flows n xid more s =
    record s { waiting = changed_first (waits_for_flows n xid) (unless_more more n xid) s.waiting }

-- the oldest poll of ports that waits for the part takes it
abbrev pub with_ports : PolicyOf → ℕ → ℕ → Bool → List PortStat → State → State
with_ports p n xid more stats s =
    record s { waiting = changed_first (waits_for_ports n xid) (taking_ports (plan p) n xid more stats) s.waiting }

-- a part that no poll waits for is ignored
abbrev pub with_part : PolicyOf → ℕ → ℕ → Bool → ReplyBody → State → State
with_part p n xid more (replies.Flow entries) s = with_flows n xid more s
with_part p n xid more (replies.Port stats) s = with_ports p n xid more stats s
with_part p n xid more body s = s

abbrev pub part_told : PolicyOf → ℕ → ℕ → Bool → ReplyBody → Draft → Draft
part_told p n xid more body d = record d { state = with_part p n xid more body d.state }
