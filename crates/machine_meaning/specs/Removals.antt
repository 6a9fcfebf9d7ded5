-- A switch reports the removal of an entry, or a change of a port.
use Rattle.std.specs.Prelude.{ℕ, true}
use Rattle.of10_msgs.specs.declared.message.PhyPort.{PhyPort}
use Rattle.script_text.specs.declared.audit.DownCause.TheVariants as causes
use Rattle.stats_map.specs.Counting.{reported}
use Rattle.switch_meaning.specs.Counts.{Numbers}
use Rattle.switch_state.specs.Reports.{flow_removed, port_status, removal}
use Rattle.switch_state.specs.declared.removal.Removal.{Removal}
use Rattle.switch_state.specs.declared.removal.Removal.TheVariants.{Ignored, Strange, Taken}
use Rattle.machine_meaning.specs.Barriers.{with_known}
use Rattle.machine_meaning.specs.Drafts.{Draft}
use Rattle.machine_meaning.specs.Lists.{changed_at}
use Rattle.machine_meaning.specs.Rounds.{end_switch}
use Rattle.machine_meaning.specs.States.{State, SwitchOf}

-- the removal of a cookie is reported, with its last numbers, which are counted already
abbrev pub with_removal : ℕ → ℕ → Numbers → State → State
with_removal n cookie numbers s = record s {
  switches = changed_at n (with_known (flow_removed cookie)) s.switches;
  counts = reported (n, cookie) numbers true s.counts;
}

-- a removal that is taken ends what is counted of its cookie; one of a cookie that wasn't deleted ends the round
abbrev pub removed_by : ℕ → Removal → ℕ → Numbers → Draft → Draft
removed_by n Ignored cookie numbers d = d
removed_by n Taken cookie numbers d = record d { state = with_removal n cookie numbers d.state }
removed_by n Strange cookie numbers d = end_switch n causes.Removal d

-- a FLOW_REMOVED of a switch
abbrev pub removal_reported : ℕ → SwitchOf → ℕ → Numbers → Draft → Draft
removal_reported n x cookie numbers d = removed_by n (removal x.known cookie) cookie numbers d

-- a PORT_STATUS of a switch
abbrev pub port_reported : ℕ → ℕ → PhyPort → Draft → Draft
port_reported n reason port d = record d {
  state = record d.state { switches = changed_at n (with_known (port_status reason port)) d.state.switches };
}
