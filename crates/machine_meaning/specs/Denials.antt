-- Why a message of a member is refused: the first row that applies, from form to budget.
use Rattle.std.specs.Prelude.{ℕ, List, Option, Some, None, Result, Ok, Err, length}
use Rattle.grants.specs.Denials.{denial_of}
use Rattle.grants.specs.Rows.{kind_row, out_denial}
use Rattle.grants.specs.declared.denial.Denial.{Denial}
use Rattle.grants.specs.declared.denial.Detail.TheVariants.{Form}
use Rattle.grants.specs.declared.grant.Grant.{Grant}
use Rattle.member_state.specs.Denials.{denial as flow_denial}
use Rattle.member_state.specs.States.{MemberStateOf}
use Rattle.of10_actions.specs.declared.effects.PortView.{PortView}
use Rattle.of10_actions.specs.declared.fault.ActionFault.{ActionFault}
use Rattle.of10_actions.specs.declared.fault.ActionFault.TheVariants as actions
use Rattle.of10_msgs.specs.Senders.{reading_of_controller}
use Rattle.of10_msgs.specs.declared.fault.FormFault.{FormFault}
use Rattle.of10_msgs.specs.declared.fault.FormFault.TheVariants as forms
use Rattle.of10_msgs.specs.declared.message.Body.{Body}
use Rattle.of10_msgs.specs.declared.message.Body.TheVariants as bodies
use Rattle.of10_msgs.specs.declared.message.Message.{Message}
use Rattle.of10_stats.specs.Reading.{request_in}
use Rattle.of10_stats.specs.declared.fault.StatsFault.{StatsFault}
use Rattle.of10_stats.specs.declared.fault.StatsFault.TheVariants as statistics
use Rattle.of10_stats.specs.declared.request.StatsRequest.{StatsRequest}
use Rattle.pkt_bytes.specs.Headers.{header_in}

-- form: the ERROR's type and code
abbrev pub form : ℕ → ℕ → Option Denial
form kind code = Some (denial_of (Form kind code))

-- form: a list of actions (section 5.4.4 of the standard, OFPET_BAD_ACTION)
abbrev pub actions_row : ActionFault → Option Denial
actions_row (actions.BadType at) = form 2 0
actions_row (actions.BadLen at) = form 2 1
actions_row (actions.BadArgument at) = form 2 5
actions_row (actions.BadVendor at) = form 2 2
actions_row actions.Memory = None

-- form: a frame (OFPET_BAD_REQUEST)
abbrev pub form_row : FormFault → Option Denial
form_row (forms.BadVersion version) = form 1 0
form_row (forms.BadType kind) = form 1 1
form_row (forms.BadLen kind length) = form 1 6
form_row (forms.Action fault) = actions_row fault
form_row forms.BadVendor = form 1 3
form_row forms.Memory = None

-- form: a request for statistics
abbrev pub statistics_row : Result StatsRequest StatsFault → Option Denial
statistics_row (Ok request) = None
statistics_row (Err (statistics.BadStat kind)) = form 1 2
statistics_row (Err (statistics.BadLen kind length)) = form 1 6
statistics_row (Err statistics.Memory) = None

-- what the rules refuse of a message that is well formed, of a member with this grant at a virtual switch of these
-- ports
abbrev pub body_row : Grant → PortView → MemberStateOf → Body → Option Denial
body_row g v x (bodies.FlowMod m) = flow_denial g v x m
body_row g v x (bodies.PacketOut m) = out_denial g v m (header_in m.in_port m.bytes)
body_row g v x (bodies.PortMod bytes) = kind_row 15
body_row g v x (bodies.QueueGetConfigRequest bytes) = kind_row 20
body_row g v x (bodies.StatsRequest body) = statistics_row (request_in body)
body_row g v x body = None

abbrev pub read_row : Grant → PortView → MemberStateOf → Result Message FormFault → Option Denial
read_row g v x (Ok m) = body_row g v x m.body
read_row g v x (Err fault) = form_row fault

-- why a frame is refused: it hangs on the grant, the ports, the member's own table and levels, and the frame alone
abbrev pub denial : Grant → PortView → MemberStateOf → List ℕ → Option Denial
denial g v x frame = read_row g v x (reading_of_controller frame)
