-- Why a message of a member is denied: the first row that applies.
use Rattle.std.specs.Prelude.{ℕ, Bool, true, false, ◌==◌, ◌||◌, ◌&&◌, not, nat_lt, nat_le, min, max, List, [], ◌∷◌}
use Rattle.std.specs.Prelude.{length, map, take, ◌-◌, sum_by, find, position, Option, Some, None, is_some, option_map}
use Rattle.std.specs.Prelude.{if◌then◌else◌}
use Rattle.std.specs.List.{list_any}
use Rattle.of10_match.specs.Fields.{HeaderOf, MatchOf}
use Rattle.of10_match.specs.Wildcards.{normal_of}
use Rattle.of10_match.specs.declared.header.Prefix.{Prefix}
use Rattle.of10_actions.specs.Kinds.{number_of, type_of}
use Rattle.of10_actions.specs.Numbers.{MAX, IN_PORT, TABLE, NORMAL, FLOOD, ALL, CONTROLLER}
use Rattle.of10_actions.specs.declared.action.Action.{Action}
use Rattle.of10_actions.specs.declared.action.Action.TheVariants as actions
use Rattle.of10_actions.specs.declared.effects.PortView.{PortView}
use Rattle.of10_msgs.specs.Numbers.{NO_BUFFER}
use Rattle.of10_msgs.specs.declared.message.FlowMod.{FlowMod}
use Rattle.of10_msgs.specs.declared.message.PacketOut.{PacketOut}
use Rattle.grants.specs.Denials.{denial_of}
use Rattle.grants.specs.Names.{field_bit, fields, has_bit, kind_bit}
use Rattle.grants.specs.Ports.{in_region, is_one_of, meets_region, sees}
use Rattle.grants.specs.declared.denial.Denial.{Denial}
use Rattle.grants.specs.declared.denial.Detail.{Detail}
use Rattle.grants.specs.declared.denial.Detail.TheVariants.{G1, G2Emerg, G2Kind, G3, G4, G5, G6, G7, G8, G9, G10, G11}
use Rattle.grants.specs.declared.denial.Why.TheVariants as why
use Rattle.grants.specs.declared.field.Field.{Field}
use Rattle.grants.specs.declared.field.Field.TheVariants.{InPort, DlSrc, DlDst, DlVlan, DlVlanPcp, DlType, NwTos}
use Rattle.grants.specs.declared.field.Field.TheVariants.{NwProto, NwSrc, NwDst, TpSrc, TpDst}
use Rattle.grants.specs.declared.grant.Grant.{Grant}
use Rattle.grants.specs.declared.kind.Kind.{Kind}
use Rattle.grants.specs.declared.kind.Kind.TheVariants.{Output, Controller, Pass, Link, SetDlSrc, SetDlDst, SetNwSrc}
use Rattle.grants.specs.declared.kind.Kind.TheVariants.{SetNwDst, SetNwTos, SetTpSrc, SetTpDst}

-- the first row that applies
abbrev pub first_of : List (Option Denial) → Option Denial
first_of [] = None
first_of (None ∷ rows) = first_of rows
first_of (Some denial ∷ rows) = Some denial

-- a row that applies where a test holds
abbrev pub when : Bool → Detail → Option Denial
when true detail = Some (denial_of detail)
when false detail = None

-- a count, which stands still at the greatest number of 32 bits
abbrev pub counted : ℕ → ℕ
counted n = min n 4294967295

-- G1: the command isn't one
abbrev pub command_row : ℕ → Option Denial
command_row command = when (nat_lt 4 command) (G1 command)

-- G2: the entry is for the emergency table
abbrev pub emergency_row : ℕ → Option Denial
emergency_row flags = when (has_bit flags 2) G2Emerg

-- G2: messages that change ports or ask for queues
abbrev pub kind_row : ℕ → Option Denial
kind_row kind = when ((kind == 15) || (kind == 20)) (G2Kind kind)

-- G3: a buffer is named
abbrev pub buffer_row : ℕ → Option Denial
buffer_row buffer = when (not (buffer == NO_BUFFER)) (G3 buffer)

-- a match names a field
abbrev pub names : MatchOf → Field → Bool
names m InPort = is_some m.in_port
names m DlSrc = is_some m.dl_src
names m DlDst = is_some m.dl_dst
names m DlVlan = is_some m.dl_vlan
names m DlVlanPcp = is_some m.dl_vlan_pcp
names m DlType = is_some m.dl_type
names m NwTos = is_some m.nw_tos
names m NwProto = is_some m.nw_proto
names m NwSrc = is_some m.nw_src
names m NwDst = is_some m.nw_dst
names m TpSrc = is_some m.tp_src
names m TpDst = is_some m.tp_dst

-- a prefix is no longer than this
abbrev pub is_within : ℕ → Option Prefix → Bool
is_within most None = true
is_within most (Some p) = nat_le p.len most

-- a field's prefix is no longer than granted
abbrev pub within : Grant → MatchOf → Field → Bool
within g m NwSrc = is_within g.src_max m.nw_src
within g m NwDst = is_within g.dst_max m.nw_dst
within g m _ = true

-- a field is named, and isn't granted or has a longer prefix than granted
abbrev pub is_beyond : Grant → MatchOf → Field → Bool
is_beyond g m field = names m field && not (has_bit g.fields (field_bit field) && within g m field)

-- G4: the first field of the match that isn't granted
abbrev pub field_row : Grant → MatchOf → Option Denial
field_row g m = option_map (λ field. denial_of (G4 (field_bit field))) (find (is_beyond g m) fields)

-- G5: no box of the region meets the match
abbrev pub region_row : Grant → MatchOf → Option Denial
region_row g m = when (not (meets_region g m)) G5

-- G6: the match names a port that isn't visible
abbrev pub in_port_row : Grant → Option ℕ → Option Denial
in_port_row g None = None
in_port_row g (Some port) = when (not (sees g.ports port)) (G6 port)

-- an output to this number is refused, in a FLOW_MOD or else in a PACKET_OUT
abbrev pub is_refused : Bool → Grant → PortView → ℕ → Bool
is_refused in_flow g v port =
    if (port == FLOOD) || (port == CONTROLLER) then false
    else if port == NORMAL then not in_flow
    else if port == TABLE then in_flow
    else if (port == IN_PORT) || (port == ALL) then not (length v.links == 0)
    else not (sees g.ports port)

-- the kind of an output that isn't refused
abbrev pub output_kind : Grant → ℕ → Kind
output_kind g port =
    if port == CONTROLLER then Controller
    else if port == NORMAL then Pass
    else if is_one_of g.ports.links port then Link
    else Output

-- the kind of an action; VLAN sets, STRIP_VLAN and ENQUEUE have none
abbrev pub kind_of : Bool → Grant → PortView → Action → Option Kind
kind_of in_flow g v (actions.Output port max_len) =
    Some (if is_refused in_flow g v port then Output else output_kind g port)
kind_of in_flow g v (actions.SetDlSrc address) = Some SetDlSrc
kind_of in_flow g v (actions.SetDlDst address) = Some SetDlDst
kind_of in_flow g v (actions.SetNwSrc address) = Some SetNwSrc
kind_of in_flow g v (actions.SetNwDst address) = Some SetNwDst
kind_of in_flow g v (actions.SetNwTos tos) = Some SetNwTos
kind_of in_flow g v (actions.SetTpSrc port) = Some SetTpSrc
kind_of in_flow g v (actions.SetTpDst port) = Some SetTpDst
kind_of in_flow g v _ = None

-- the kind is granted
abbrev pub grants : Grant → Option Kind → Bool
grants g None = false
grants g (Some kind) = has_bit g.actions (kind_bit kind)

-- G7: the kind of an action isn't granted
abbrev pub action_row : Bool → Grant → PortView → Action → Option Denial
action_row in_flow g v a = when (not (grants g (kind_of in_flow g v a))) (G7 (number_of (type_of a)))

-- G8: an output is refused
abbrev pub output_row : Bool → Grant → PortView → Action → Option Denial
output_row in_flow g v (actions.Output port max_len) = when (is_refused in_flow g v port) (G8 port)
output_row in_flow g v _ = None

-- an output to this number ends a list: a pass, TABLE, or a link port
abbrev pub ends_at : Grant → ℕ → Bool
ends_at g port = (port == NORMAL) || ((port == TABLE) || is_one_of g.ports.links port)

abbrev pub is_end : Grant → Action → Bool
is_end g (actions.Output port max_len) = ends_at g port
is_end g _ = false

-- G9: an action that ends a list isn't the last
abbrev pub end_row : Grant → List Action → Option Denial
end_row g list = option_map (λ at. denial_of (G9 (counted at))) (position (is_end g) (take (length list - 1) list))

-- how many actions an action counts as: FLOOD and ALL as the visible outside ports, and at least one
abbrev pub weight : Grant → Action → ℕ
weight g (actions.Output port max_len) = if (port == FLOOD) || (port == ALL) then max 1 (length g.ports.outside) else 1
weight g _ = 1

-- G10: more than 64 actions
abbrev pub count_row : Grant → List Action → Option Denial
count_row g list = when (nat_lt 64 (sum_by (weight g) list)) (G10 (counted (sum_by (weight g) list)))

-- G7 to G10: G7 is tried on all actions first
abbrev pub action_rows : Bool → Grant → PortView → List Action → List (Option Denial)
action_rows in_flow g v list =
    first_of (map (action_row in_flow g v) list) ∷ first_of (map (output_row in_flow g v) list) ∷ end_row g list
    ∷ count_row g list ∷ []

-- G4 to G10: what an entry may ask for and do
abbrev pub entry_rows : Grant → PortView → MatchOf → List Action → List (Option Denial)
entry_rows g v m list = field_row g m ∷ region_row g m ∷ in_port_row g m.in_port ∷ first_of (action_rows true g v list)
    ∷ []

-- a DELETE touches the member's own table alone
abbrev pub is_delete : ℕ → Bool
is_delete command = (command == 3) || (command == 4)

-- G1 to G10, of a FLOW_MOD
abbrev pub flow_rows : Grant → PortView → FlowMod → List (Option Denial)
flow_rows g v m =
    command_row m.command ∷ (if is_delete m.command then []
    else emergency_row m.flags ∷ buffer_row m.buffer_id ∷ first_of (entry_rows g v (normal_of m.m) m.actions) ∷ [])

abbrev pub flow_denial : Grant → PortView → FlowMod → Option Denial
flow_denial g v m = first_of (flow_rows g v m)

-- the action is an output to TABLE
abbrev pub is_to_table : Action → Bool
is_to_table (actions.Output port max_len) = port == TABLE
is_to_table _ = false

-- the in_port of a PACKET_OUT isn't visible, or stands for no port where TABLE asks for one
abbrev pub is_port_wrong : Grant → PacketOut → Bool
is_port_wrong g m = if nat_lt m.in_port MAX then not (sees g.ports m.in_port) else list_any is_to_table m.actions

-- G11: packets aren't granted, or the port is wrong, or the header isn't in the region
abbrev pub packet_rows : Grant → PacketOut → HeaderOf → List (Option Denial)
packet_rows g m h =
    when (not g.packet_out) (G11 why.Grant) ∷ when (is_port_wrong g m) (G11 why.Port)
    ∷ when (not (in_region g h)) (G11 why.Region) ∷ []

-- G3 and G7 to G11, of a PACKET_OUT with a header
abbrev pub out_rows : Grant → PortView → PacketOut → HeaderOf → List (Option Denial)
out_rows g v m h = buffer_row m.buffer_id ∷ first_of (action_rows false g v m.actions) ∷ packet_rows g m h

abbrev pub out_denial : Grant → PortView → PacketOut → HeaderOf → Option Denial
out_denial g v m h = first_of (out_rows g v m h)
