-- What a virtual switch says of itself and of its ports.
use Rattle.std.specs.Prelude.{ℕ, Bool, ◌+◌, ◌^◌, ◌||◌, List, map, if◌then◌else◌}
use Rattle.of10_msgs.specs.Numbers.{PORT_MODIFIED}
use Rattle.of10_msgs.specs.declared.message.Body.{Body}
use Rattle.of10_msgs.specs.declared.message.Body.TheVariants.{EchoReply, FeaturesReply, GetConfigReply, PortStatus}
use Rattle.of10_msgs.specs.declared.message.PhyPort.{PhyPort}
use Rattle.grants.specs.Names.{has_bit, kind_bit}
use Rattle.grants.specs.Ports.{is_one_of}
use Rattle.grants.specs.declared.grant.Grant.{Grant}
use Rattle.grants.specs.declared.kind.Kind.{Kind}
use Rattle.grants.specs.declared.kind.Kind.TheVariants.{Output, Controller, Pass, Link, SetDlSrc, SetDlDst, SetNwSrc}
use Rattle.grants.specs.declared.kind.Kind.TheVariants.{SetNwDst, SetNwTos, SetTpSrc, SetTpDst}
use Rattle.member_replies.specs.Ports.{port_of, visible}

-- the kind of action is granted
abbrev pub may : Grant → Kind → Bool
may g kind = has_bit g.actions (kind_bit kind)

-- a kind of output is granted
abbrev pub may_output : Grant → Bool
may_output g = may g Output || (may g Controller || (may g Pass || may g Link))

-- the bit of an action's type, where it is granted
abbrev pub bit_where : Bool → ℕ → ℕ
bit_where granted kind = if granted then 2 ^ kind else 0

-- the actions of a grant, each by its type on the wire: OUTPUT 0, then the seven sets from 4 on
abbrev pub actions_of : Grant → ℕ
actions_of g =
    bit_where (may_output g) 0 +
    (bit_where (may g SetDlSrc) 4 + (bit_where (may g SetDlDst) 5 + (bit_where (may g SetNwSrc) 6
    + (bit_where (may g SetNwDst) 7 +
    (bit_where (may g SetNwTos) 8 + (bit_where (may g SetTpSrc) 9 + bit_where (may g SetTpDst) 10))))))

-- what a virtual switch can do: statistics of flows, tables and ports, and matches of ARP addresses
abbrev pub capabilities : ℕ
capabilities = 0x87

-- a visible port of a virtual switch of which these ports are dark
abbrev pub shown : Grant → ℕ → List ℕ → ℕ → PhyPort
shown g v dark port = port_of v port (is_one_of g.ports.links port) (is_one_of dark port)

-- the FEATURES_REPLY of the virtual switch v to a member: no buffers, one table, and the visible ports, rising
abbrev pub features : ℕ → Grant → ℕ → List ℕ → Body
features dpid g v dark = FeaturesReply dpid 0 1 capabilities (actions_of g) (map (shown g v dark) (visible g.ports))

-- the PORT_STATUS of a port that went dark or light
abbrev pub port_changed : ℕ → ℕ → Bool → Bool → Body
port_changed v port is_link is_dark = PortStatus PORT_MODIFIED (port_of v port is_link is_dark)

-- the GET_CONFIG_REPLY of what SET_CONFIG last gave
abbrev pub config : ℕ → ℕ → Body
config flags miss_send_len = GetConfigReply flags miss_send_len

-- the ECHO_REPLY to a request with these bytes
abbrev pub echo : List ℕ → Body
echo bytes = EchoReply bytes
