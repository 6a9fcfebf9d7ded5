-- The numbers of the standard, each said here alone (sections 5.2.1, 5.2.4 and 5.4.1); the code's constants meet them.
use Rattle.std.specs.Prelude.{ℕ}

-- the numbers of ports are below this
abbrev pub MAX : ℕ
MAX = 0xff00

-- the port by which the packet came
abbrev pub IN_PORT : ℕ
IN_PORT = 0xfff8

-- the flow table, in a PACKET_OUT
abbrev pub TABLE : ℕ
TABLE = 0xfff9

-- the rest of the policy
abbrev pub NORMAL : ℕ
NORMAL = 0xfffa

-- each port but the one by which the packet came
abbrev pub FLOOD : ℕ
FLOOD = 0xfffb

-- the same
abbrev pub ALL : ℕ
ALL = 0xfffc

-- the controller
abbrev pub CONTROLLER : ℕ
CONTROLLER = 0xfffd

-- the switch itself
abbrev pub LOCAL : ℕ
LOCAL = 0xfffe

-- no port
abbrev pub NONE : ℕ
NONE = 0xffff

-- the type of the actions of vendors
abbrev pub VENDOR : ℕ
VENDOR = 0xffff

-- the reason of a PACKET_IN for a packet that no entry holds
abbrev pub NO_MATCH : ℕ
NO_MATCH = 0

-- the reason of a PACKET_IN that an action makes
abbrev pub ACTION : ℕ
ACTION = 1
