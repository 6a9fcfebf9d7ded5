-- The numbers of the standard, each said here alone (sections 5.2.1, 5.3.3 and 5.4); the code's constants meet them.
use Rattle.std.specs.Prelude.{ℕ}

-- a FLOW_MOD's flag for a FLOW_REMOVED once its entry is gone
abbrev pub SEND_FLOW_REM : ℕ
SEND_FLOW_REM = 1

-- a FLOW_MOD's flag for a test of overlaps
abbrev pub CHECK_OVERLAP : ℕ
CHECK_OVERLAP = 2

-- a FLOW_MOD's flag for an entry of the emergency table
abbrev pub EMERG : ℕ
EMERG = 4

-- the buffer_id of a packet that is not in a buffer
abbrev pub NO_BUFFER : ℕ
NO_BUFFER = 0xffffffff

-- the reasons of a FLOW_REMOVED
abbrev pub IDLE_TIMEOUT : ℕ
IDLE_TIMEOUT = 0

abbrev pub HARD_TIMEOUT : ℕ
HARD_TIMEOUT = 1

abbrev pub REMOVED : ℕ
REMOVED = 2

-- the reasons of a PORT_STATUS
abbrev pub PORT_ADDED : ℕ
PORT_ADDED = 0

abbrev pub PORT_DELETED : ℕ
PORT_DELETED = 1

abbrev pub PORT_MODIFIED : ℕ
PORT_MODIFIED = 2
