-- Statistics of a virtual switch, as a member sees it.
use Rattle.std.specs.Prelude.{ℕ, ◌^◌, ◌-◌, ◌≤◌, ◌==◌, ◌||◌, Bool, List, [], ◌∷◌, codes, filter, fold, length, map, min}
use Rattle.std.specs.Prelude.{sum_by, if◌then◌else◌}
use Rattle.std.specs.List.{AllByRecursion}
use Rattle.byteorder.specs.Endian.{big_bytes}
use Rattle.hex.specs.Hex.{encode_lower}
use Rattle.of10_actions.specs.Numbers.{NONE}
use Rattle.of10_actions.specs.Spelling.{spellings}
use Rattle.of10_actions.specs.declared.effects.PortView.{PortView}
use Rattle.of10_stats.specs.Parts.{replies_of}
use Rattle.of10_stats.specs.Spelling.{reply_message}
use Rattle.of10_stats.specs.declared.reply.FlowStat.{FlowStat}
use Rattle.of10_stats.specs.declared.reply.PortStat.{PortStat}
use Rattle.of10_stats.specs.declared.reply.ReplyBody.{ReplyBody}
use Rattle.of10_stats.specs.declared.reply.ReplyBody.TheVariants.{Aggregate, Desc, Flow, Port, Table}
use Rattle.switch_meaning.specs.Counts.{Numbers, capped}
use Rattle.member_table.specs.declared.entry.Entry.{Entry}
use Rattle.member_replies.specs.Filters.{listed}
use Rattle.member_replies.specs.Packets.{seconds_of, written_match}
use Rattle.member_replies.specs.Ports.{filled, visible}
use Rattle.member_replies.specs.declared.filter.Filter.{Filter}

-- the messages that a reply goes out as
abbrev pub messages : ℕ → ReplyBody → List (List ℕ)
messages xid body = map (reply_message xid) (replies_of body)

-- what a virtual switch is, with its datapath id in 16 hexadecimal digits, and its name
abbrev pub texts_of : ℕ → List ℕ → List (List ℕ)
texts_of dpid name =
    filled 256 (codes "CoVisor") ∷ filled 256 (codes "virtual switch") ∷ filled 256 (codes "of10 profile 1")
    ∷ filled 32 (encode_lower (big_bytes 8 dpid)) ∷ filled 256 name ∷ []

-- DESC: these texts
abbrev pub description : ℕ → List ℕ → ReplyBody
description dpid name = Desc (texts_of dpid name)

-- each list of actions is short
abbrev pub AreShort : List Entry → Type 0
AreShort es = AllByRecursion (λ e. length e.actions ≤ 64) es

-- an entry at a moment, with its count
abbrev pub flow_stat : ℕ → Numbers → Entry → FlowStat
flow_stat moment count e = record {
  table_id = 0;
  m = written_match e;
  duration_sec = seconds_of e moment;
  duration_nsec = 0;
  priority = e.priority;
  idle = e.idle;
  hard = e.hard;
  cookie = e.cookie;
  packets = count.packets;
  bytes = count.bytes;
  actions = spellings e.actions;
}

-- FLOW: the entries that are asked for, each with the count of its serial number
abbrev pub flows : ℕ → (ℕ → Numbers) → Filter → List Entry → ReplyBody
flows moment count f es = Flow (map (λ e. flow_stat moment (count e.serial) e) (listed f es))

-- a count of entries, which stands still at the greatest number of 32 bits
abbrev pub how_many : List Entry → ℕ
how_many es = min (length es) 4294967295

-- AGGREGATE: the sums of their counts, and how many there are
abbrev pub aggregate : (ℕ → Numbers) → Filter → List Entry → ReplyBody
aggregate count f es =
    Aggregate (capped (sum_by (λ e. (count e.serial).packets) (listed f es)))
    (capped (sum_by (λ e. (count e.serial).bytes) (listed f es))) (how_many (listed f es))

-- TABLE: the one table, how many entries it may have and has; all fields are wildcards
abbrev pub tables : ℕ → List Entry → ReplyBody
tables limit es = Table 0 (filled 32 (codes "covisor")) 0x003fffff limit (how_many es) 0 0

-- a port of which nothing is known: all ones
abbrev pub unknown : ℕ → PortStat
unknown port = record {
  port_no = port;
  rx_packets = 2 ^ 64 - 1;
  tx_packets = 2 ^ 64 - 1;
  rx_bytes = 2 ^ 64 - 1;
  tx_bytes = 2 ^ 64 - 1;
  rx_dropped = 2 ^ 64 - 1;
  tx_dropped = 2 ^ 64 - 1;
  rx_errors = 2 ^ 64 - 1;
  tx_errors = 2 ^ 64 - 1;
  rx_frame_err = 2 ^ 64 - 1;
  rx_over_err = 2 ^ 64 - 1;
  rx_crc_err = 2 ^ 64 - 1;
  collisions = 2 ^ 64 - 1;
}

-- what is told of a port, where it is this one's, and else what was known
abbrev pub later : ℕ → PortStat → PortStat → PortStat
later port known s = if s.port_no == port then s else known

-- what was told last of a port
abbrev pub told_of : List PortStat → ℕ → PortStat
told_of told port = fold (later port) (unknown port) told

-- a port is asked for, or each
abbrev pub is_asked : ℕ → ℕ → Bool
is_asked number port = (number == NONE) || (port == number)

-- PORT: the visible ports that are asked for, rising, with what was told of each by its number at the virtual switch
abbrev pub ports : ℕ → PortView → List PortStat → ReplyBody
ports number view told = Port (map (told_of told) (filter (is_asked number) (visible view)))
