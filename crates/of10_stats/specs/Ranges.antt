-- The numbers of requests and replies are in their ranges.
use Rattle.std.specs.Prelude.{◌≡◌, ◌<◌, ◌≤◌, ◌^◌, ◌+◌, ℕ, List, [], ◌∷◌, All, false, length, map}
use Rattle.of10_msgs.specs.Ranges.{IsClear}
use Rattle.of10_stats.specs.Spelling.{body_bytes, entry_size, request_match}
use Rattle.of10_stats.specs.declared.reply.FlowStat.{FlowStat}
use Rattle.of10_stats.specs.declared.reply.PortStat.{PortStat}
use Rattle.of10_stats.specs.declared.reply.ReplyBody.{ReplyBody}
use Rattle.of10_stats.specs.declared.reply.ReplyBody.TheVariants as bodies
use Rattle.of10_stats.specs.declared.reply.StatsReply.{StatsReply}
use Rattle.of10_stats.specs.declared.request.StatsRequest.{StatsRequest}
use Rattle.of10_stats.specs.declared.request.StatsRequest.TheVariants.{Flow, Aggregate, Port}

-- the widths of the five texts that describe a switch
abbrev pub widths : List ℕ
widths = 256 ∷ 256 ∷ 256 ∷ 32 ∷ 256 ∷ []

-- ---- what can be written

-- a request's match has zero padding
abbrev pub CanWriteRequest : StatsRequest → Type 0
CanWriteRequest r = IsClear (request_match r)

-- an entry whose match has zero padding, and that fits a message
pub record CanWriteEntry (e : FlowStat) : Type 0 where
  pub clear : IsClear e.m
  pub small : entry_size e ≤ 65523

-- texts are of their widths, each entry fits a message, and every other reply does
abbrev pub CanWriteBody : ReplyBody → Type 0
CanWriteBody (bodies.Desc texts) = map length texts ≡ widths
CanWriteBody (bodies.Flow entries) = All CanWriteEntry entries
CanWriteBody body = 12 + length (body_bytes body) ≤ 65535

-- a reply that is to be written is whole: that it is cut is the writer's work
pub record CanWriteReply (r : StatsReply) : Type 0 where
  pub whole : r.more ≡ false
  pub body : CanWriteBody r.body

-- ---- what is of the types

-- a request's numbers fit their types, and its match has zero padding
abbrev pub IsFilter : List ℕ → ℕ → Type 0
IsFilter m out_port = (length m ≡ 40) × IsClear m × (out_port < 2 ^ 16)

abbrev pub IsRequest : StatsRequest → Type 0
IsRequest (Flow m table_id out_port) = IsFilter m out_port
IsRequest (Aggregate m table_id out_port) = IsFilter m out_port
IsRequest (Port port_no) = port_no < 2 ^ 16
IsRequest _ = Unit {0}

-- an entry's numbers fit their types, and its match has zero padding
pub record IsEntry (e : FlowStat) : Type 0 where
  pub m : length e.m ≡ 40
  pub clear : IsClear e.m
  pub duration_sec : e.duration_sec < 2 ^ 32
  pub duration_nsec : e.duration_nsec < 2 ^ 32
  pub priority : e.priority < 2 ^ 16
  pub idle : e.idle < 2 ^ 16
  pub hard : e.hard < 2 ^ 16
  pub cookie : e.cookie < 2 ^ 64
  pub packets : e.packets < 2 ^ 64
  pub bytes : e.bytes < 2 ^ 64
  pub size : entry_size e < 2 ^ 16

-- a port's numbers fit their types
pub record IsPort (p : PortStat) : Type 0 where
  pub port_no : p.port_no < 2 ^ 16
  pub rx_packets : p.rx_packets < 2 ^ 64
  pub tx_packets : p.tx_packets < 2 ^ 64
  pub rx_bytes : p.rx_bytes < 2 ^ 64
  pub tx_bytes : p.tx_bytes < 2 ^ 64
  pub rx_dropped : p.rx_dropped < 2 ^ 64
  pub tx_dropped : p.tx_dropped < 2 ^ 64
  pub rx_errors : p.rx_errors < 2 ^ 64
  pub tx_errors : p.tx_errors < 2 ^ 64
  pub rx_frame_err : p.rx_frame_err < 2 ^ 64
  pub rx_over_err : p.rx_over_err < 2 ^ 64
  pub rx_crc_err : p.rx_crc_err < 2 ^ 64
  pub collisions : p.collisions < 2 ^ 64

-- what a reply tells is of its type's widths, and its numbers fit their types
abbrev pub IsBody : ReplyBody → Type 0
IsBody (bodies.Desc texts) = map length texts ≡ widths
IsBody (bodies.Flow entries) = All IsEntry entries
IsBody (bodies.Aggregate packets bytes flows) = (packets < 2 ^ 64) × (bytes < 2 ^ 64) × (flows < 2 ^ 32)
IsBody (bodies.Table table_id name wildcards max_entries active lookup matched) =
    (length name ≡ 32) × (wildcards < 2 ^ 32) × (max_entries < 2 ^ 32) × (active < 2 ^ 32) × (lookup < 2 ^ 64)
    × (matched < 2 ^ 64)
IsBody (bodies.Port ports) = All IsPort ports
