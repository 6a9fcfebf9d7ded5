-- The bytes that stand for a request and for a reply (section 5.3.5 of the OpenFlow Switch
-- Specification 1.0.0).
use Rattle.std.specs.Prelude.{◌≡◌, ◌<◌, ◌^◌, ◌+◌, ◌%◌, ◌==◌, ℕ, Bool, true, false, List, [], ◌∷◌, ◌++◌, length}
use Rattle.std.specs.Prelude.{replicate}
use Rattle.std.specs.List.{flat_map}
use Rattle.byteorder.specs.Endian.{big_bytes}
use Rattle.of10_frames.specs.Wire.{header_bytes}
use Rattle.of10_msgs.specs.Spelling.{clear_match}
use Rattle.of10_stats.specs.Kinds.{number_of, reply_kind, request_kind}
use Rattle.of10_stats.specs.declared.reply.FlowStat.{FlowStat}
use Rattle.of10_stats.specs.declared.reply.PortStat.{PortStat}
use Rattle.of10_stats.specs.declared.reply.ReplyBody.{ReplyBody}
use Rattle.of10_stats.specs.declared.reply.ReplyBody.TheVariants as bodies
use Rattle.of10_stats.specs.declared.reply.StatsReply.{StatsReply}
use Rattle.of10_stats.specs.declared.request.StatsRequest.{StatsRequest}
use Rattle.of10_stats.specs.declared.request.StatsRequest.TheVariants.{Desc, Flow, Aggregate, Table, Port}

-- ---- requests

-- what follows the flags, with these bytes of the match and of the padding
abbrev pub request_with : StatsRequest → List ℕ → List ℕ → List ℕ
request_with Desc bytes pad = []
request_with (Flow m table_id out_port) bytes pad = bytes ++ (table_id ∷ (pad ++ big_bytes 2 out_port))
request_with (Aggregate m table_id out_port) bytes pad = bytes ++ (table_id ∷ (pad ++ big_bytes 2 out_port))
request_with Table bytes pad = []
request_with (Port port_no) bytes pad = big_bytes 2 port_no ++ pad

-- how many bytes of padding a request has, that of a match left out
abbrev pub request_padding : StatsRequest → ℕ
request_padding (Flow m table_id out_port) = 1
request_padding (Aggregate m table_id out_port) = 1
request_padding (Port port_no) = 6
request_padding _ = 0

-- the match of a request, or no bytes
abbrev pub request_match : StatsRequest → List ℕ
request_match (Flow m table_id out_port) = m
request_match (Aggregate m table_id out_port) = m
request_match _ = []

-- type and flags
abbrev pub start : ℕ → ℕ → List ℕ
start number flags = big_bytes 2 number ++ big_bytes 2 flags

-- a request from its type on, as it is written
abbrev pub request_bytes : StatsRequest → List ℕ
request_bytes r = start (number_of (request_kind r)) 0 ++ request_with r (request_match r)
    (replicate (request_padding r) 0)

-- the message of a request: its type is 16
abbrev pub request_message : ℕ → StatsRequest → List ℕ
request_message xid r = header_bytes 16 (8 + length (request_bytes r)) xid ++ request_bytes r

-- the bytes stand for the request, whatever is free in them
pub record SpellsRequest (r : StatsRequest) (bytes : List ℕ) : Type 0 where
  pub flags : ℕ
  pub m : List ℕ
  pub pad : List ℕ
  pub flags_fit : flags < 2 ^ 16
  pub matched : clear_match m ≡ request_match r
  pub pad_fits : length pad ≡ request_padding r
  pub whole : bytes ≡ start (number_of (request_kind r)) flags ++ request_with r m pad

-- ---- entries and ports of replies

-- how many bytes an entry takes, of which its match has 40
abbrev pub entry_size : FlowStat → ℕ
entry_size e = 48 + length e.m + length e.actions

-- an entry, with these bytes of the match and of the padding: one behind the table, six behind the timeouts
unfoldable pub entry_with : FlowStat → List ℕ → ℕ → List ℕ → List ℕ
entry_with e m pad pads =
    big_bytes 2 (entry_size e)
    ++ (e.table_id
    ∷ (pad
    ∷ (m ++ (big_bytes 4 e.duration_sec
    ++ (big_bytes 4 e.duration_nsec
    ++ (big_bytes 2 e.priority
    ++ (big_bytes 2 e.idle
    ++ (big_bytes 2 e.hard
    ++ (pads ++ (big_bytes 8 e.cookie ++ (big_bytes 8 e.packets ++ (big_bytes 8 e.bytes ++ e.actions))))))))))))

-- an entry as it is written
abbrev pub entry_bytes : FlowStat → List ℕ
entry_bytes e = entry_with e e.m 0 (replicate 6 0)

pub record SpellsEntry (e : FlowStat) (bytes : List ℕ) : Type 0 where
  pub m : List ℕ
  pub pad : ℕ
  pub pads : List ℕ
  pub matched : clear_match m ≡ e.m
  pub pads_fit : length pads ≡ 6
  pub whole : bytes ≡ entry_with e m pad pads

-- a port takes 104 bytes
abbrev pub port_size : PortStat → ℕ
port_size p = 104

-- a port, with these bytes of padding
unfoldable pub port_with : PortStat → List ℕ → List ℕ
port_with p pad =
    big_bytes 2 p.port_no
    ++ (pad
    ++ (big_bytes 8 p.rx_packets
    ++ (big_bytes 8 p.tx_packets
    ++ (big_bytes 8 p.rx_bytes
    ++ (big_bytes 8 p.tx_bytes
    ++ (big_bytes 8 p.rx_dropped
    ++ (big_bytes 8 p.tx_dropped
    ++ (big_bytes 8 p.rx_errors
    ++ (big_bytes 8 p.tx_errors
    ++ (big_bytes 8 p.rx_frame_err
    ++ (big_bytes 8 p.rx_over_err ++ (big_bytes 8 p.rx_crc_err ++ big_bytes 8 p.collisions))))))))))))

-- a port as it is written
abbrev pub port_bytes : PortStat → List ℕ
port_bytes p = port_with p (replicate 6 0)

pub record SpellsPort (p : PortStat) (bytes : List ℕ) : Type 0 where
  pub pad : List ℕ
  pub pad_fits : length pad ≡ 6
  pub whole : bytes ≡ port_with p pad

-- the bytes stand for the items of a list, one after the other
abbrev pub SpellsEach : {A : Type 0} → (A → List ℕ → Type 0) → List A → List ℕ → Type 0
SpellsEach S [] bytes = bytes ≡ []
SpellsEach S (item ∷ items) bytes =
    (front : List ℕ) × (back : List ℕ) × (bytes ≡ front ++ back) × S item front × SpellsEach S items back

-- ---- replies

-- texts, one after the other
abbrev pub joined : List (List ℕ) → List ℕ
joined texts = flat_map (λ text. text) texts

-- what follows the flags; where there is padding outside entries and ports, it is this
abbrev pub body_with : ReplyBody → List ℕ → List ℕ
body_with (bodies.Desc texts) pad = joined texts
body_with (bodies.Flow entries) pad = flat_map entry_bytes entries
body_with (bodies.Aggregate packets bytes flows) pad =
    big_bytes 8 packets ++ (big_bytes 8 bytes ++ (big_bytes 4 flows ++ pad))
body_with (bodies.Table table_id name wildcards max_entries active lookup matched) pad =
    table_id
    ∷ (pad
    ++ (name
    ++ (big_bytes 4 wildcards
    ++ (big_bytes 4 max_entries ++ (big_bytes 4 active ++ (big_bytes 8 lookup ++ big_bytes 8 matched))))))
body_with (bodies.Port ports) pad = flat_map port_bytes ports

-- how many bytes of padding a reply has, that in entries and ports left out
abbrev pub reply_padding : ReplyBody → ℕ
reply_padding (bodies.Aggregate packets bytes flows) = 4
reply_padding (bodies.Table table_id name wildcards max_entries active lookup matched) = 3
reply_padding _ = 0

-- what follows the flags of a reply that is written
abbrev pub body_bytes : ReplyBody → List ℕ
body_bytes body = body_with body (replicate (reply_padding body) 0)

-- the bytes stand for what a reply tells, whatever is free in them
abbrev pub SpellsBody : ReplyBody → List ℕ → Type 0
SpellsBody (bodies.Flow entries) bytes = SpellsEach SpellsEntry entries bytes
SpellsBody (bodies.Port ports) bytes = SpellsEach SpellsPort ports bytes
SpellsBody body bytes = (pad : List ℕ) × (length pad ≡ reply_padding body) × (bytes ≡ body_with body pad)

-- the flags as they are written
abbrev pub more_flag : Bool → ℕ
more_flag true = 1
more_flag false = 0

-- a reply from its type on, as it is written
abbrev pub reply_bytes : StatsReply → List ℕ
reply_bytes r = start (number_of (reply_kind r.body)) (more_flag r.more) ++ body_bytes r.body

-- the message of a reply: its type is 17
abbrev pub reply_message : ℕ → StatsReply → List ℕ
reply_message xid r = header_bytes 17 (8 + length (reply_bytes r)) xid ++ reply_bytes r

-- the bytes stand for the reply, whatever is free in them: the lowest bit of the flags is MORE
pub record SpellsReply (r : StatsReply) (bytes : List ℕ) : Type 0 where
  pub flags : ℕ
  pub rest : List ℕ
  pub flags_fit : flags < 2 ^ 16
  pub more : (flags % 2 == 1) ≡ r.more
  pub body : SpellsBody r.body rest
  pub whole : bytes ≡ start (number_of (reply_kind r.body)) flags ++ rest
