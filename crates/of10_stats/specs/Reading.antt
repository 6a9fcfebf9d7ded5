-- Reading a body from its type on: the request or the reply, or the first fault in the order in which
-- faults are looked for.
use Rattle.std.specs.Prelude.{◌≡◌, ℕ, zero, suc, ◌-◌, ◌%◌, Bool, List, [], ◌∷◌, length, take, drop, slice_index, Option}
use Rattle.std.specs.Prelude.{Some, None, option_map, Result, Ok, Err, nat_le, ◌==◌, ◌&&◌, if◌then◌else◌}
use Rattle.of10_actions.specs.Reading.{u16_at, u32_at, u64_at}
use Rattle.of10_msgs.specs.Reading.{match_at, span}
use Rattle.of10_stats.specs.Kinds.{kind_at, request_length}
use Rattle.of10_stats.specs.Ranges.{widths}
use Rattle.of10_stats.specs.Spelling.{entry_size, port_size}
use Rattle.of10_stats.specs.declared.fault.StatsFault.{StatsFault}
use Rattle.of10_stats.specs.declared.fault.StatsFault.TheVariants.{BadStat, BadLen, Memory}
use Rattle.of10_stats.specs.declared.kind.StatsKind.{StatsKind}
use Rattle.of10_stats.specs.declared.kind.StatsKind.TheVariants.{Desc, Flow, Aggregate, Table, Port}
use Rattle.of10_stats.specs.declared.reply.FlowStat.{FlowStat}
use Rattle.of10_stats.specs.declared.reply.PortStat.{PortStat}
use Rattle.of10_stats.specs.declared.reply.ReplyBody.{ReplyBody}
use Rattle.of10_stats.specs.declared.reply.ReplyBody.TheVariants as bodies
use Rattle.of10_stats.specs.declared.reply.StatsReply.{StatsReply}
use Rattle.of10_stats.specs.declared.request.StatsRequest.{StatsRequest}
use Rattle.of10_stats.specs.declared.request.StatsRequest.TheVariants as requests

-- the value, where the test holds
abbrev pub when : {A : Type 0} → Bool → A → Option A
when holds value = if holds then Some value else None

-- ---- requests

-- what follows the flags, as a request of this type
abbrev pub request_of : StatsKind → List ℕ → StatsRequest
request_of Desc rest = requests.Desc
request_of Flow rest = requests.Flow (match_at 0 rest) (slice_index rest 40) (u16_at 42 rest)
request_of Aggregate rest = requests.Aggregate (match_at 0 rest) (slice_index rest 40) (u16_at 42 rest)
request_of Table rest = requests.Table
request_of Port rest = requests.Port (u16_at 0 rest)

-- each type has one length
abbrev pub request_at : StatsKind → List ℕ → Option StatsRequest
request_at kind rest = when (length rest == request_length kind) (request_of kind rest)

-- ---- entries, ports and texts

infixl 10 ◌>>=◌
abbrev pub ◌>>=◌ : {A B : Type 0} → Option A → (A → Option B) → Option B
(Some x) >>= f = f x
None >>= f = None

-- the items of bytes of which the first `skipped` belong to the item before; none where one can't be read
unfoldable pub items_at : {A : Type 0} → (List ℕ → Option A) → (A → ℕ) → ℕ → List ℕ → Option (List A)
items_at read size skipped [] = Some []
items_at read size (suc skipped) (byte ∷ bytes) = items_at read size skipped bytes
items_at read size zero (byte ∷ bytes) = do
  item ← read (byte ∷ bytes)
  items ← items_at read size (size item - 1) bytes
  Some (item ∷ items)

-- the entry at the front of bytes, which has the length that it says
unfoldable pub entry_of : List ℕ → FlowStat
entry_of bytes = record {
  table_id = slice_index bytes 2;
  m = match_at 4 bytes;
  duration_sec = u32_at 44 bytes;
  duration_nsec = u32_at 48 bytes;
  priority = u16_at 52 bytes;
  idle = u16_at 54 bytes;
  hard = u16_at 56 bytes;
  cookie = u64_at 64 bytes;
  packets = u64_at 72 bytes;
  bytes = u64_at 80 bytes;
  actions = span 88 (u16_at 0 bytes - 88) bytes;
}

-- that length is at least 88 and doesn't go past the end
abbrev pub entry_at : List ℕ → Option FlowStat
entry_at bytes = when (nat_le 88 (u16_at 0 bytes) && nat_le (u16_at 0 bytes) (length bytes)) (entry_of bytes)

-- the port at the front of bytes
unfoldable pub port_of : List ℕ → PortStat
port_of bytes = record {
  port_no = u16_at 0 bytes;
  rx_packets = u64_at 8 bytes;
  tx_packets = u64_at 16 bytes;
  rx_bytes = u64_at 24 bytes;
  tx_bytes = u64_at 32 bytes;
  rx_dropped = u64_at 40 bytes;
  tx_dropped = u64_at 48 bytes;
  rx_errors = u64_at 56 bytes;
  tx_errors = u64_at 64 bytes;
  rx_frame_err = u64_at 72 bytes;
  rx_over_err = u64_at 80 bytes;
  rx_crc_err = u64_at 88 bytes;
  collisions = u64_at 96 bytes;
}

abbrev pub port_at : List ℕ → Option PortStat
port_at bytes = when (nat_le 104 (length bytes)) (port_of bytes)

-- texts of these widths, one after the other
unfoldable pub texts_of : List ℕ → List ℕ → List (List ℕ)
texts_of [] bytes = []
texts_of (width ∷ widths) bytes = take width bytes ∷ texts_of widths (drop width bytes)

-- ---- replies

unfoldable pub table_of : List ℕ → ReplyBody
table_of rest = bodies.Table (slice_index rest 0) (span 4 32 rest) (u32_at 36 rest) (u32_at 40 rest) (u32_at 44 rest)
    (u64_at 48 rest) (u64_at 56 rest)

-- what follows the flags, as a reply of this type; none where it hasn't a length of its type
abbrev pub body_at : StatsKind → List ℕ → Option ReplyBody
body_at Desc rest = when (length rest == 1056) (bodies.Desc (texts_of widths rest))
body_at Flow rest = option_map (λ entries. bodies.Flow entries) (items_at entry_at entry_size 0 rest)
body_at Aggregate rest = when (length rest == 24) (bodies.Aggregate (u64_at 0 rest) (u64_at 8 rest) (u32_at 16 rest))
body_at Table rest = when (length rest == 64) (table_of rest)
body_at Port rest = option_map (λ ports. bodies.Port ports) (items_at port_at port_size 0 rest)

-- ---- with their faults

-- what was read of bytes that have a type, or the fault of their length
abbrev pub or_bad_len : {A : Type 0} → List ℕ → Option A → Result A StatsFault
or_bad_len bytes None = Err (BadLen (u16_at 0 bytes) (length bytes - 4))
or_bad_len bytes (Some value) = Ok value

abbrev pub typed_request : Option StatsKind → List ℕ → Result StatsRequest StatsFault
typed_request None bytes = Err (BadStat (u16_at 0 bytes))
typed_request (Some kind) bytes = or_bad_len bytes (request_at kind (drop 4 bytes))

abbrev pub request_in : List ℕ → Result StatsRequest StatsFault
request_in bytes = typed_request (kind_at (u16_at 0 bytes)) bytes

-- the lowest bit of the flags says whether more parts follow
abbrev pub reply_with : List ℕ → ReplyBody → StatsReply
reply_with bytes body = record { more = u16_at 2 bytes % 2 == 1; body = body }

abbrev pub typed_reply : Option StatsKind → List ℕ → Result StatsReply StatsFault
typed_reply None bytes = Err (BadStat (u16_at 0 bytes))
typed_reply (Some kind) bytes = or_bad_len bytes (option_map (reply_with bytes) (body_at kind (drop 4 bytes)))

abbrev pub reply_in : List ℕ → Result StatsReply StatsFault
reply_in bytes = typed_reply (kind_at (u16_at 0 bytes)) bytes

-- what a call answered is what reading gives, unless memory ran out
abbrev pub Gives : {A : Type 0} → Result A StatsFault → Result A StatsFault → Type 0
Gives (Err Memory) read = Unit {0}
Gives answer read = answer ≡ read
