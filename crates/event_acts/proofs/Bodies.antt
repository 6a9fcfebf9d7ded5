-- What the lengths of messages say of their bytes.
use Rattle.std.proofs.Common.{◌≡◌, ℕ, ◌+◌, ◌<◌, ◌≤◌, ◌^◌, List, length, refl, arith}
use Rattle.std.proofs.lemmas.Bool.{leb-true}
use Rattle.of10_msgs.specs.Ranges.{CanWrite}
use Rattle.of10_msgs.specs.Spelling.{body_bytes}
use Rattle.of10_msgs.specs.declared.message.Body.TheVariants.{EchoRequest, PacketIn, StatsReply}

reply_bytes : (body : List ℕ) → body_bytes (StatsReply body) ≡ body
unfolding body_bytes
reply_bytes body = refl

echo_bytes : (bytes : List ℕ) → body_bytes (EchoRequest bytes) ≡ bytes
unfolding body_bytes
echo_bytes bytes = refl

packet_bytes : (buffer_id total_len in_port reason : ℕ) (bytes : List ℕ)
    → length (body_bytes (PacketIn buffer_id total_len in_port reason bytes)) ≡ 10 + length bytes
unfolding body_bytes
packet_bytes buffer_id total_len in_port reason bytes = omega arith

-- an answer to a poll has its type and its flags, and is shorter than a message
pub room : (body : List ℕ) → CanWrite (StatsReply body) → 4 ≤ length body
room body h =
    let bound : 12 ≤ 8 + length (body_bytes (StatsReply body)) =
    leb-true 12 (8 + length (body_bytes (StatsReply body))) h.long in
    grind (arith, bound, reply_bytes body)

pub fits : (body : List ℕ) → CanWrite (StatsReply body) → length body < 2 ^ 32
fits body h =
    let bound : 8 + length (body_bytes (StatsReply body)) < 2 ^ 16 = h.fits in grind (arith, bound, reply_bytes body)

-- what is to be echoed fits a message
pub echo_fits : (bytes : List ℕ) → CanWrite (EchoRequest bytes) → 8 + length bytes < 2 ^ 16
echo_fits bytes h =
    let bound : 8 + length (body_bytes (EchoRequest bytes)) < 2 ^ 16 = h.fits in
    grind (arith, bound, echo_bytes bytes)

-- and so does a packet that came
pub packet_fits : (buffer_id total_len in_port reason : ℕ) (bytes : List ℕ)
    → CanWrite (PacketIn buffer_id total_len in_port reason bytes) → 18 + length bytes < 2 ^ 16
packet_fits buffer_id total_len in_port reason bytes h =
    let bound : 8 + length (body_bytes (PacketIn buffer_id total_len in_port reason bytes)) < 2 ^ 16 = h.fits in
    omega (arith, bound, packet_bytes buffer_id total_len in_port reason bytes)

-- what the length of a message says of its bytes
pub ruleset lengths = (room, fits, echo_fits, packet_fits)
