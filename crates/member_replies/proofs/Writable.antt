-- What members are sent can be written.
use Rattle.std.proofs.Common.{◌≡◌, ℕ, ◌+◌, ◌-◌, ◌*◌, ◌%◌, ◌<◌, ◌≤◌, ◌^◌, Bool, true, false, List, [], ◌∷◌, ◌++◌, All}
use Rattle.std.proofs.Common.{length, map, replicate, ap, refl, sym, ◌∙◌, arith}
use Rattle.std.specs.Prelude.{◌==◌, ◌&&◌, nat_le}
use Rattle.std.specs.List.{flat_map}
use Rattle.std.proofs.lemmas.Bool.{le-leb}
use Rattle.std.proofs.lemmas.List.{length-append}
use Rattle.std.proofs.Math.Nat.{mul-mod_right}
use Rattle.byteorder.specs.Endian.{big_bytes}
use Rattle.of10_msgs.specs.Bodies.{kind_of}
use Rattle.of10_msgs.specs.Kinds.{is_among, lengths_of}
use Rattle.of10_msgs.specs.Ranges.{CanWrite, HasAddress, IsInRange}
use Rattle.of10_msgs.specs.Spelling.{body_bytes, body_with, clear_match, port_bytes, written}
use Rattle.of10_msgs.specs.declared.message.Body.{Body}
use Rattle.of10_msgs.specs.declared.message.Body.TheVariants.{BarrierReply}
use Rattle.grants.specs.declared.grant.Grant.{Grant}
use Rattle.switch_meaning.specs.Counts.{Numbers}
use Rattle.member_table.specs.declared.entry.Entry.{Entry}
use Rattle.member_replies.specs.Packets.{flow_removed, packet_in, seconds_of, written_match}
use Rattle.member_replies.specs.Ports.{HasFewPorts, port_of, visible}
use Rattle.member_replies.specs.Switches.{config, echo, features, port_changed, shown}
use Rattle.member_replies.proofs.PortLists.{length_port_of, length_shown, length_visible}
use Rattle.member_replies.proofs.Replies.{clear_written}

-- what is written is the body with zeros in its padding
spelled : (b : Body) → body_bytes b ≡ body_with b (written b)
unfolding body_bytes
spelled b = refl

size_is : (b : Body) (n : ℕ) → length (body_with b (written b)) ≡ n → length (body_bytes b) ≡ n
size_is b n e = ap length (spelled b) ∙ e

-- a body of which the length is known
writable : (b : Body) (n : ℕ) → length (body_bytes b) ≡ n → is_among (lengths_of (kind_of b)) (8 + n) ≡ true
    → 8 + n < 2 ^ 16
    → IsInRange b → CanWrite b
writable b n size long fits in_range = record {
  long = ap (λ k. is_among (lengths_of (kind_of b)) (8 + k)) size ∙ long;
  fits = omega (arith, size, fits);
  in_range = in_range;
}

pub config_writable : (flags miss_send_len : ℕ) → CanWrite (config flags miss_send_len)
config_writable flags miss_send_len = writable (config flags miss_send_len) 4 (size_is _ 4 refl) refl (omega arith) tt

pub barrier_writable : CanWrite BarrierReply
barrier_writable = writable BarrierReply 0 (size_is _ 0 refl) refl (omega arith) tt

pub echo_writable : (bytes : List ℕ) → 8 + length bytes < 2 ^ 16 → CanWrite (echo bytes)
echo_writable bytes fits = writable (echo bytes) (length bytes) (size_is _ _ refl)
    (le-leb 8 (8 + length bytes) (omega arith)) fits tt

pub packet_writable : (total_len in_port reason : ℕ) (bytes : List ℕ) → 18 + length bytes < 2 ^ 16
    → CanWrite (packet_in total_len in_port reason bytes)
packet_writable total_len in_port reason bytes fits =
    writable (packet_in total_len in_port reason bytes) (10 + length bytes) (size_is _ _ (omega arith))
    (le-leb 18 (8 + (10 + length bytes)) (omega arith)) (omega (arith, fits)) tt

pub removal_writable : (e : Entry) (reason moment : ℕ) (count : Numbers) → length (written_match e) ≡ 40
    → CanWrite (flow_removed e reason moment count)
removal_writable e reason moment count long =
    let b = flow_removed e reason moment count in
    let behind = big_bytes 8 e.cookie
    ++ (big_bytes 2 e.priority
    ++ (reason ∷ 0 ∷ (big_bytes 4 (seconds_of e moment)
    ++ (big_bytes 4 0
    ++ (big_bytes 2 e.idle ++ (0 ∷ 0 ∷ (big_bytes 8 count.packets ++ big_bytes 8 count.bytes))))))) in
    let size : length (body_with b (written b)) ≡ 80 = omega (arith, length-append (written_match e) behind, long) in
    writable b 80 (size_is b 80 size) refl (omega arith) (clear_written e long)

pub port_writable : (v port : ℕ) (is_link is_dark : Bool) → HasAddress (port_of v port is_link is_dark)
    → CanWrite (port_changed v port is_link is_dark)
port_writable v port is_link is_dark fits =
    writable (port_changed v port is_link is_dark) 56
    (size_is _ _ (omega (arith, length_port_of v port is_link is_dark))) refl (omega arith) fits

-- n ports behind 32 bytes are a length of a FEATURES_REPLY
among_ports : (n : ℕ) → (nat_le 32 (8 + (24 + 48 * n)) && ((8 + (24 + 48 * n) - 32) % 48 == 0)) ≡ true
among_ports n =
    let behind : 8 + (24 + 48 * n) - 32 ≡ 48 * n = omega arith in
    let whole : (8 + (24 + 48 * n) - 32) % 48 ≡ 0 = ap (λ k. k % 48) behind ∙ mul-mod_right 48 n in
    ap (λ b. b && ((8 + (24 + 48 * n) - 32) % 48 == 0)) (le-leb 32 (8 + (24 + 48 * n)) (omega arith))
    ∙ ap (λ k. k == 0) whole

pub features_writable : (dpid : ℕ) (g : Grant) (v : ℕ) (dark : List ℕ) → HasFewPorts g.ports
    → All HasAddress (map (shown g v dark) (visible g.ports)) → CanWrite (features dpid g v dark)
features_writable dpid g v dark few fits =
    let n = length (visible g.ports) in
    let size = size_is (features dpid g v dark) (24 + 48 * n)
    (omega (arith, length_shown g v dark (visible g.ports))) in
    writable (features dpid g v dark) (24 + 48 * n) size (among_ports n) (omega (arith, few, length_visible g.ports))
    fits
