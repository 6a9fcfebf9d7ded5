-- Which layers a rewrite needs, and which bytes it may replace.
use Rattle.std.specs.Prelude.{ℕ, ◌+◌, ◌^◌, ◌<◌, ◌≤◌, ◌≡◌, ◌⊎◌, ◌||◌, Bool, true, not, List, Option, Some, None, is_some}
use Rattle.std.specs.Prelude.{OnSome, IfSome, IsTrue}
use Rattle.of10_match.specs.Numbers.{IPV4}
use Rattle.of10_match.specs.Ranges.{IsTos}
use Rattle.of10_actions.specs.Fields.{RewriteOf}
use Rattle.of10_actions.specs.Rewriting.{is_tcp_udp}
use Rattle.pkt_bytes.specs.declared.ipv4.Ipv4.{Ipv4}
use Rattle.pkt_bytes.specs.Headers.{header_in}
use Rattle.pkt_bytes.specs.Ipv4.{ipv4_of, has_ports}
use Rattle.pkt_bytes.specs.Numbers.{has}
use Rattle.pkt_bytes.specs.Rewritten.{checksum_place}

-- the values of a rewrite are in their ranges
pub record IsRewrite (r : RewriteOf) : Type 0 where
  pub dl_src : IfSome r.dl_src (λ v. v < 2 ^ 48)
  pub dl_dst : IfSome r.dl_dst (λ v. v < 2 ^ 48)
  pub nw_src : IfSome r.nw_src (λ v. v < 2 ^ 32)
  pub nw_dst : IfSome r.nw_dst (λ v. v < 2 ^ 32)
  pub nw_tos : IfSome r.nw_tos IsTos
  pub tp_src : IfSome r.tp_src (λ v. v < 2 ^ 16)
  pub tp_dst : IfSome r.tp_dst (λ v. v < 2 ^ 16)

-- a field of the Ethernet header is set
abbrev pub sets_dl : RewriteOf → Bool
sets_dl r = is_some r.dl_src || is_some r.dl_dst

-- a field of IPv4 is set
abbrev pub sets_nw : RewriteOf → Bool
sets_nw r = is_some r.nw_tos || (is_some r.nw_src || is_some r.nw_dst)

-- a port is set
abbrev pub sets_tp : RewriteOf → Bool
sets_tp r = is_some r.tp_src || is_some r.tp_dst

-- the ports of TCP or UDP, or no such protocol
abbrev pub has_ports_if : Option Ipv4 → List ℕ → Bool
has_ports_if None bytes = true
has_ports_if (Some ip) bytes = not (is_tcp_udp ip.protocol) || has_ports ip bytes

-- each layer that the rewrite sets is there as far as it is read, and for ports the packet is no fragment
pub record AreWhole (r : RewriteOf) (bytes : List ℕ) : Type 0 where
  pub dl : IsTrue (sets_dl r) → IsTrue (has 14 bytes)
  pub nw : IsTrue (sets_nw r) → (header_in 0 bytes).dl_type ≡ IPV4 → IsTrue (is_some (ipv4_of bytes))
  pub tp : IsTrue (sets_tp r) → IsTrue (has_ports_if (ipv4_of bytes) bytes)

-- n bytes at a place do not hold this one
abbrev pub IsOutside : ℕ → ℕ → ℕ → Type 0
IsOutside place n k = (k < place) ⊎ (place + n ≤ k)

-- a byte in no field of IPv4 or its transport that the rewrite sets, and in no checksum
pub record IsApartInIp (ip : Ipv4) (r : RewriteOf) (bytes : List ℕ) (k : ℕ) : Type 0 where
  pub nw_tos : OnSome r.nw_tos (IsOutside (ip.place + 1) 1 k)
  pub checksum : IsOutside (ip.place + 10) 2 k
  pub nw_src : OnSome r.nw_src (IsOutside (ip.place + 12) 4 k)
  pub nw_dst : OnSome r.nw_dst (IsOutside (ip.place + 16) 4 k)
  pub tp_src : OnSome r.tp_src (IsOutside ip.transport 2 k)
  pub tp_dst : OnSome r.tp_dst (IsOutside (ip.transport + 2) 2 k)
  pub transport_checksum : IfSome (checksum_place ip bytes) (λ place. IsOutside place 2 k)

-- a byte in no field that the rewrite sets, and in no checksum
pub record IsApart (r : RewriteOf) (bytes : List ℕ) (k : ℕ) : Type 0 where
  pub dl_dst : OnSome r.dl_dst (IsOutside 0 6 k)
  pub dl_src : OnSome r.dl_src (IsOutside 6 6 k)
  pub ip : IfSome (ipv4_of bytes) (λ ip. IsApartInIp ip r bytes k)
