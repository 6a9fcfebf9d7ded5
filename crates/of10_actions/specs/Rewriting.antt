-- Rewrites of headers.
use Rattle.std.specs.Prelude.{ℕ, Bool, true, ◌==◌, ◌&&◌, ◌||◌, Option, Some, None, if◌then◌else◌}
use Rattle.std.specs.Option.{option_or}
use Rattle.of10_match.specs.Fields.{HeaderOf}
use Rattle.of10_match.specs.Numbers.{IPV4, TCP, UDP}
use Rattle.of10_actions.specs.Fields.{RewriteOf}

-- a value after one that replaces it, if any, where the test says so
abbrev pub set_value : {A : Type 0} → Bool → Option A → A → A
set_value b None x = x
set_value b (Some v) x = if b then v else x

-- a field after a rewrite that sets it where the test says so
abbrev pub set_to : Bool → Option ℕ → ℕ → ℕ
set_to b value x = set_value b value x

-- whether a rewrite sets nw fields of packets of this dl_type
abbrev pub is_ip : ℕ → Bool
is_ip t = t == IPV4

-- whether a protocol has ports that a rewrite sets
abbrev pub is_tcp_udp : ℕ → Bool
is_tcp_udp p = (p == TCP) || (p == UDP)

-- whether a rewrite sets tp fields
abbrev pub has_tcp_udp : ℕ → ℕ → Bool
has_tcp_udp t p = is_ip t && is_tcp_udp p

-- the header after the rewrite: dl fields always, nw and tp fields where the packet has them
abbrev pub apply : RewriteOf → HeaderOf → HeaderOf
apply r h = record h {
  dl_src = set_to true r.dl_src h.dl_src;
  dl_dst = set_to true r.dl_dst h.dl_dst;
  nw_tos = set_to (is_ip h.dl_type) r.nw_tos h.nw_tos;
  nw_src = set_to (is_ip h.dl_type) r.nw_src h.nw_src;
  nw_dst = set_to (is_ip h.dl_type) r.nw_dst h.nw_dst;
  tp_src = set_to (has_tcp_udp h.dl_type h.nw_proto) r.tp_src h.tp_src;
  tp_dst = set_to (has_tcp_udp h.dl_type h.nw_proto) r.tp_dst h.tp_dst;
}

-- s after r, where s wins
abbrev pub and_then : RewriteOf → RewriteOf → RewriteOf
and_then r s = record {
  dl_src = option_or s.dl_src r.dl_src;
  dl_dst = option_or s.dl_dst r.dl_dst;
  nw_src = option_or s.nw_src r.nw_src;
  nw_dst = option_or s.nw_dst r.nw_dst;
  nw_tos = option_or s.nw_tos r.nw_tos;
  tp_src = option_or s.tp_src r.tp_src;
  tp_dst = option_or s.tp_dst r.tp_dst;
}

-- the rewrite that sets nothing
abbrev pub no_rewrite : RewriteOf
no_rewrite = record {
  dl_src = None;
  dl_dst = None;
  nw_src = None;
  nw_dst = None;
  nw_tos = None;
  tp_src = None;
  tp_dst = None;
}

-- a field that the other sets is set by this one
abbrev pub IsSetToo : Option ℕ → Option ℕ → Type 0
IsSetToo s None = Unit {0}
IsSetToo None (Some v) = ⊥
IsSetToo (Some w) (Some v) = Unit {0}

-- s sets each field that r sets
pub record Extends (s r : RewriteOf) : Type 0 where
  pub dl_src : IsSetToo s.dl_src r.dl_src
  pub dl_dst : IsSetToo s.dl_dst r.dl_dst
  pub nw_src : IsSetToo s.nw_src r.nw_src
  pub nw_dst : IsSetToo s.nw_dst r.nw_dst
  pub nw_tos : IsSetToo s.nw_tos r.nw_tos
  pub tp_src : IsSetToo s.tp_src r.tp_src
  pub tp_dst : IsSetToo s.tp_dst r.tp_dst
