-- The header of a rewritten IPv4 packet, field by field.
use Rattle.std.proofs.Common.{◌==◌, nat_le, ◌≡◌, ◌<◌, ◌≤◌, ◌+◌, ◌*◌, ◌/◌, ◌&&◌, ◌||◌, not, ℕ, Bool, true, false, List}
use Rattle.std.proofs.Common.{length, slice_index, Option, Some, None, refl, sym, ap, ◌∙◌, inl, inr, arith}
use Rattle.std.specs.Prelude.{is_some, IsTrue, IfSome}
use Rattle.std.proofs.lemmas.Bool.{cases_Bool, and_parts, or_left, or_right, or_cases, both_ways, not-true, leb-true}
use Rattle.of10_match.specs.Ranges.{IsTos}
use Rattle.of10_actions.specs.Fields.{RewriteOf}
use Rattle.of10_actions.specs.Rewriting.{apply, set_to, is_ip, is_tcp_udp}
use Rattle.pkt_bytes.specs.declared.ipv4.Ipv4.{Ipv4}
use Rattle.pkt_bytes.specs.declared.ipv4.Ports.{Ports}
use Rattle.pkt_bytes.specs.declared.link.Link.{Link}
use Rattle.pkt_bytes.specs.Headers.{header_in, link_header, with_ipv4}
use Rattle.pkt_bytes.specs.Ipv4.{has_icmp, has_ports, is_whole, ipv4_at, ipv4_of, ports_of}
use Rattle.pkt_bytes.specs.Link.{link_of}
use Rattle.pkt_bytes.specs.Numbers.{number_at, has}
use Rattle.pkt_bytes.specs.Rewritten.{rewritten, tos_byte, with_dl, with_ip, with_nw, with_tp}
use Rattle.pkt_bytes.specs.Touched.{AreWhole, IsOutside, IsRewrite, has_ports_if, sets_tp}
use Rattle.pkt_bytes.proofs.Fields.{IsIn, behind-with_dl, dl_dst-with_dl, dl_src-with_dl, front-with_ip, get-with_nw}
use Rattle.pkt_bytes.proofs.Fields.{get-with_tp, has_ports-same, length-with_dl, length-with_ip, length-with_nw}
use Rattle.pkt_bytes.proofs.Fields.{nw_dst-with_nw, nw_src-with_nw, tos-with_nw, tp_dst-with_tp, tp_src-with_tp}
use Rattle.pkt_bytes.proofs.Fields.{with_tp-absent}
use Rattle.pkt_bytes.proofs.Layers.{ipv4_agrees, ipv4_is_at, ipv4_of_carries, link_behind, link_ipv4}
use Rattle.pkt_bytes.proofs.Places.{beside, number_at-same}
use Rattle.pkt_bytes.proofs.PlainAfter.{behind_is, long_header, unset}

-- ---- frames that carry a whole IPv4 packet
pub record Packet (xs : List ℕ) (ip : Ipv4) : Type 0 where
  pub long : has 14 xs ≡ true
  pub is : ipv4_of xs ≡ Some ip

packet_header : (in_port : ℕ) (xs : List ℕ) (ip : Ipv4) → Packet xs ip
    → header_in in_port xs ≡ with_ipv4 (Some ip) xs (link_header (link_of xs) in_port xs)
packet_header in_port xs ip p =
    let c = ipv4_of_carries xs ip p.is in
    long_header in_port xs p.long ∙ rw (c.dl_type, c.at) refl

pub packet_rewritten : (r : RewriteOf) (xs : List ℕ) (ip : Ipv4) → Packet xs ip
    → rewritten r xs ≡ with_ip ip r (with_dl r xs)
unfolding rewritten
packet_rewritten r xs ip p = rw (p.long, p.is) refl

pub inside_after : (r : RewriteOf) (xs : List ℕ) (ip : Ipv4) → 14 ≤ length xs → IsIn ip xs → IsIn ip (with_dl r xs)
inside_after r xs ip long inside =
    let same = length-with_dl r xs long in
    let there = inside.there in
    record { header = inside.header; there = omega arith }

-- bytes of the frame's headers that no rewrite changes
pub kept : (r : RewriteOf) (xs : List ℕ) (ip : Ipv4) (k : ℕ) → 14 ≤ length xs → IsIn ip xs → 12 ≤ k
    → IsOutside (ip.place + 1) 1 k → k < ip.place + 10
    → slice_index (with_ip ip r (with_dl r xs)) k ≡ slice_index xs k
kept r xs ip k long inside lo out hi =
    let header = inside.header in
    let inside' = inside_after r xs ip long inside in
    let there = inside'.there in
    front-with_ip ip r k (with_dl r xs) inside' (inl (omega arith)) (omega arith)
    ∙ get-with_tp ip r k (with_nw ip r (with_dl r xs)) (beside r.tp_src (inl (omega arith)))
    (beside r.tp_dst (inl (omega arith)))
    ∙ get-with_nw ip r k (with_dl r xs) (omega arith) (beside r.nw_tos out) (beside r.nw_src (inl (omega arith)))
    (beside r.nw_dst (inl (omega arith)))
    ∙ behind-with_dl r k xs long lo

-- the frame after the rewrite
pub record After (r : RewriteOf) (xs : List ℕ) (ip : Ipv4) : Type 0 where
  pub long : 14 ≤ length xs
  pub inside : IsIn ip xs
  pub place_is : ip.place ≡ (link_of xs).payload.place
  pub behind : 12 ≤ ip.place

pub after_of : (r : RewriteOf) (xs : List ℕ) (ip : Ipv4) → Packet xs ip → After r xs ip
after_of r xs ip p =
    let c = ipv4_of_carries xs ip p.is in
    let at = ipv4_is_at (link_of xs).payload.place xs ip c.at in
    let lo = link_behind xs in
    let place_is = at.place_is in
    record { long = leb-true 14 (length xs) p.long; inside = at.inside; place_is = place_is; behind = omega arith }

same_length : (r : RewriteOf) (xs : List ℕ) (ip : Ipv4) → After r xs ip
    → length (with_ip ip r (with_dl r xs)) ≡ length xs
same_length r xs ip a = length-with_ip ip r (with_dl r xs) (inside_after r xs ip a.long a.inside)
    ∙ length-with_dl r xs a.long

same_link : (r : RewriteOf) (xs : List ℕ) (ip : Ipv4) → Packet xs ip → After r xs ip
    → link_of xs ≡ link_of (with_ip ip r (with_dl r xs))
same_link r xs ip p a =
    let c = ipv4_of_carries xs ip p.is in
    let at = a.place_is in
    link_ipv4 xs (with_ip ip r (with_dl r xs)) c.dl_type (record {
      long = sym (same_length r xs ip a);
      bytes = λ k lo hi. sym (kept r xs ip k a.long a.inside lo (inl (omega arith)) (omega arith));
    })

same_packet : (r : RewriteOf) (xs : List ℕ) (ip : Ipv4) → Packet xs ip → After r xs ip
    → Packet (with_ip ip r (with_dl r xs)) ip
same_packet r xs ip p a =
    let c = ipv4_of_carries xs ip p.is in
    let ys = with_ip ip r (with_dl r xs) in
    let link = same_link r xs ip p a in
    let lo = a.behind in
    let type : (link_of ys).payload.dl_type ≡ 0x0800 = ap (λ (l : Link). l.payload.dl_type) (sym link) ∙ c.dl_type in
    let place : (link_of ys).payload.place ≡ ip.place = ap (λ (l : Link). l.payload.place) (sym link)
    ∙ sym a.place_is in
    let first = kept r xs ip ip.place a.long a.inside (omega arith) (inl (omega arith)) (omega arith) in
    let protocol = kept r xs ip (ip.place + 9) a.long a.inside (omega arith) (inr (omega arith)) (omega arith) in
    let word = number_at-same (ip.place + 6) 2 ys xs
    (λ k l u. kept r xs ip k a.long a.inside (omega arith) (inr (omega arith)) (omega arith)) in
    let now : ipv4_at ip.place ys ≡ Some ip = ipv4_agrees ip.place ys xs (same_length r xs ip a) first protocol word
    ∙ ap (λ (n : ℕ). ipv4_at n xs) a.place_is ∙ c.at in
    record { long = ap (λ (n : ℕ). nat_le 14 n) (same_length r xs ip a) ∙ p.long; is = rw (type, place, now) refl }

-- ---- the fields of IPv4 after the rewrite
tos_kept : (tos : Option ℕ) (old : ℕ) → IfSome tos IsTos
    → set_to true (tos_byte tos old) old / 4 * 4 ≡ set_to true tos (old / 4 * 4)
tos_kept None old fits = refl
tos_kept (Some v) old fits = omega (arith, fits.0, fits.1)

tos_after : (r : RewriteOf) (xs : List ℕ) (ip : Ipv4) → IsRewrite r → After r xs ip
    → slice_index (with_ip ip r (with_dl r xs)) (ip.place + 1) / 4 * 4
    ≡ set_to true r.nw_tos (slice_index xs (ip.place + 1) / 4 * 4)
tos_after r xs ip fits a =
    let inside' = inside_after r xs ip a.long a.inside in
    let header = inside'.header in
    let there = inside'.there in
    let lo = a.behind in
    let byte = front-with_ip ip r (ip.place + 1) (with_dl r xs) inside' (inl (omega arith)) (omega arith)
    ∙ get-with_tp ip r (ip.place + 1) (with_nw ip r (with_dl r xs)) (beside r.tp_src (inl (omega arith)))
    (beside r.tp_dst (inl (omega arith)))
    ∙ tos-with_nw ip r (with_dl r xs) fits (omega arith) in
    let old = behind-with_dl r (ip.place + 1) xs a.long (omega arith) in
    ap (λ (n : ℕ). n / 4 * 4) byte
    ∙ ap (λ (n : ℕ). set_to true (tos_byte r.nw_tos n) n / 4 * 4) old
    ∙ tos_kept r.nw_tos (slice_index xs (ip.place + 1)) fits.nw_tos

-- a number of the header behind its checksum
nw_part : (r : RewriteOf) (xs : List ℕ) (ip : Ipv4) (place n : ℕ) → After r xs ip → ip.place + 12 ≤ place
    → place + n ≤ ip.place + 20
    → number_at place n (with_ip ip r (with_dl r xs)) ≡ number_at place n (with_nw ip r (with_dl r xs))
nw_part r xs ip place n a lo hi =
    let inside' = inside_after r xs ip a.long a.inside in
    let header = inside'.header in
    number_at-same place n (with_ip ip r (with_dl r xs)) (with_nw ip r (with_dl r xs))
    (λ k l u. front-with_ip ip r k (with_dl r xs) inside' (inr (omega arith)) (omega arith)
    ∙ get-with_tp ip r k (with_nw ip r (with_dl r xs)) (beside r.tp_src (inl (omega arith)))
    (beside r.tp_dst (inl (omega arith))))

nw_src_after : (r : RewriteOf) (xs : List ℕ) (ip : Ipv4) → IsRewrite r → After r xs ip
    → number_at (ip.place + 12) 4 (with_ip ip r (with_dl r xs)) ≡ set_to true r.nw_src (number_at (ip.place + 12) 4 xs)
nw_src_after r xs ip fits a =
    let inside' = inside_after r xs ip a.long a.inside in
    let header = inside'.header in
    let there = inside'.there in
    let lo = a.behind in
    nw_part r xs ip (ip.place + 12) 4 a (omega arith) (omega arith)
    ∙ nw_src-with_nw ip r (with_dl r xs) fits (omega arith)
    ∙ ap (set_to true r.nw_src) (behind_is r (ip.place + 12) 4 xs a.long (omega arith))

nw_dst_after : (r : RewriteOf) (xs : List ℕ) (ip : Ipv4) → IsRewrite r → After r xs ip
    → number_at (ip.place + 16) 4 (with_ip ip r (with_dl r xs)) ≡ set_to true r.nw_dst (number_at (ip.place + 16) 4 xs)
nw_dst_after r xs ip fits a =
    let inside' = inside_after r xs ip a.long a.inside in
    let header = inside'.header in
    let there = inside'.there in
    let lo = a.behind in
    nw_part r xs ip (ip.place + 16) 4 a (omega arith) (omega arith)
    ∙ nw_dst-with_nw ip r (with_dl r xs) fits (omega arith)
    ∙ ap (set_to true r.nw_dst) (behind_is r (ip.place + 16) 4 xs a.long (omega arith))

dl_part : (r : RewriteOf) (xs : List ℕ) (ip : Ipv4) (place : ℕ) → After r xs ip → place + 6 ≤ 12
    → number_at place 6 (with_ip ip r (with_dl r xs)) ≡ number_at place 6 (with_dl r xs)
dl_part r xs ip place a hi =
    let inside' = inside_after r xs ip a.long a.inside in
    let header = inside'.header in
    let there = inside'.there in
    let lo = a.behind in
    number_at-same place 6 (with_ip ip r (with_dl r xs)) (with_dl r xs)
    (λ k l u. front-with_ip ip r k (with_dl r xs) inside' (inl (omega arith)) (omega arith)
    ∙ get-with_tp ip r k (with_nw ip r (with_dl r xs)) (beside r.tp_src (inl (omega arith)))
    (beside r.tp_dst (inl (omega arith)))
    ∙ get-with_nw ip r k (with_dl r xs) (omega arith) (beside r.nw_tos (inl (omega arith)))
    (beside r.nw_src (inl (omega arith))) (beside r.nw_dst (inl (omega arith))))

-- ---- the ports after the rewrite
ports_case : (ip : Ipv4) (xs : List ℕ) → has_ports ip xs ≡ true
    → ports_of ip xs ≡ record { src = number_at ip.transport 2 xs; dst = number_at (ip.transport + 2) 2 xs }
unfolding ports_of
ports_case ip xs e = rw e refl

icmp_case : (ip : Ipv4) (xs : List ℕ) → has_ports ip xs ≡ false → has_icmp ip xs ≡ true
    → ports_of ip xs ≡ record { src = slice_index xs ip.transport; dst = slice_index xs (ip.transport + 1) }
unfolding ports_of
icmp_case ip xs e f = rw (e, f) refl

portless_case : (ip : Ipv4) (xs : List ℕ) → has_ports ip xs ≡ false → has_icmp ip xs ≡ false
    → ports_of ip xs ≡ record { src = 0; dst = 0 }
unfolding ports_of
portless_case ip xs e f = rw (e, f) refl

-- with no ports the bytes behind the header stay
transport_kept : (r : RewriteOf) (xs : List ℕ) (ip : Ipv4) (k : ℕ) → After r xs ip → has_ports ip xs ≡ false
    → ip.transport ≤ k → k < ip.transport + 6
    → slice_index (with_ip ip r (with_dl r xs)) k ≡ slice_index xs k
transport_kept r xs ip k a off lo hi =
    let inside' = inside_after r xs ip a.long a.inside in
    let header = inside'.header in
    let there = inside'.there in
    let behind = a.behind in
    let none : has_ports ip (with_nw ip r (with_dl r xs)) ≡ false =
    has_ports-same ip (with_nw ip r (with_dl r xs)) xs (length-with_nw ip r (with_dl r xs) (omega arith)
    ∙ length-with_dl r xs a.long) ∙ off in
    front-with_ip ip r k (with_dl r xs) inside' (inr (omega arith)) (omega arith)
    ∙ ap (λ (zs : List ℕ). slice_index zs k) (with_tp-absent ip r (with_nw ip r (with_dl r xs)) none)
    ∙ get-with_nw ip r k (with_dl r xs) (omega arith) (beside r.nw_tos (inr (omega arith)))
    (beside r.nw_src (inr (omega arith))) (beside r.nw_dst (inr (omega arith)))
    ∙ behind-with_dl r k xs a.long (omega arith)

same_ports : (r : RewriteOf) (xs : List ℕ) (ip : Ipv4) → After r xs ip → has_ports ip xs ≡ false
    → ports_of ip (with_ip ip r (with_dl r xs)) ≡ ports_of ip xs
same_ports r xs ip a off =
    let ys = with_ip ip r (with_dl r xs) in
    let long = same_length r xs ip a in
    let off' : has_ports ip ys ≡ false = has_ports-same ip ys xs long ∙ off in
    let icmp : has_icmp ip ys ≡ has_icmp ip xs =
    ap (λ (n : ℕ). is_whole ip.fragment && (ip.protocol == 1 && nat_le (ip.transport + 2) n)) long in
    elim (cases_Bool (has_icmp ip xs)) [
      | inl e ↦ let src = transport_kept r xs ip ip.transport a off (omega arith) (omega arith) in
          let dst = transport_kept r xs ip (ip.transport + 1) a off (omega arith) (omega arith) in
          icmp_case ip ys off' (icmp ∙ e) ∙ (λ i. record { src = src i; dst = dst i }) ∙ sym (icmp_case ip xs off e)
      | inr e ↦ portless_case ip ys off' (icmp ∙ e) ∙ sym (portless_case ip xs off e)
    ]

tp_src_after : (r : RewriteOf) (xs : List ℕ) (ip : Ipv4) → IsRewrite r → After r xs ip → has_ports ip xs ≡ true
    → number_at ip.transport 2 (with_ip ip r (with_dl r xs)) ≡ set_to true r.tp_src (number_at ip.transport 2 xs)
tp_src_after r xs ip fits a on =
    let inside' = inside_after r xs ip a.long a.inside in
    let header = inside'.header in
    let there = inside'.there in
    let behind = a.behind in
    let zs = with_dl r xs in
    let on' : has_ports ip (with_nw ip r zs) ≡ true =
    has_ports-same ip (with_nw ip r zs) xs (length-with_nw ip r zs (omega arith) ∙ length-with_dl r xs a.long)
    ∙ on in
    number_at-same ip.transport 2 (with_ip ip r zs) (with_tp ip r (with_nw ip r zs))
    (λ k l u. front-with_ip ip r k zs inside' (inr (omega arith)) (omega arith))
    ∙ tp_src-with_tp ip r (with_nw ip r zs) fits on'
    ∙ ap (set_to true r.tp_src) (number_at-same ip.transport 2 (with_nw ip r zs) xs
    (λ k l u. get-with_nw ip r k zs (omega arith) (beside r.nw_tos (inr (omega arith)))
    (beside r.nw_src (inr (omega arith))) (beside r.nw_dst (inr (omega arith)))
    ∙ behind-with_dl r k xs a.long (omega arith)))

tp_dst_after : (r : RewriteOf) (xs : List ℕ) (ip : Ipv4) → IsRewrite r → After r xs ip → has_ports ip xs ≡ true
    → number_at (ip.transport + 2) 2 (with_ip ip r (with_dl r xs))
    ≡ set_to true r.tp_dst (number_at (ip.transport + 2) 2 xs)
tp_dst_after r xs ip fits a on =
    let inside' = inside_after r xs ip a.long a.inside in
    let header = inside'.header in
    let there = inside'.there in
    let behind = a.behind in
    let zs = with_dl r xs in
    let on' : has_ports ip (with_nw ip r zs) ≡ true =
    has_ports-same ip (with_nw ip r zs) xs (length-with_nw ip r zs (omega arith) ∙ length-with_dl r xs a.long)
    ∙ on in
    number_at-same (ip.transport + 2) 2 (with_ip ip r zs) (with_tp ip r (with_nw ip r zs))
    (λ k l u. front-with_ip ip r k zs inside' (inr (omega arith)) (omega arith))
    ∙ tp_dst-with_tp ip r (with_nw ip r zs) fits on'
    ∙ ap (set_to true r.tp_dst) (number_at-same (ip.transport + 2) 2 (with_nw ip r zs) xs
    (λ k l u. get-with_nw ip r k zs (omega arith) (beside r.nw_tos (inr (omega arith)))
    (beside r.nw_src (inr (omega arith))) (beside r.nw_dst (inr (omega arith)))
    ∙ behind-with_dl r k xs a.long (omega arith)))

-- a rewrite that sets a port finds ports, or another protocol
no_protocol : (r : RewriteOf) (xs : List ℕ) (ip : Ipv4) → AreWhole r xs → ipv4_of xs ≡ Some ip → has_ports ip xs ≡ false
    → IsTrue (sets_tp r) → is_tcp_udp ip.protocol ≡ false
no_protocol r xs ip whole is off s =
    let asked : (not (is_tcp_udp ip.protocol) || has_ports ip xs) ≡ true =
    ap (λ (o : Option Ipv4). has_ports_if o xs) (sym is) ∙ whole.tp s in
    elim (or_cases (not (is_tcp_udp ip.protocol)) (has_ports ip xs) asked) [
      | inl e ↦ not-true (is_tcp_udp ip.protocol) e
      | inr e ↦ absurd (both_ways (has_ports ip xs) off e)
    ]

protocol_of_ports : (ip : Ipv4) (xs : List ℕ) → has_ports ip xs ≡ true → is_tcp_udp ip.protocol ≡ true
protocol_of_ports ip xs on =
    let rest = and_parts (is_whole ip.fragment) (is_tcp_udp ip.protocol && has (ip.transport + 4) xs) on in
    let parts = and_parts (is_tcp_udp ip.protocol) (has (ip.transport + 4) xs) rest.1 in
    parts.0

pub record PortsAfter (r : RewriteOf) (xs ys : List ℕ) (ip : Ipv4) : Type 0 where
  pub src : (ports_of ip ys).src ≡ set_to (is_tcp_udp ip.protocol) r.tp_src (ports_of ip xs).src
  pub dst : (ports_of ip ys).dst ≡ set_to (is_tcp_udp ip.protocol) r.tp_dst (ports_of ip xs).dst

ports_after : (r : RewriteOf) (xs : List ℕ) (ip : Ipv4) → IsRewrite r → AreWhole r xs → Packet xs ip → After r xs ip
    → PortsAfter r xs (with_ip ip r (with_dl r xs)) ip
ports_after r xs ip fits whole p a =
    let ys = with_ip ip r (with_dl r xs) in
    elim (cases_Bool (has_ports ip xs)) [
      | inl on ↦ let on' : has_ports ip ys ≡ true = has_ports-same ip ys xs (same_length r xs ip a) ∙ on in
          let proto = protocol_of_ports ip xs on in
          let was = ports_case ip xs on in
          let now = ports_case ip ys on' in
          record {
            src = ap (λ (q : Ports). q.src) now ∙ tp_src_after r xs ip fits a on
                ∙ (λ i. set_to ((sym proto) i) r.tp_src ((sym was) i).src);
            dst = ap (λ (q : Ports). q.dst) now ∙ tp_dst_after r xs ip fits a on
                ∙ (λ i. set_to ((sym proto) i) r.tp_dst ((sym was) i).dst);
          }
      | inr off ↦ let same = same_ports r xs ip a off in
          let none = no_protocol r xs ip whole p.is off in
          record {
            src = ap (λ (q : Ports). q.src) same
                ∙ sym (unset (is_tcp_udp ip.protocol) r.tp_src (ports_of ip xs).src
                (λ s. none (or_left (is_some r.tp_src) _ s)));
            dst = ap (λ (q : Ports). q.dst) same
                ∙ sym (unset (is_tcp_udp ip.protocol) r.tp_dst (ports_of ip xs).dst
                (λ s. none (or_right (is_some r.tp_src) _ s)));
          }
    ]

-- ---- the law
pub packet_after : (r : RewriteOf) (in_port : ℕ) (xs : List ℕ) (ip : Ipv4) → IsRewrite r → AreWhole r xs → Packet xs ip
    → header_in in_port (rewritten r xs) ≡ apply r (header_in in_port xs)
packet_after r in_port xs ip fits whole p =
    let a = after_of r xs ip p in
    let ys = with_ip ip r (with_dl r xs) in
    let p' = same_packet r xs ip p a in
    let c = ipv4_of_carries xs ip p.is in
    let link = sym (same_link r xs ip p a) in
    let ip_type : is_ip (link_of xs).payload.dl_type ≡ true = ap is_ip c.dl_type in
    let dl_src = dl_part r xs ip 6 a (omega arith) ∙ dl_src-with_dl r xs fits a.long in
    let dl_dst = dl_part r xs ip 0 a (omega arith) ∙ dl_dst-with_dl r xs fits a.long in
    let tos = tos_after r xs ip fits a in
    let nw_src = nw_src_after r xs ip fits a in
    let nw_dst = nw_dst_after r xs ip fits a in
    let ports = ports_after r xs ip fits whole p a in
    let fields : with_ipv4 (Some ip) ys (link_header (link_of ys) in_port ys)
    ≡ apply r (with_ipv4 (Some ip) xs (link_header (link_of xs) in_port xs)) =
    λ i. record {
      in_port = in_port;
      dl_src = dl_src i;
      dl_dst = dl_dst i;
      dl_vlan = (link i).dl_vlan;
      dl_vlan_pcp = (link i).dl_vlan_pcp;
      dl_type = (link i).payload.dl_type;
      nw_tos = (tos ∙ ap (λ (b : Bool). set_to b r.nw_tos (slice_index xs (ip.place + 1) / 4 * 4)) (sym ip_type)) i;
      nw_proto = ip.protocol;
      nw_src = (nw_src ∙ ap (λ (b : Bool). set_to b r.nw_src (number_at (ip.place + 12) 4 xs)) (sym ip_type)) i;
      nw_dst = (nw_dst ∙ ap (λ (b : Bool). set_to b r.nw_dst (number_at (ip.place + 16) 4 xs)) (sym ip_type)) i;
      tp_src =
          (ports.src ∙ ap (λ (b : Bool). set_to (b && is_tcp_udp ip.protocol) r.tp_src (ports_of ip xs).src)
          (sym ip_type)) i;
      tp_dst =
          (ports.dst ∙ ap (λ (b : Bool). set_to (b && is_tcp_udp ip.protocol) r.tp_dst (ports_of ip xs).dst)
          (sym ip_type)) i;
    } in
    ap (header_in in_port) (packet_rewritten r xs ip p)
    ∙ packet_header in_port ys ip p'
    ∙ fields
    ∙ sym (ap (apply r) (packet_header in_port xs ip p))
