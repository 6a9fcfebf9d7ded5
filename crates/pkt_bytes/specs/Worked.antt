-- The definitions, computed on frames whose bytes are written by hand.
use Rattle.std.specs.Prelude.{◌≡◌, ℕ, List, [], ◌∷◌, Some}
use Rattle.of10_actions.specs.Fields.{RewriteOf}
use Rattle.of10_actions.specs.Rewriting.{no_rewrite}
use Rattle.pkt_bytes.specs.Checksums.{mended, change}
use Rattle.pkt_bytes.specs.Headers.{header_in, no_header}
use Rattle.pkt_bytes.specs.Rewritten.{rewritten}

-- a datagram of UDP from 10.0.0.1 to 1.2.3.4
abbrev pub datagram : List ℕ
datagram = 0 ∷ 0 ∷ 0 ∷ 0 ∷ 0 ∷ 2 ∷ 0 ∷ 0 ∷ 0 ∷ 0 ∷ 0 ∷ 1 ∷ 8 ∷ 0 ∷ 69 ∷ 0 ∷ 0 ∷ 28 ∷ 0 ∷ 0 ∷ 0 ∷ 0 ∷ 64 ∷ 17 ∷ 108 ∷ 203
    ∷ 10 ∷ 0 ∷ 0 ∷ 1 ∷ 1 ∷ 2 ∷ 3 ∷ 4 ∷ 19 ∷ 136 ∷ 0 ∷ 53 ∷ 0 ∷ 8 ∷ 222 ∷ 26 ∷ []

-- the same to 2.0.0.1
abbrev pub redirected : List ℕ
redirected = 0 ∷ 0 ∷ 0 ∷ 0 ∷ 0 ∷ 2 ∷ 0 ∷ 0 ∷ 0 ∷ 0 ∷ 0 ∷ 1 ∷ 8 ∷ 0 ∷ 69 ∷ 0 ∷ 0 ∷ 28 ∷ 0 ∷ 0 ∷ 0 ∷ 0 ∷ 64 ∷ 17 ∷ 110
    ∷ 208 ∷ 10 ∷ 0 ∷ 0 ∷ 1 ∷ 2 ∷ 0 ∷ 0 ∷ 1 ∷ 19 ∷ 136 ∷ 0 ∷ 53 ∷ 0 ∷ 8 ∷ 224 ∷ 31 ∷ []

-- its first bytes with a tag that is cut short
abbrev pub cut_tag : List ℕ
cut_tag = 0 ∷ 0 ∷ 0 ∷ 0 ∷ 0 ∷ 2 ∷ 0 ∷ 0 ∷ 0 ∷ 0 ∷ 0 ∷ 1 ∷ 129 ∷ 0 ∷ 160 ∷ 100 ∷ []

-- a frame with a length, SNAP and the type of ARP, cut short behind it
abbrev pub cut_arp : List ℕ
cut_arp = 0 ∷ 0 ∷ 0 ∷ 0 ∷ 0 ∷ 2 ∷ 0 ∷ 0 ∷ 0 ∷ 0 ∷ 0 ∷ 1 ∷ 0 ∷ 8 ∷ 170 ∷ 170 ∷ 3 ∷ 0 ∷ 0 ∷ 0 ∷ 8 ∷ 6 ∷ []

abbrev pub to_two : RewriteOf
to_two = record no_rewrite { nw_dst = Some 0x02000001 }

-- the datagram is read, and rewritten with both its checksums
pub record Redirected : Type 0 where
  pub reads : header_in 1 datagram ≡ record (no_header 1) {
    dl_dst = 2;
    dl_src = 1;
    dl_type = 0x0800;
    nw_proto = 17;
    nw_src = 0x0a000001;
    nw_dst = 0x01020304;
    tp_src = 5000;
    tp_dst = 53;
  }
  pub writes : rewritten to_two datagram ≡ redirected

-- frames that are cut short say nothing of what is missing
pub record CutShort : Type 0 where
  pub tag : header_in 1 cut_tag ≡ record (no_header 1) { dl_dst = 2; dl_src = 1; dl_vlan = 0 }
  pub arp : header_in 1 cut_arp ≡ record (no_header 1) { dl_dst = 2; dl_src = 1; dl_type = 0x0806 }
  pub frame : header_in 1 (0 ∷ 0 ∷ 0 ∷ []) ≡ no_header 1

-- the example of RFC 1624: a word 5555 becomes 3285 under the checksum dd2f
abbrev pub Mended : Type 0
Mended = mended 0xdd2f (change 0x5555 0x3285) ≡ 0x0000
