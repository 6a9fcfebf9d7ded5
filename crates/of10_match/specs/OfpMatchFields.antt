-- The 40 bytes of an `ofp_match`, field by field.
use Rattle.std.specs.Prelude.{ℕ, ◌<◌, ◌^◌, List, [], ◌∷◌, ◌++◌, slice_index}
use Rattle.byteorder.specs.Endian.{big_from, big_bytes}
use Rattle.of10_match.specs.declared.ofp_match.OfpMatch.{OfpMatch}

-- the number of n bytes at a place
abbrev pub number_at : ℕ → ℕ → List ℕ → ℕ
number_at i n bs = big_from i n bs

-- the fields that stand in 40 bytes, whatever the padding
abbrev pub fields_in : List ℕ → OfpMatch
fields_in bs = record {
  wildcards = number_at 0 4 bs;
  in_port = number_at 4 2 bs;
  dl_src = number_at 6 6 bs;
  dl_dst = number_at 12 6 bs;
  dl_vlan = number_at 18 2 bs;
  dl_vlan_pcp = slice_index bs 20;
  dl_type = number_at 22 2 bs;
  nw_tos = slice_index bs 24;
  nw_proto = slice_index bs 25;
  nw_src = number_at 28 4 bs;
  nw_dst = number_at 32 4 bs;
  tp_src = number_at 36 2 bs;
  tp_dst = number_at 38 2 bs;
}

-- the first 22 bytes: the fields of the port and of the Ethernet header
abbrev pub link_bytes : OfpMatch → List ℕ
link_bytes w =
    big_bytes 4 w.wildcards
    ++ (big_bytes 2 w.in_port
    ++ (big_bytes 6 w.dl_src ++ (big_bytes 6 w.dl_dst ++ (big_bytes 2 w.dl_vlan ++ (w.dl_vlan_pcp ∷ 0 ∷ [])))))

-- the last 18 bytes: the fields of what the Ethernet frame carries
abbrev pub network_bytes : OfpMatch → List ℕ
network_bytes w =
    big_bytes 2 w.dl_type
    ++ (w.nw_tos ∷ w.nw_proto ∷ 0 ∷ 0
    ∷ (big_bytes 4 w.nw_src ++ (big_bytes 4 w.nw_dst ++ (big_bytes 2 w.tp_src ++ big_bytes 2 w.tp_dst))))

-- the 40 bytes of the fields, with zero padding
abbrev pub bytes_of : OfpMatch → List ℕ
bytes_of w = link_bytes w ++ network_bytes w

-- each number fits the bytes that it has
pub record FitsBytes (w : OfpMatch) : Type 0 where
  pub wildcards : w.wildcards < 256 ^ 4
  pub in_port : w.in_port < 256 ^ 2
  pub dl_src : w.dl_src < 256 ^ 6
  pub dl_dst : w.dl_dst < 256 ^ 6
  pub dl_vlan : w.dl_vlan < 256 ^ 2
  pub dl_type : w.dl_type < 256 ^ 2
  pub nw_src : w.nw_src < 256 ^ 4
  pub nw_dst : w.nw_dst < 256 ^ 4
  pub tp_src : w.tp_src < 256 ^ 2
  pub tp_dst : w.tp_dst < 256 ^ 2
