-- The tests of matches, field by field.
use Rattle.std.proofs.Common.{◌≡◌, true}
use Rattle.of10_match.specs.Fields.{HeaderOf, MatchOf}
use Rattle.of10_match.specs.Matching.{holds, fits, fits_prefix, asks, asks_prefix, covers, agree, agree_prefix}
use Rattle.of10_match.specs.Matching.{overlaps}
use Rattle.of10_match.proofs.Twelve.{each-fields, each-intro}

-- each field of the header fits
pub record Fits (m : MatchOf) (h : HeaderOf) : Type 0 where
  pub in_port : fits m.in_port h.in_port ≡ true
  pub dl_src : fits m.dl_src h.dl_src ≡ true
  pub dl_dst : fits m.dl_dst h.dl_dst ≡ true
  pub dl_vlan : fits m.dl_vlan h.dl_vlan ≡ true
  pub dl_vlan_pcp : fits m.dl_vlan_pcp h.dl_vlan_pcp ≡ true
  pub dl_type : fits m.dl_type h.dl_type ≡ true
  pub nw_tos : fits m.nw_tos h.nw_tos ≡ true
  pub nw_proto : fits m.nw_proto h.nw_proto ≡ true
  pub nw_src : fits_prefix m.nw_src h.nw_src ≡ true
  pub nw_dst : fits_prefix m.nw_dst h.nw_dst ≡ true
  pub tp_src : fits m.tp_src h.tp_src ≡ true
  pub tp_dst : fits m.tp_dst h.tp_dst ≡ true

pub holds-fields : (m : MatchOf) (h : HeaderOf) → holds m h ≡ true → Fits m h
holds-fields m h e =
    let t = each-fields (fits m.in_port h.in_port) (fits m.dl_src h.dl_src) (fits m.dl_dst h.dl_dst)
    (fits m.dl_vlan h.dl_vlan) (fits m.dl_vlan_pcp h.dl_vlan_pcp) (fits m.dl_type h.dl_type)
    (fits m.nw_tos h.nw_tos) (fits m.nw_proto h.nw_proto) (fits_prefix m.nw_src h.nw_src)
    (fits_prefix m.nw_dst h.nw_dst) (fits m.tp_src h.tp_src) (fits m.tp_dst h.tp_dst) e in
    record {
      in_port = t.at_a;
      dl_src = t.at_b;
      dl_dst = t.at_c;
      dl_vlan = t.at_d;
      dl_vlan_pcp = t.at_e;
      dl_type = t.at_f;
      nw_tos = t.at_g;
      nw_proto = t.at_h;
      nw_src = t.at_i;
      nw_dst = t.at_j;
      tp_src = t.at_k;
      tp_dst = t.at_l;
    }

pub holds-intro : (m : MatchOf) (h : HeaderOf) → Fits m h → holds m h ≡ true
holds-intro m h t = each-intro (fits m.in_port h.in_port) (fits m.dl_src h.dl_src) (fits m.dl_dst h.dl_dst)
    (fits m.dl_vlan h.dl_vlan) (fits m.dl_vlan_pcp h.dl_vlan_pcp) (fits m.dl_type h.dl_type) (fits m.nw_tos h.nw_tos)
    (fits m.nw_proto h.nw_proto) (fits_prefix m.nw_src h.nw_src) (fits_prefix m.nw_dst h.nw_dst)
    (fits m.tp_src h.tp_src) (fits m.tp_dst h.tp_dst) (record {
      at_a = t.in_port;
      at_b = t.dl_src;
      at_c = t.dl_dst;
      at_d = t.dl_vlan;
      at_e = t.dl_vlan_pcp;
      at_f = t.dl_type;
      at_g = t.nw_tos;
      at_h = t.nw_proto;
      at_i = t.nw_src;
      at_j = t.nw_dst;
      at_k = t.tp_src;
      at_l = t.tp_dst;
    })

-- no field is asked to be two values
pub record Agrees (m : MatchOf) (n : MatchOf) : Type 0 where
  pub in_port : agree m.in_port n.in_port ≡ true
  pub dl_src : agree m.dl_src n.dl_src ≡ true
  pub dl_dst : agree m.dl_dst n.dl_dst ≡ true
  pub dl_vlan : agree m.dl_vlan n.dl_vlan ≡ true
  pub dl_vlan_pcp : agree m.dl_vlan_pcp n.dl_vlan_pcp ≡ true
  pub dl_type : agree m.dl_type n.dl_type ≡ true
  pub nw_tos : agree m.nw_tos n.nw_tos ≡ true
  pub nw_proto : agree m.nw_proto n.nw_proto ≡ true
  pub nw_src : agree_prefix m.nw_src n.nw_src ≡ true
  pub nw_dst : agree_prefix m.nw_dst n.nw_dst ≡ true
  pub tp_src : agree m.tp_src n.tp_src ≡ true
  pub tp_dst : agree m.tp_dst n.tp_dst ≡ true

pub overlaps-fields : (m : MatchOf) (n : MatchOf) → overlaps m n ≡ true → Agrees m n
overlaps-fields m n e =
    let t = each-fields (agree m.in_port n.in_port) (agree m.dl_src n.dl_src) (agree m.dl_dst n.dl_dst)
    (agree m.dl_vlan n.dl_vlan) (agree m.dl_vlan_pcp n.dl_vlan_pcp) (agree m.dl_type n.dl_type)
    (agree m.nw_tos n.nw_tos) (agree m.nw_proto n.nw_proto) (agree_prefix m.nw_src n.nw_src)
    (agree_prefix m.nw_dst n.nw_dst) (agree m.tp_src n.tp_src) (agree m.tp_dst n.tp_dst) e in
    record {
      in_port = t.at_a;
      dl_src = t.at_b;
      dl_dst = t.at_c;
      dl_vlan = t.at_d;
      dl_vlan_pcp = t.at_e;
      dl_type = t.at_f;
      nw_tos = t.at_g;
      nw_proto = t.at_h;
      nw_src = t.at_i;
      nw_dst = t.at_j;
      tp_src = t.at_k;
      tp_dst = t.at_l;
    }

pub overlaps-intro : (m : MatchOf) (n : MatchOf) → Agrees m n → overlaps m n ≡ true
overlaps-intro m n t = each-intro (agree m.in_port n.in_port) (agree m.dl_src n.dl_src) (agree m.dl_dst n.dl_dst)
    (agree m.dl_vlan n.dl_vlan) (agree m.dl_vlan_pcp n.dl_vlan_pcp) (agree m.dl_type n.dl_type)
    (agree m.nw_tos n.nw_tos) (agree m.nw_proto n.nw_proto) (agree_prefix m.nw_src n.nw_src)
    (agree_prefix m.nw_dst n.nw_dst) (agree m.tp_src n.tp_src) (agree m.tp_dst n.tp_dst) (record {
      at_a = t.in_port;
      at_b = t.dl_src;
      at_c = t.dl_dst;
      at_d = t.dl_vlan;
      at_e = t.dl_vlan_pcp;
      at_f = t.dl_type;
      at_g = t.nw_tos;
      at_h = t.nw_proto;
      at_i = t.nw_src;
      at_j = t.nw_dst;
      at_k = t.tp_src;
      at_l = t.tp_dst;
    })

-- the second asks for each field of the first
pub record Asks (m : MatchOf) (n : MatchOf) : Type 0 where
  pub in_port : asks m.in_port n.in_port ≡ true
  pub dl_src : asks m.dl_src n.dl_src ≡ true
  pub dl_dst : asks m.dl_dst n.dl_dst ≡ true
  pub dl_vlan : asks m.dl_vlan n.dl_vlan ≡ true
  pub dl_vlan_pcp : asks m.dl_vlan_pcp n.dl_vlan_pcp ≡ true
  pub dl_type : asks m.dl_type n.dl_type ≡ true
  pub nw_tos : asks m.nw_tos n.nw_tos ≡ true
  pub nw_proto : asks m.nw_proto n.nw_proto ≡ true
  pub nw_src : asks_prefix m.nw_src n.nw_src ≡ true
  pub nw_dst : asks_prefix m.nw_dst n.nw_dst ≡ true
  pub tp_src : asks m.tp_src n.tp_src ≡ true
  pub tp_dst : asks m.tp_dst n.tp_dst ≡ true

pub covers-fields : (m : MatchOf) (n : MatchOf) → covers m n ≡ true → Asks m n
covers-fields m n e =
    let t = each-fields (asks m.in_port n.in_port) (asks m.dl_src n.dl_src) (asks m.dl_dst n.dl_dst)
    (asks m.dl_vlan n.dl_vlan) (asks m.dl_vlan_pcp n.dl_vlan_pcp) (asks m.dl_type n.dl_type)
    (asks m.nw_tos n.nw_tos) (asks m.nw_proto n.nw_proto) (asks_prefix m.nw_src n.nw_src)
    (asks_prefix m.nw_dst n.nw_dst) (asks m.tp_src n.tp_src) (asks m.tp_dst n.tp_dst) e in
    record {
      in_port = t.at_a;
      dl_src = t.at_b;
      dl_dst = t.at_c;
      dl_vlan = t.at_d;
      dl_vlan_pcp = t.at_e;
      dl_type = t.at_f;
      nw_tos = t.at_g;
      nw_proto = t.at_h;
      nw_src = t.at_i;
      nw_dst = t.at_j;
      tp_src = t.at_k;
      tp_dst = t.at_l;
    }

pub covers-intro : (m : MatchOf) (n : MatchOf) → Asks m n → covers m n ≡ true
covers-intro m n t = each-intro (asks m.in_port n.in_port) (asks m.dl_src n.dl_src) (asks m.dl_dst n.dl_dst)
    (asks m.dl_vlan n.dl_vlan) (asks m.dl_vlan_pcp n.dl_vlan_pcp) (asks m.dl_type n.dl_type) (asks m.nw_tos n.nw_tos)
    (asks m.nw_proto n.nw_proto) (asks_prefix m.nw_src n.nw_src) (asks_prefix m.nw_dst n.nw_dst)
    (asks m.tp_src n.tp_src) (asks m.tp_dst n.tp_dst) (record {
      at_a = t.in_port;
      at_b = t.dl_src;
      at_c = t.dl_dst;
      at_d = t.dl_vlan;
      at_e = t.dl_vlan_pcp;
      at_f = t.dl_type;
      at_g = t.nw_tos;
      at_h = t.nw_proto;
      at_i = t.nw_src;
      at_j = t.nw_dst;
      at_k = t.tp_src;
      at_l = t.tp_dst;
    })
