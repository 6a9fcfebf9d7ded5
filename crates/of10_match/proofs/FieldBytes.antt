-- The fields that stand in the bytes of fields are those.
use Rattle.std.proofs.Common.{◌≡◌, []}
use Rattle.byteorder.specs.Numbers.{big_number-reads_back}
use Rattle.of10_match.specs.OfpMatchFields.{FitsBytes, fields_in, bytes_of}
use Rattle.of10_match.specs.declared.ofp_match.OfpMatch.{OfpMatch}

pub fields_in-bytes_of : (w : OfpMatch) → FitsBytes w → fields_in (bytes_of w) ≡ w
fields_in-bytes_of w fit = λ i. record {
  wildcards = big_number-reads_back 4 w.wildcards [] fit.wildcards i;
  in_port = big_number-reads_back 2 w.in_port [] fit.in_port i;
  dl_src = big_number-reads_back 6 w.dl_src [] fit.dl_src i;
  dl_dst = big_number-reads_back 6 w.dl_dst [] fit.dl_dst i;
  dl_vlan = big_number-reads_back 2 w.dl_vlan [] fit.dl_vlan i;
  dl_vlan_pcp = w.dl_vlan_pcp;
  dl_type = big_number-reads_back 2 w.dl_type [] fit.dl_type i;
  nw_tos = w.nw_tos;
  nw_proto = w.nw_proto;
  nw_src = big_number-reads_back 4 w.nw_src [] fit.nw_src i;
  nw_dst = big_number-reads_back 4 w.nw_dst [] fit.nw_dst i;
  tp_src = big_number-reads_back 2 w.tp_src [] fit.tp_src i;
  tp_dst = big_number-reads_back 2 w.tp_dst [] fit.tp_dst i;
}
