-- One match covers another exactly where every header of the other is in it.
use Rattle.std.proofs.Common.{◌≡◌, ℕ, true, Bool, ◌∙◌, sym, arith}
use Rattle.std.specs.Prelude.{◌↔◌, IsTrue, Option}
use Rattle.of10_match.specs.Fields.{HeaderOf, MatchOf}
use Rattle.of10_match.specs.Matching.{covers}
use Rattle.of10_match.specs.Ranges.{IsHeader, IsMatch}
use Rattle.of10_match.specs.Sets.{Covers}
use Rattle.of10_match.specs.declared.header.Prefix.{Prefix}
use Rattle.of10_match.proofs.Addresses.{first_address, second_address, Picks-first, Picks-second}
use Rattle.of10_match.proofs.Asking.{fits-asks, fits_prefix-asks, asks-from_fits, asks_prefix-from_fits}
use Rattle.of10_match.proofs.FieldTests.{Fits, covers-fields, covers-intro, holds-fields, holds-intro}
use Rattle.of10_match.proofs.Sample.{sample, zeros, ones, Picks, Fits-sample, IsHeader-sample, IsHeader-zeros}
use Rattle.of10_match.proofs.Sample.{IsHeader-ones}

Covers-from_test : (m n : MatchOf) → covers m n ≡ true → Covers m n
Covers-from_test m n e h in_range held =
    let asked = covers-fields m n e in
    let fit = holds-fields n h held in
    holds-intro m h (record {
      in_port = fits-asks m.in_port n.in_port h.in_port asked.in_port fit.in_port;
      dl_src = fits-asks m.dl_src n.dl_src h.dl_src asked.dl_src fit.dl_src;
      dl_dst = fits-asks m.dl_dst n.dl_dst h.dl_dst asked.dl_dst fit.dl_dst;
      dl_vlan = fits-asks m.dl_vlan n.dl_vlan h.dl_vlan asked.dl_vlan fit.dl_vlan;
      dl_vlan_pcp = fits-asks m.dl_vlan_pcp n.dl_vlan_pcp h.dl_vlan_pcp asked.dl_vlan_pcp fit.dl_vlan_pcp;
      dl_type = fits-asks m.dl_type n.dl_type h.dl_type asked.dl_type fit.dl_type;
      nw_tos = fits-asks m.nw_tos n.nw_tos h.nw_tos asked.nw_tos fit.nw_tos;
      nw_proto = fits-asks m.nw_proto n.nw_proto h.nw_proto asked.nw_proto fit.nw_proto;
      nw_src = fits_prefix-asks m.nw_src n.nw_src h.nw_src asked.nw_src fit.nw_src;
      nw_dst = fits_prefix-asks m.nw_dst n.nw_dst h.nw_dst asked.nw_dst fit.nw_dst;
      tp_src = fits-asks m.tp_src n.tp_src h.tp_src asked.tp_src fit.tp_src;
      tp_dst = fits-asks m.tp_dst n.tp_dst h.tp_dst asked.tp_dst fit.tp_dst;
    })

-- a header that is picked from the second match is in the first
sample_fits : (address : Option Prefix → ℕ) (d : HeaderOf) (m n : MatchOf) → Picks address → IsHeader d → IsMatch n
    → Covers m n → Fits m (sample address d n)
sample_fits address d m n picks in_range q all =
    let h = sample address d n in
    holds-fields m h (all h (IsHeader-sample address d n picks in_range q)
    (holds-intro n h (Fits-sample address d n picks q)))

-- two headers of the second that differ wherever they can show each field of the first
covers-from_headers : (m n : MatchOf) → IsMatch m → IsMatch n → Covers m n → covers m n ≡ true
covers-from_headers m n p q all =
    let low = sample_fits first_address zeros m n Picks-first IsHeader-zeros q all in
    let high = sample_fits second_address ones m n Picks-second IsHeader-ones q all in
    covers-intro m n (record {
      in_port = asks-from_fits 0 1 (omega arith) m.in_port n.in_port low.in_port high.in_port;
      dl_src = asks-from_fits 0 1 (omega arith) m.dl_src n.dl_src low.dl_src high.dl_src;
      dl_dst = asks-from_fits 0 1 (omega arith) m.dl_dst n.dl_dst low.dl_dst high.dl_dst;
      dl_vlan = asks-from_fits 0 1 (omega arith) m.dl_vlan n.dl_vlan low.dl_vlan high.dl_vlan;
      dl_vlan_pcp = asks-from_fits 0 1 (omega arith) m.dl_vlan_pcp n.dl_vlan_pcp low.dl_vlan_pcp high.dl_vlan_pcp;
      dl_type = asks-from_fits 0 1 (omega arith) m.dl_type n.dl_type low.dl_type high.dl_type;
      nw_tos = asks-from_fits 0 4 (omega arith) m.nw_tos n.nw_tos low.nw_tos high.nw_tos;
      nw_proto = asks-from_fits 0 1 (omega arith) m.nw_proto n.nw_proto low.nw_proto high.nw_proto;
      nw_src = asks_prefix-from_fits m.nw_src n.nw_src p.nw_src q.nw_src low.nw_src high.nw_src;
      nw_dst = asks_prefix-from_fits m.nw_dst n.nw_dst p.nw_dst q.nw_dst low.nw_dst high.nw_dst;
      tp_src = asks-from_fits 0 1 (omega arith) m.tp_src n.tp_src low.tp_src high.tp_src;
      tp_dst = asks-from_fits 0 1 (omega arith) m.tp_dst n.tp_dst low.tp_dst high.tp_dst;
    })

-- what a test that equals `covers` says of headers
pub covers_exact : (test : Bool) (m n : MatchOf) → IsMatch m → IsMatch n → test ≡ covers m n → IsTrue test ↔ Covers m n
covers_exact test m n p q e =
    (λ t. Covers-from_test m n (sym e ∙ t), λ all. e ∙ covers-from_headers m n p q all)
