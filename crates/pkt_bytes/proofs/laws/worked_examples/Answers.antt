use Rattle.std.proofs.Common.{refl}
use Rattle.pkt_bytes.specs.Checksums.{change, mended, ones_sum}
use Rattle.pkt_bytes.specs.Ipv4.{ipv4_at, ports_of}
use Rattle.pkt_bytes.specs.Link.{link_of, payload_at}
use Rattle.pkt_bytes.specs.Numbers.{put}
use Rattle.pkt_bytes.specs.Rewritten.{address_change, checksum_place, header_checksum, new_checksum, nw_change}
use Rattle.pkt_bytes.specs.Rewritten.{rewritten, tos_change, tp_change, transport_checksum, with_dl, with_ip, with_nw}
use Rattle.pkt_bytes.specs.Rewritten.{with_tp}
use Rattle.pkt_bytes.proofs.laws.worked_examples.Goals as goal

pub returns-clause-redirected : goal.returns-clause-redirected
unfolding change mended ones_sum ipv4_at ports_of link_of payload_at put address_change checksum_place header_checksum
    new_checksum nw_change rewritten tos_change tp_change transport_checksum with_dl with_ip with_nw with_tp
returns-clause-redirected c = record { reads = refl; writes = refl }

pub returns-clause-cut_short : goal.returns-clause-cut_short
unfolding ipv4_at ports_of link_of payload_at
returns-clause-cut_short c = record { tag = refl; arp = refl; frame = refl }

pub returns-clause-mended : goal.returns-clause-mended
unfolding change mended ones_sum
returns-clause-mended c = refl
