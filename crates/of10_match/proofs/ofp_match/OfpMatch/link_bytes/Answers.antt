-- Each write leaves the bytes before and after its own as they were.
use Rattle.of10_match.proofs.ofp_match.OfpMatch.link_bytes.Goals as goal

pub returns : goal.returns
returns c =
    let wildcards = c.write_u32.ensures in
    let in_port = rw (wildcards) at c.write_u16.ensures in
    let dl_src = rw (wildcards, in_port) at c.write_uint.ensures in
    let dl_dst = rw (wildcards, in_port, dl_src) at c.write_uint-2.ensures in
    let dl_vlan = rw (wildcards, in_port, dl_src, dl_dst) at c.write_u16-2.ensures in
    rw (wildcards, in_port, dl_src, dl_dst, dl_vlan)
