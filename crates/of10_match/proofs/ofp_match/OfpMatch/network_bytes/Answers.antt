-- Each write leaves the bytes before and after its own as they were.
use Rattle.of10_match.proofs.ofp_match.OfpMatch.network_bytes.Goals as goal

pub returns : goal.returns
returns c =
    let dl_type = c.write_u16.ensures in
    let nw_src = rw (dl_type) at c.write_u32.ensures in
    let nw_dst = rw (dl_type, nw_src) at c.write_u32-2.ensures in
    let tp_src = rw (dl_type, nw_src, nw_dst) at c.write_u16-2.ensures in
    let tp_dst = rw (dl_type, nw_src, nw_dst, tp_src) at c.write_u16-3.ensures in
    rw (dl_type, nw_src, nw_dst, tp_src, tp_dst)
