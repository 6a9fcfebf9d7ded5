-- Each number is read from the bytes that begin at its place.
use Rattle.std.proofs.Common.{◌∙◌, slice_index, lit≤}
use Rattle.of10_match.proofs.Numbers.{number_at-fits, number_at-part}
use Rattle.of10_match.proofs.ofp_match.OfpMatch.from_bytes.Goals as goal

pub returns-clause-value : goal.returns-clause-value
returns-clause-value c =
    let bytes = c.args.bytes.now in
    λ i. record {
      wildcards = c.read_u32.ensures i;
      in_port = (c.read_u16.ensures ∙ number_at-part 4 2 36 bytes (lit≤ tt)) i;
      dl_src = (c.read_u48.ensures ∙ number_at-part 6 6 34 bytes (lit≤ tt)) i;
      dl_dst = (c.read_u48-2.ensures ∙ number_at-part 12 6 28 bytes (lit≤ tt)) i;
      dl_vlan = (c.read_u16-2.ensures ∙ number_at-part 18 2 22 bytes (lit≤ tt)) i;
      dl_vlan_pcp = slice_index bytes 20;
      dl_type = (c.read_u16-3.ensures ∙ number_at-part 22 2 18 bytes (lit≤ tt)) i;
      nw_tos = slice_index bytes 24;
      nw_proto = slice_index bytes 25;
      nw_src = (c.read_u32-2.ensures ∙ number_at-part 28 4 12 bytes (lit≤ tt)) i;
      nw_dst = (c.read_u32-3.ensures ∙ number_at-part 32 4 8 bytes (lit≤ tt)) i;
      tp_src = (c.read_u16-4.ensures ∙ number_at-part 36 2 4 bytes (lit≤ tt)) i;
      tp_dst = (c.read_u16-5.ensures ∙ number_at-part 38 2 2 bytes (lit≤ tt)) i;
    }

pub returns-clause-dl_src : goal.returns-clause-dl_src
returns-clause-dl_src c =
    let bytes = c.args.bytes.now in
    number_at-fits 6 6 _ bytes c.fits-bytes (c.read_u48.ensures ∙ number_at-part 6 6 34 bytes (lit≤ tt))

pub returns-clause-dl_dst : goal.returns-clause-dl_dst
returns-clause-dl_dst c =
    let bytes = c.args.bytes.now in
    number_at-fits 12 6 _ bytes c.fits-bytes (c.read_u48-2.ensures ∙ number_at-part 12 6 28 bytes (lit≤ tt))
