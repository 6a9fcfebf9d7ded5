-- The frame is what its definition says, so the laws of rewritten frames hold of it.
use Rattle.std.proofs.Common.{◌≡◌, ℕ, List, slice_index, subst, sym, ap, ◌∙◌, arith}
use Rattle.of10_actions.specs.Spelling.{IsBytes}
use Rattle.pkt_bytes.specs.Checksums.{IsRight, words_sum}
use Rattle.pkt_bytes.specs.Headers.{header_in}
use Rattle.pkt_bytes.specs.Ipv4.{header_words}
use Rattle.pkt_bytes.specs.Rewritten.{rewritten}
use Rattle.pkt_bytes.proofs.BytesAfter.{apart_stays}
use Rattle.pkt_bytes.proofs.HeaderAfter.{header_after}
use Rattle.pkt_bytes.proofs.HeaderSum.{sum_stays}
use Rattle.std.proofs.lemmas.Grind.{common_steps}
use Rattle.pkt_bytes.proofs.rewriting.rewrite.Goals as goal

pub returns-clause-header : goal.returns-clause-header
returns-clause-header c =
    let frame : c.from_vec.result ≡ rewritten c.args.r.now c.args.bytes.now = grind (arith, common_steps) in
    λ in_port whole. ap (header_in in_port) frame
    ∙ header_after c.args.r.now in_port c.args.bytes.now c.check_ranges.ensures whole

pub returns-clause-apart : goal.returns-clause-apart
returns-clause-apart c =
    let frame : c.from_vec.result ≡ rewritten c.args.r.now c.args.bytes.now = grind (arith, common_steps) in
    λ k apart. ap (λ (ys : List ℕ). slice_index ys k) frame ∙ apart_stays c.args.r.now c.args.bytes.now k apart

pub returns-clause-right : goal.returns-clause-right
returns-clause-right c =
    let frame : c.from_vec.result ≡ rewritten c.args.r.now c.args.bytes.now = grind (arith, common_steps) in
    let bytes : IsBytes c.args.bytes.now = λ k. omega (arith, c.type_inv.bytes k) in
    λ ip is right. subst IsRight (ap (λ (ys : List ℕ). words_sum ip.place (header_words ip) ys) (sym frame))
    (sum_stays c.args.r.now c.args.bytes.now ip c.check_ranges.ensures bytes is right)
