use Rattle.std.proofs.Common.{List, ℕ, ◌++◌, take, ap, ◌∙◌}
use Rattle.of10_frames.proofs.Errors.{error_is}
use Rattle.of10_frames.proofs.wire.error.Goals as goal

pub returns : goal.returns
returns c =
    let begun = c.in_ok-extend_from_slice.ensures.extended
    ∙ ap (λ (x : List ℕ). x ++ c.error_head-head.result) c.in_ok-message.ensures in
    error_is c.args.kind c.args.code c.min.result c.xid_of.result c.args.refused.now c.error_head-head.result
    c.extend_from_slice-2.new.self c.min.ensures c.xid_of.ensures c.error_head-head.ensures
    (c.in_ok-extend_from_slice-2.ensures.extended
    ∙ ap (λ (x : List ℕ). x ++ take c.min.result c.args.refused.now) begun)
