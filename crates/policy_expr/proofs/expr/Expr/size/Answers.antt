use Rattle.std.proofs.Common.{◌∙◌, ◌≡◌, ◌++◌, [], ap, append-nil, map, sym}
use Rattle.alg_priority.specs.Levels.{capped}
use Rattle.policy_expr.specs.Policy.{members_of, policy_of}
use Rattle.policy_expr.specs.Sizes.{size_by_leaf}
use Rattle.policy_expr.proofs.SizeLemmas.{size_by_leaf-map}
use Rattle.policy_expr.proofs.expr.Expr.size.Goals as goal

pub returns-clause-by_member : goal.returns-clause-by_member
returns-clause-by_member c bits_of same =
    let p = policy_of c.args.self.now in
    let whole : c.as_slice.result.now ≡ map bits_of (members_of p) ++ [] = c.as_slice.ensures ∙ same
    ∙ sym (append-nil _) in
    c.size_and_rest.ensures.size ∙ ap (λ bits. capped (size_by_leaf bits p)) whole
    ∙ ap capped (size_by_leaf-map bits_of p [])
