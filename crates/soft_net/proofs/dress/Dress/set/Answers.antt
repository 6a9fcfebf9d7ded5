use Rattle.std.proofs.Common.{ℕ, ◌∙◌, ap, ap₂, Option}
use Rattle.of10_actions.specs.Fields.{RewriteOf}
use Rattle.of10_actions.specs.Rewriting.{and_then}
use Rattle.soft_net.specs.declared.dress.Dress.{Dress}
use Rattle.soft_net.proofs.dress.Dress.set.Goals as goal

pub returns : goal.returns
returns c =
    let D : RewriteOf → Option ℕ → Dress = λ r t. record { rewrite = r; tag = t } in
    ap₂ D (c.then.ensures ∙ ap (and_then c.args.self.rewrite) c.rewrite.ensures) c.tag_after.ensures
