use Rattle.std.proofs.Common.{◌∙◌, List, ℕ, ap, refl, sym}
use Rattle.cv_io.specs.declared.leaf.Who.{Who}
use Rattle.machine_drafts.specs.Machines.{state_in_held}
use Rattle.machine_meaning.specs.Takings.{left_by, takes_by}
use Rattle.hyper_core.proofs.takings.take.Goals as goal

pub returns-in-Audit-clause-reply : goal.returns-in-Audit-clause-reply
returns-in-Audit-clause-reply c =
    let s = state_in_held c.args.held.now in
    c.take_line.ensures.reply s refl ∙ ap (λ (who : Who). takes_by s who c.args.session.round) (sym c.in-Audit.is)

pub returns-in-Audit-clause-left : goal.returns-in-Audit-clause-left
returns-in-Audit-clause-left c =
    let s = state_in_held c.args.held.now in
    ap (λ (lines : List (List ℕ)). record s { audit = lines }) (c.take_line.ensures.left s refl)
    ∙ ap (λ (who : Who). left_by who c.args.session.round s) (sym c.in-Audit.is)
