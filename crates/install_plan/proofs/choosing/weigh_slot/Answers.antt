use Rattle.std.proofs.Common.{sym, ap, ◌∙◌}
use Rattle.std.specs.Option.{option_and_then}
use Rattle.install_plan.specs.InsideBest.{candidate_if}
use Rattle.install_plan.proofs.Candidates.{top-of}
use Rattle.install_plan.proofs.choosing.weigh_slot.Goals as goal

pub returns-in-Some : goal.returns-in-Some
returns-in-Some c =
    c.weigh_entry.ensures
    ∙ ap (option_and_then (candidate_if c.args.header.now c.args.key.now))
    (sym (top-of c.args.slot.now c.in-Some.entry.now (sym c.in-Some.ensures)))
