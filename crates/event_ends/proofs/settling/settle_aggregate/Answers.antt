use Rattle.std.proofs.Common.{◌∙◌, ℕ, List, ◌++◌, ap, map}
use Rattle.machine_meaning.specs.Drafts.{letter}
use Rattle.machine_drafts.specs.Outcomes.{draft_in}
use Rattle.machine_meaning.specs.declared.said.Letter.{Letter}
use Rattle.event_ends.proofs.settling.settle_aggregate.Goals as goal

pub returns-clause-drafted : goal.returns-clause-drafted
returns-clause-drafted c =
    let d = draft_in c.args.draft.now in
    ap (λ (ls : List Letter). record d { settled = ls })
    (c.in_ok-address_all.ensures
    ∙ ap (λ (rs : List (List ℕ)). c.args.draft.now.settled ++ map (letter c.args.asker.now.member) rs)
    c.in_ok-replies.ensures)
