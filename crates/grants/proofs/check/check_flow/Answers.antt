use Rattle.std.proofs.Common.{List, subst₂}
use Rattle.of10_match.specs.Fields.{MatchOf}
use Rattle.of10_match.specs.Wildcards.{normal_of}
use Rattle.of10_actions.specs.declared.action.Action.{Action}
use Rattle.grants.specs.Denials.{Answers}
use Rattle.grants.specs.Rows.{entry_rows, first_of}
use Rattle.grants.proofs.Accepted.{entry_granted, on_ok}
use Rattle.grants.proofs.check.check_flow.Goals as goal

pub returns-clause-granted : goal.returns-clause-granted
returns-clause-granted c =
    let g = c.args.g.now in
    let v = c.args.v.now in
    let m = c.args.m.now in
    let E : MatchOf → List Action
    → Type 0 = λ n list. Answers (first_of (entry_rows g v n list)) c.check_entry.result in
    on_ok (first_of (entry_rows g v (normal_of m.m) m.actions)) c.check_entry.result _
    (λ e _. entry_granted g v (normal_of m.m) m.actions e)
    (subst₂ E c.read-normal.ensures.value c.as_slice.ensures c.check_entry.ensures)
