use Rattle.std.proofs.Common.{inr}
use Rattle.policy_notes.proofs.finding.line_at.Goals as goal

pub returns-then-at-text : goal.returns-then-at-text
returns-then-at-text c = inr (c.args.at, c.if-at-text.true, c.line_number.ensures)
