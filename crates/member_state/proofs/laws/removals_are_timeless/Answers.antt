use Rattle.member_state.proofs.Rows.{removed_alike}
use Rattle.member_state.proofs.laws.removals_are_timeless.Goals as goal

pub returns : goal.returns
returns c = removed_alike
