use Rattle.member_replies.proofs.Short.{granted_is_short}
use Rattle.member_replies.proofs.laws.granted_lists_are_short.Goals as goal

pub returns : goal.returns
returns c = granted_is_short
