use Rattle.of10_match.proofs.Commuting.{meet-comm}
use Rattle.of10_match.proofs.Holding.{holds-both}
use Rattle.of10_match.proofs.MeetSelf.{meet_self}
use Rattle.of10_match.proofs.NormalMeet.{IsNormal-both}
use Rattle.of10_match.proofs.laws.meet_laws.Goals as goal

pub returns-clause-holds_both : goal.returns-clause-holds_both
returns-clause-holds_both c = holds-both

pub returns-clause-idempotent : goal.returns-clause-idempotent
returns-clause-idempotent c = meet_self

pub returns-clause-commutative : goal.returns-clause-commutative
returns-clause-commutative c = meet-comm

pub returns-clause-normal : goal.returns-clause-normal
returns-clause-normal c = IsNormal-both
