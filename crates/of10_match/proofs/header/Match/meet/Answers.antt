use Rattle.std.proofs.Common.{Some, ◌∙◌, sym, rules}
use Rattle.of10_match.proofs.Meeting.{apart_commutes, meet_commutes, meet_headers, meet_normal}
use Rattle.of10_match.proofs.header.Match.meet.Goals as goal

pub returns-then-overlaps-clause-headers : goal.returns-then-overlaps-clause-headers
returns-then-overlaps-clause-headers c =
    meet_headers (Some c.both.result) c.args.self.now c.args.other.now (search rules)

pub returns-then-overlaps-clause-normal : goal.returns-then-overlaps-clause-normal
returns-then-overlaps-clause-normal c =
    meet_normal (Some c.both.result) c.args.self.now c.args.other.now (search rules)

pub returns-then-overlaps-clause-commutes : goal.returns-then-overlaps-clause-commutes
returns-then-overlaps-clause-commutes c =
    meet_commutes _ c.args.self.now c.args.other.now (sym c.overlaps.ensures.value ∙ c.if-overlaps.true)
    c.both.ensures.commutes

pub returns-else-overlaps-clause-commutes : goal.returns-else-overlaps-clause-commutes
returns-else-overlaps-clause-commutes c =
    apart_commutes c.args.self.now c.args.other.now (sym c.overlaps.ensures.value ∙ c.if-overlaps.false)
