use Rattle.std.proofs.lemmas.Result.{IfOk-weaker, IfErr-weaker, MatchResult-from_both}
use Rattle.policy_expr.proofs.Accepted.{reading_accepted, reading_fault, accepted_reading, accepted_fault}
use Rattle.policy_expr.proofs.parsing.parse.Goals as goal

pub returns-clause-found : goal.returns-clause-found
returns-clause-found c =
    IfOk-weaker c.parse_signs.result _ _ (λ expr given. reading_accepted c.args.members.now c.args.text.now _ given)
    c.parse_signs.ensures.read

pub returns-clause-only : goal.returns-clause-only
returns-clause-only c p accepted =
    let members = c.args.members.now in
    let text = c.args.text.now in
    MatchResult-from_both c.parse_signs.result _ _
    (IfOk-weaker c.parse_signs.result _ _ (λ expr given. let done = accepted_reading members text p accepted in cc)
    c.parse_signs.ensures.read)
    (IfErr-weaker c.parse_signs.result _ _ (λ fault given. accepted_fault members text p fault accepted given)
    c.parse_signs.ensures.fault)

pub returns-clause-first : goal.returns-clause-first
returns-clause-first c =
    IfErr-weaker c.parse_signs.result _ _ (λ fault given. reading_fault c.args.members.now c.args.text.now fault given)
    c.parse_signs.ensures.fault
