use Rattle.std.proofs.Common.{List, get_or, set, subst, sym}
use Rattle.std.proofs.lemmas.List.{get_or_default}
use Rattle.policy_meaning.specs.declared.rule.Rule.{Rule}
use Rattle.hop_rules.specs.Climbing.{IsHandedOver}
use Rattle.hop_rules.specs.Handed.{AreListed, GivenOf}
use Rattle.hop_rules.specs.Levels.{none_given}
use Rattle.hop_rules.specs.Turns.{Hands}
use Rattle.hop_rules.specs.declared.node.Turn.{Turn}
use Rattle.hop_rules.proofs.Keeping.{hands-over}
use Rattle.hop_rules.proofs.parts.hand_over.Goals as goal

pub turn-requires : goal.turn-requires
turn-requires c =
    subst (λ (x : GivenOf). AreListed x x.rules)
    (sym (get_or_default c.args.given.now c.args.v c.index-given-v.result none_given c.requires.there))
    (c.requires.listed c.args.v)

pub returns : goal.returns
returns c =
    let old = c.args.given.now in
    let v = c.args.v in
    let g = c.turn.new.self in
    let delta = c.args.delta.now in
    let t = c.in_ok-turn.turn in
    let was : GivenOf = get_or old v c.index-given-v.result in
    let here = get_or_default old v c.index-given-v.result none_given c.requires.there in
    let hands =
    subst (λ (x : GivenOf). Hands x g delta.gone delta.come t) here
    (subst (λ (come : List Rule). Hands was g delta.gone come t) c.as_slice-2.ensures
    (subst (λ (gone : List Rule). Hands was g gone c.as_slice-2.result.now t) c.as_slice.ensures
    c.in_ok-turn.ensures.turned)) in
    subst (λ (s : Turn). IsHandedOver old (set old v g) v delta.gone delta.come (record { v = v; turn = t; still = s }))
    (sym c.none.ensures)
    (hands-over old v g c.requires.there c.requires.listed c.requires.rising delta.gone delta.come t hands)
