use Rattle.std.proofs.Common.{◌≡◌, ◌∙◌, subst, sym}
use Rattle.std.proofs.lemmas.List.{get_or_default}
use Rattle.hop_rules.specs.Handed.{GivenOf}
use Rattle.hop_rules.specs.Levels.{given_at, none_given}
use Rattle.hop_rules.specs.Nodes.{IsSetUp}
use Rattle.hop_rules.proofs.Levelling.{made-there, steps-there}
use Rattle.hop_rules.proofs.level.change_at.Goals as goal

pub change_node-requires : goal.change_node-requires
change_node-requires g c =
    let r = c.requires in
    let here : c.index-given-stand.result ≡ given_at c.args.given.now c.args.stand.now.at.v = c.index-given-stand.is
    ∙ get_or_default c.args.given.now c.args.stand.now.at.v c.index-given-stand.result none_given r.there in
    (r.own, subst (λ (x : GivenOf). IsSetUp r.own c.args.stand.now.size x c.args.below.now) (sym here) r.set_up)

pub returns-clause-made : goal.returns-clause-made
returns-clause-made g c old before ev t m =
    let here : c.index-given-stand.result ≡ given_at c.args.given.now c.args.stand.now.at.v = c.index-given-stand.is
    ∙ get_or_default c.args.given.now c.args.stand.now.at.v c.index-given-stand.result none_given
    c.requires.there in
    made-there c.args.given.now old c.args.below.now c.args.event.now c.args.turns.now c.args.stand.now
    c.index-given-stand.result c.turn_of-own_turn.result.now here c.turn_of-own_turn.ensures ev
    before c.args.node.now.held c.change_node.new.node.held c.in_ok-turn.ensures.made t m

pub returns-clause-steps : goal.returns-clause-steps
returns-clause-steps g c old ev =
    let here : c.index-given-stand.result ≡ given_at c.args.given.now c.args.stand.now.at.v = c.index-given-stand.is
    ∙ get_or_default c.args.given.now c.args.stand.now.at.v c.index-given-stand.result none_given
    c.requires.there in
    steps-there c.args.given.now old c.args.below.now c.args.event.now c.args.turns.now c.args.stand.now
    c.index-given-stand.result c.turn_of-own_turn.result.now here c.turn_of-own_turn.ensures ev
    c.args.steps.now c.change_node.new.steps c.change_node.ensures.steps

pub returns-in_err-turn-clause-steps : goal.returns-in_err-turn-clause-steps
returns-in_err-turn-clause-steps g c old ev =
    let here : c.index-given-stand.result ≡ given_at c.args.given.now c.args.stand.now.at.v = c.index-given-stand.is
    ∙ get_or_default c.args.given.now c.args.stand.now.at.v c.index-given-stand.result none_given
    c.requires.there in
    steps-there c.args.given.now old c.args.below.now c.args.event.now c.args.turns.now c.args.stand.now
    c.index-given-stand.result c.turn_of-own_turn.result.now here c.turn_of-own_turn.ensures ev
    c.args.steps.now c.change_node.new.steps c.change_node.ensures.steps
