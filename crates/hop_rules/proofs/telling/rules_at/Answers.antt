use Rattle.std.proofs.Common.{◌≡◌, ◌∙◌, ◌<◌, List, ap, subst, sym, length, get_or, map, arith}
use Rattle.std.proofs.lemmas.List.{get_or_default}
use Rattle.std.proofs.lemmas.Result.{IfOk-weaker}
use Rattle.std.specs.Prelude.{Contains}
use Rattle.hop_rules.specs.Levels.{no_node, stand_at}
use Rattle.hop_rules.specs.Nodes.{NodeOf}
use Rattle.hop_rules.specs.Telling.{IsOfPort, rules_held}
use Rattle.hop_rules.specs.declared.level.Stand.{Stand}
use Rattle.hop_rules.proofs.Numbering.{held-is}
use Rattle.hop_rules.proofs.telling.rules_at.Goals as goal

pub returns-in-Some : goal.returns-in-Some
returns-in-Some c there =
    let level = c.args.level.now in
    let place = c.in-Some.place in
    let stands = c.as_slice.ensures in
    let lt : place < length level.stands =
    subst (λ (ss : List Stand). place < length ss) stands c.in-Some.ensures.there in
    let nodes = c.as_slice-in-Some.ensures in
    let inside : place < length c.as_slice-in-Some.result.now = let e = ap length nodes in let r = c.requires in
    omega arith in
    IfOk-weaker c.rules_of.result _ (IsOfPort level c.args.at)
    (λ rules e. record {
      number = place;
      there = lt;
      is_at = subst (λ (ss : List Stand). (stand_at ss place).at ≡ c.args.at) stands c.in-Some.ensures.found;
      rules_are =
          e ∙ ap (λ (n : NodeOf). rules_held n.held) (c.index-as_slice-place.is
          ∙ get_or_default c.as_slice-in-Some.result.now place c.index-as_slice-place.result no_node inside
          ∙ ap (λ (ns : List NodeOf). get_or ns place no_node) nodes)
          ∙ ap rules_held (sym (held-is level.nodes place));
    })
    c.rules_of.ensures

pub returns-in-None : goal.returns-in-None
returns-in-None c there =
    absurd
    (c.in-None.ensures.none (subst (λ (ss : List Stand). Contains (map (λ (s : Stand). s.at) ss) c.args.at)
    (sym c.as_slice.ensures) there))
