use Rattle.std.proofs.Common.{◌∙◌, map, sym, arith}
use Rattle.std.proofs.lemmas.List.{get_or_default, length-map}
use Rattle.hop_rules.specs.Levels.{no_stand}
use Rattle.hop_rules.specs.Links.{no_place}
use Rattle.hop_rules.specs.declared.level.Stand.{Stand}
use Rattle.hop_rules.proofs.Numbering.{map-at}
use Rattle.hop_rules.proofs.telling.place_of.Goals as goal

pub returns-clause-none : goal.returns-clause-none
returns-clause-none c d =
    let stands = c.args.stands.now in
    let n = length-map stands (λ (s : Stand). s.at) in
    let lt = d.1 in
    let le = c.loop-place-test.false in
    let at = sym (map-at (λ (s : Stand). s.at) no_stand stands d.0)
    ∙ get_or_default (map (λ (s : Stand). s.at) stands) d.0 no_place c.args.at lt ∙ d.2 in
    c.loop-place.invariant d.0 (omega arith) at
