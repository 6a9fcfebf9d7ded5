use Rattle.std.proofs.Common.{◌≡◌, ◌∙◌, ◌++◌, List, ap, sym, get_or}
use Rattle.std.proofs.lemmas.List.{get_or_default}
use Rattle.std.proofs.lemmas.Result.{on_ok_weaker}
use Rattle.hop_rules.specs.Levels.{no_node, stand_at}
use Rattle.hop_rules.specs.Nodes.{NodeOf}
use Rattle.hop_rules.specs.Telling.{delta_if}
use Rattle.hop_rules.specs.declared.level.Stand.{Stand}
use Rattle.hop_rules.proofs.Numbering.{held-is}
use Rattle.hop_rules.proofs.telling.add_delta_at.Goals as goal

pub returns : goal.returns
returns c =
    let level = c.args.level.now in
    let n = c.args.number in
    let stands : c.as_slice-stands.result.now ≡ level.stands = c.as_slice-stands.ensures in
    let nodes : c.as_slice-nodes.result.now ≡ level.nodes = c.as_slice-nodes.ensures in
    let at = ap (λ (ss : List Stand). (stand_at ss n).at) stands in
    let held =
    ap (λ (m : NodeOf). m.held) (c.index-nodes-number.is
    ∙ ap (λ (ns : List NodeOf). get_or ns n c.index-nodes-number.result) nodes
    ∙ get_or_default level.nodes n c.index-nodes-number.result no_node c.requires.nodes)
    ∙ sym (held-is level.nodes n) in
    on_ok_weaker c.add_delta.result (λ e. e ∙ (λ i. c.args.deltas.now ++ delta_if (at i) (held i) c.args.told))
    c.add_delta.ensures
