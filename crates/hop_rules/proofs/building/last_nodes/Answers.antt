use Rattle.std.proofs.Common.{◌∙◌, ◌∷◌, [], ap, length, subst, sym, arith}
use Rattle.std.specs.List.{AllByRecursion}
use Rattle.std.proofs.lemmas.List.{length_push}
use Rattle.made_rules.specs.declared.made.Made.{Made}
use Rattle.hop_rules.specs.Building.{IsLast}
use Rattle.hop_rules.proofs.Numbering.{all-joined}
use Rattle.hop_rules.proofs.building.last_nodes.Goals as goal

pub loop-end-preserved : goal.loop-end-preserved
loop-end-preserved c =
    let inv = c.loop-end.invariant in
    let node = c.in_ok-node.node in
    let is : IsLast node = record {
      held = c.in_ok-node.ensures.held
          ∙ ap (λ (m : Made). m ∷ []) c.last_made.ensures;
      read = c.in_ok-node.ensures.read;
    } in
    record {
      count = let p = ap length c.in_ok-push.ensures.pushed in let l = length_push c.loop-end.nodes node in let n =
          inv.count in omega arith;
      each = subst (AllByRecursion IsLast) (sym c.in_ok-push.ensures.pushed)
          (all-joined IsLast c.loop-end.nodes (node ∷ []) inv.each (is, tt));
    }
