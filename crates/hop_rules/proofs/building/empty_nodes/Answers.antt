use Rattle.std.proofs.Common.{◌∷◌, [], ap, length, subst, sym, arith}
use Rattle.std.specs.List.{AllByRecursion}
use Rattle.std.proofs.lemmas.List.{length_push}
use Rattle.hop_rules.specs.Building.{IsEmptyNode}
use Rattle.hop_rules.proofs.Numbering.{all-joined}
use Rattle.hop_rules.proofs.building.empty_nodes.Goals as goal

pub loop-stand-preserved : goal.loop-stand-preserved
loop-stand-preserved c =
    let inv = c.loop-stand.invariant in
    let node = c.new.result in
    record {
      count = let p = ap length c.in_ok-push.ensures.pushed in let l = length_push c.loop-stand.nodes node in let n =
          inv.count in omega arith;
      each = subst (AllByRecursion (IsEmptyNode c.args.is_read)) (sym c.in_ok-push.ensures.pushed)
          (all-joined (IsEmptyNode c.args.is_read) c.loop-stand.nodes (node ∷ []) inv.each (c.new.ensures, tt));
    }
