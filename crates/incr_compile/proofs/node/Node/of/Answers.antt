use Rattle.std.proofs.Common.{refl}
use Rattle.std.proofs.lemmas.List.Sorted.{IsPermutation-refl}
use Rattle.incr_compile.proofs.Wholes.{whole-node}
use Rattle.incr_compile.proofs.node.Node.of.Goals as goal

pub returns-in-Ok-clause-node : goal.returns-in-Ok-clause-node
returns-in-Ok-clause-node g c =
    whole-node _ c.args.op c.args.size _ c.args.left.now c.args.right.now refl refl
    (IsPermutation-refl _) c.in-Ok.ensures.made c.in_ok-filed.ensures.left c.in_ok-filed.ensures.right
