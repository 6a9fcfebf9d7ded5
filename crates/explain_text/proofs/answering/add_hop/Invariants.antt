use Rattle.std.proofs.Common.{◌≡◌, [], ◌∷◌, ◌++◌, map, take}
use Rattle.explain_text.specs.declared.finding.Finding.TheVariants.{Hop, Leaf}
use Rattle.explain_text.proofs.answering.add_hop.Given as goal

abbrev pub invariant-loop-leaf : goal.invariant-loop-leaf
invariant-loop-leaf l =
    l.answer ≡ (l.fn.answer ++ Hop l.hop.v l.hop.port ∷ []) ++ map Leaf (take l.leaf-index l.leaf-items)
