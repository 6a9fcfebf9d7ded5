-- The leaves that are used.
use Rattle.std.proofs.Common.{◌≡◌, List, [], ◌∷◌, ◌++◌, refl, ap, ◌∙◌}
use Rattle.std.specs.Prelude.{map}
use Rattle.std.proofs.lemmas.List.Elements.{filter_map-append}
use Rattle.explain_path.specs.Traces.{unused}
use Rattle.explain_path.specs.Used.{used_leaf, used_leaves}
use Rattle.explain_path.specs.declared.trace.LeafTrace.{LeafTrace}

pub used-append : (xs ys : List LeafTrace) → used_leaves (xs ++ ys) ≡ used_leaves xs ++ used_leaves ys
used-append xs ys = filter_map-append used_leaf xs ys

none-used : (xs : List LeafTrace) → used_leaves (map unused xs) ≡ []
none-used [] = refl
none-used (x ∷ xs) = none-used xs

-- of the right operand alone, where the left's aren't used
pub used-over : (xs ys : List LeafTrace) → used_leaves (map unused xs ++ ys) ≡ used_leaves ys
used-over xs ys = used-append (map unused xs) ys ∙ ap (λ zs. zs ++ used_leaves ys) (none-used xs)
