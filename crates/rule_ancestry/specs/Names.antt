-- Which names a held item bears.
use Rattle.std.specs.Prelude.{Bool, false, List, Option, Some, None}
use Rattle.std.specs.List.{list_any}
use Rattle.std.specs.Ordering.{is_eq}
use Rattle.std.specs.declared.cmp.Ordering.{Ordering}
use Rattle.rule_ancestry.specs.Holding.{Held}

module _ {N : Type 0} (cmp : N → N → Ordering) where
  -- some of the names is this one
  abbrev pub names : List N → N → Bool
  names borne name = list_any (λ n. is_eq (cmp n name)) borne

  -- the held item bears the name
  abbrev pub bears : {R : Type 0} → (R → List N) → N → Held R → Bool
  bears borne name h = names (borne h.item) name

  -- an item, if there is one, bears the name
  abbrev pub names_at : {R : Type 0} → (R → List N) → Option R → N → Bool
  names_at borne None name = false
  names_at borne (Some r) name = names (borne r) name
