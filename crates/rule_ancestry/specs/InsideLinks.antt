-- The links from names to ids.
use Rattle.std.specs.Prelude.{◌≡◌, ℕ, Bool, Option, List}
use Rattle.std.specs.List.{list_any}
use Rattle.std.specs.Ordering.{nat_cmp, ordering_then, is_eq}
use Rattle.std.specs.declared.cmp.Ordering.{Ordering}
use Rattle.std.specs.BTreeSet.{BTreeSet, contains}
use Rattle.rule_ancestry.specs.InsideSlots.{at}
use Rattle.rule_ancestry.specs.Names.{names_at}
use Rattle.rule_ancestry.specs.declared.links.Link.{Link}

module _ {N : Type 0} (cmp : N → N → Ordering) where
  -- links by their name, then by their id
  abbrev pub by_link : Link N → Link N → Ordering
  by_link a b = ordering_then (cmp a.name b.name) (nat_cmp a.id b.id)

  -- q is the link of one of these names to the id
  abbrev pub links_to : List N → ℕ → Link N → Bool
  links_to borne id q = list_any (λ n. is_eq (by_link (record { name = n; id = id }) q)) borne

  -- the links are those of what is held, and no others
  abbrev pub AreLinks : {R : Type 0} → (R → List N) → List (Option R) → BTreeSet (Link N) → Type 0
  AreLinks borne slots links = (q : Link N) → contains by_link links q ≡ names_at cmp borne (at slots q.id) q.name
