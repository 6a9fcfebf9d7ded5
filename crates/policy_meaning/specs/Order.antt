-- The order in which rules are listed.
use Rattle.std.specs.Prelude.{◌≡◌, List, IsPermutation, IsSorted}
use Rattle.std.specs.Ordering.{nat_cmp, ordering_then}
use Rattle.std.specs.List.{AllByRecursion}
use Rattle.std.specs.Option.{option_cmp}
use Rattle.std.specs.declared.cmp.Ordering.{Ordering}
use Rattle.cv_io.specs.Leaves.{ancestry_cmp}
use Rattle.of10_match.specs.Fields.{HeaderOf}
use Rattle.of10_match.specs.Order.{by_bytes}
use Rattle.of10_match.specs.Ranges.{IsMatch}
use Rattle.policy_meaning.specs.Best.{IsBest}
use Rattle.policy_meaning.specs.Disjoint.{AreAllDisjoint}
use Rattle.policy_meaning.specs.declared.rule.Rule.{Rule}

-- rules by their ancestry, then by in_port, none first, then by the bytes of their matches
abbrev pub by_ancestry : Rule → Rule → Ordering
by_ancestry a b = ordering_then (ancestry_cmp a.ancestry b.ancestry)
    (ordering_then (option_cmp nat_cmp a.m.in_port b.m.in_port) (by_bytes a.m b.m))

-- the same rules, in that order
pub record IsListing (rules listed : List Rule) : Type 0 where
  pub same : IsPermutation rules listed
  pub rising : IsSorted by_ancestry listed

-- the best of some rules is their best in any order
abbrev pub OrderKeepsBest : Type 0
OrderKeepsBest = (h : HeaderOf) (xs ys : List Rule) (r : Rule) → IsPermutation xs ys → IsBest h xs r → IsBest h ys r

-- of rules that are disjoint, with matches in range, there is one listing, whichever their order
abbrev pub ListingIsUnique : Type 0
ListingIsUnique =
    (rules others listed list : List Rule) → IsPermutation rules others → AreAllDisjoint rules
    → AllByRecursion (λ (r : Rule). IsMatch r.m) rules
    → IsListing rules listed → IsListing others list → listed ≡ list
