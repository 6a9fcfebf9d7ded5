-- The rules that come and those that stay are the rules of the other table.
use Rattle.std.proofs.Common.{◌≡◌, ℕ, true, false, not, List, [], ◌∷◌, ◌++◌, map, filter, refl, ap}
use Rattle.std.specs.Prelude.{IsPermutation}
use Rattle.std.specs.List.{list_any}
use Rattle.std.proofs.lemmas.List.Sorted.{IsPermutation-append_left, IsPermutation-map, IsPermutation-trans}
use Rattle.cv_io.specs.declared.leaf.Leaf.{Leaf}
use Rattle.list_change.proofs.Permute.{permuted-flat_map}
use Rattle.incr_compile.specs.Compiling.{is_apart_from, rules_after, same_leaf}
use Rattle.policy_meaning.proofs.Lists.{all-each}
use Rattle.policy_meaning.specs.LeafRules.{cells, entry_rule, in_cells, leaf_rules}
use Rattle.policy_meaning.specs.declared.leaf.LeafEntry.{LeafEntry}
use Rattle.policy_meaning.specs.declared.leaf.LeafTable.{LeafTable}
use Rattle.policy_meaning.specs.declared.rule.Rule.{Rule}
use Rattle.leaf_changes.specs.Leaves.{entries_among, entry_rules, leaf_at}
use Rattle.leaf_changes.specs.Told.{IsTold}
use Rattle.leaf_changes.specs.Touched.{has_kind}
use Rattle.leaf_changes.proofs.Leaves.{leaves-change}
use Rattle.leaf_changes.proofs.Lists.{all_pass}

pub told_changes : (ports : List ℕ) (t u : LeafTable) (serials : List ℕ) (come : List LeafEntry)
    → IsTold t u serials come
    → IsPermutation
    (rules_after (record {
      member = u.member;
      gone = map (leaf_at u.member) (filter has_kind serials);
      come = entry_rules ports u come;
    }) (leaf_rules ports t))
    (leaf_rules ports u)
told_changes ports t u serials come told =
    let named : List ℕ = filter has_kind serials in
    let among : List LeafEntry = entries_among named u.entries in
    let left : List Rule = filter (is_apart_from (map (leaf_at u.member) named)) (leaf_rules ports t) in
    IsPermutation-trans (entry_rules ports u come ++ left) (entry_rules ports u among ++ left) (leaf_rules ports u)
    (IsPermutation-append_left left (entry_rules ports u come) (entry_rules ports u among)
    (permuted-flat_map (in_cells (cells ports u)) (map (entry_rule u) come) (map (entry_rule u) among)
    (IsPermutation-map (entry_rule u) come among told.are)))
    (leaves-change ports named t u told.differs)

-- where nothing goes and nothing comes, the rules stay
none_of : (ls : List Leaf) → list_any (λ (l : Leaf). list_any (same_leaf l) []) ls ≡ false
none_of [] = refl
none_of (l ∷ ls) = none_of ls

pub nothing_changes : (i : ℕ) (rules : List Rule)
    → rules_after (record { member = i; gone = []; come = [] }) rules ≡ rules
nothing_changes i rules =
    all_pass (is_apart_from []) rules
    (all-each (λ (r : Rule). is_apart_from [] r ≡ true) rules (λ r. ap not (none_of r.ancestry)))
