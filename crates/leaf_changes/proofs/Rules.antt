-- The rules of entries among those of a table.
use Rattle.std.proofs.Common.{◌≡◌, ◌∙◌, ℕ, ◌+◌, ◌<◌, Bool, true, false, List, [], ◌∷◌, ◌++◌, map, filter, Option, Some}
use Rattle.std.proofs.Common.{None, arith, refl, ap, ap₂, subst, slice_get}
use Rattle.std.specs.Prelude.{if◌then◌else◌, option_map}
use Rattle.std.specs.List.{AllByRecursion, cons_option}
use Rattle.std.proofs.lemmas.Bool.{le-leb}
use Rattle.of10_match.specs.Fields.{MatchOf}
use Rattle.of10_match.specs.Matching.{meet}
use Rattle.of10_match.specs.Normal.{IsNormal}
use Rattle.of10_match.proofs.NormalMeet.{IsNormal-both}
use Rattle.policy_meaning.specs.LeafRules.{cells, entry_rule, has_outside, in_cells, leaf_rules, miss_rule}
use Rattle.policy_meaning.specs.LeafRules.{outside_rule, rule_met}
use Rattle.policy_meaning.specs.declared.leaf.LeafEntry.{LeafEntry}
use Rattle.policy_meaning.specs.declared.leaf.LeafTable.{LeafTable}
use Rattle.policy_meaning.specs.declared.rule.Rule.{Rule}
use Rattle.policy_meaning.proofs.Cells.{narrowed, normal-cells}
use Rattle.policy_meaning.proofs.Lists.{all-filter_map, all-flat_map, all-mapped}
use Rattle.policy_meaning.proofs.Meeting.{some_met}
use Rattle.leaf_changes.specs.Leaves.{entry_rules}
use Rattle.leaf_changes.specs.Told.{IsFitting, is_entry_leaf, is_of_entry}
use Rattle.leaf_changes.proofs.Lists.{all_pass, filter_joined, none_pass, weaker}

-- a rule in each cell keeps its leaves
met_next : (a : Rule) (o : Option MatchOf) (rest : List Rule)
    → AllByRecursion (λ (r : Rule). r.ancestry ≡ a.ancestry) rest
    → AllByRecursion (λ (r : Rule). r.ancestry ≡ a.ancestry) (cons_option (option_map (λ m. record a { m = m }) o) rest)
met_next a None rest h = h
met_next a (Some m) rest h = (refl, h)

pub all_met : (boxes : List MatchOf) (a : Rule)
    → AllByRecursion (λ (r : Rule). r.ancestry ≡ a.ancestry) (in_cells boxes a)
all_met [] a = tt
all_met (n ∷ ns) a = met_next a (meet a.m n) (in_cells ns a) (all_met ns a)

-- which of them are of entries
entry_kept : (boxes : List MatchOf) (a : Rule) → is_of_entry a ≡ true
    → filter is_of_entry (in_cells boxes a) ≡ in_cells boxes a
entry_kept boxes a t =
    all_pass is_of_entry (in_cells boxes a)
    (weaker (λ (r : Rule). r.ancestry ≡ a.ancestry) (λ (r : Rule). is_of_entry r ≡ true)
    (λ r e. ap (λ ls. is_entry_leaf (slice_get ls 0)) e ∙ t) (in_cells boxes a) (all_met boxes a))

other_gone : (boxes : List MatchOf) (a : Rule) → is_of_entry a ≡ false → filter is_of_entry (in_cells boxes a) ≡ []
other_gone boxes a t =
    none_pass is_of_entry (in_cells boxes a)
    (weaker (λ (r : Rule). r.ancestry ≡ a.ancestry) (λ (r : Rule). is_of_entry r ≡ false)
    (λ r e. ap (λ ls. is_entry_leaf (slice_get ls 0)) e ∙ t) (in_cells boxes a) (all_met boxes a))

module _ (ports : List ℕ) (t : LeafTable) where
  abbrev boxes : List MatchOf
  boxes = cells ports t

  entries_kept : (es : List LeafEntry) → filter is_of_entry (entry_rules ports t es) ≡ entry_rules ports t es
  entries_kept [] = refl
  entries_kept (e ∷ es) =
      filter_joined is_of_entry (in_cells boxes (entry_rule t e)) (entry_rules ports t es)
      ∙ ap₂ (λ xs ys. xs ++ ys) (entry_kept boxes (entry_rule t e) (le-leb 2 (2 + e.serial) (omega arith)))
      (entries_kept es)

  outside_gone : (b : Bool) → filter is_of_entry (if b then outside_rule t ∷ [] else []) ≡ []
  outside_gone true = refl
  outside_gone false = refl

  -- the rules of a table that are of entries
  pub entries_only : filter is_of_entry (leaf_rules ports t) ≡ entry_rules ports t t.entries
  entries_only =
      filter_joined is_of_entry (if has_outside ports t then outside_rule t ∷ [] else [])
      (in_cells boxes (miss_rule t) ++ entry_rules ports t t.entries)
      ∙ (ap (λ xs. xs ++ filter is_of_entry (in_cells boxes (miss_rule t) ++ entry_rules ports t t.entries))
      (outside_gone (has_outside ports t))
      ∙ (filter_joined is_of_entry (in_cells boxes (miss_rule t)) (entry_rules ports t t.entries)
      ∙ ap₂ (λ xs ys. xs ++ ys) (other_gone boxes (miss_rule t) refl) (entries_kept t.entries)))

  -- they have normal matches, and levels of the table
  abbrev pub FitsIn : ℕ → Rule → Type 0
  FitsIn size r = IsNormal r.m × (r.level < size)

  in_cells_fit : (size : ℕ) → AllByRecursion IsNormal t.region → (a : Rule) → FitsIn size a
      → AllByRecursion (FitsIn size) (in_cells boxes a)
  in_cells_fit size normal a fits =
      all-filter_map IsNormal (FitsIn size) (rule_met a) boxes
      (λ n y e m. let s = some_met (narrowed a) a.m n y e in
      subst (FitsIn size) s.1 (IsNormal-both a.m n s.0 fits.0 m, fits.1)) (normal-cells ports t normal)

  pub rules_fit : (size : ℕ) → AllByRecursion IsNormal t.region → (es : List LeafEntry)
      → AllByRecursion (IsFitting size) es → AllByRecursion (FitsIn size) (entry_rules ports t es)
  rules_fit size normal es fits =
      all-flat_map (FitsIn size) (FitsIn size) (in_cells boxes) (map (entry_rule t) es) (in_cells_fit size normal)
      (all-mapped (IsFitting size) (FitsIn size) (entry_rule t) es (λ e f. (f.normal, f.below)) fits)
