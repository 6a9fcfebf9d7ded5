-- The rules of a table that differs from another in some entries alone.
use Rattle.std.proofs.Common.{◌≡◌, ◌∙◌, ℕ, ◌+◌, ◌==◌, Bool, true, false, not, ◌&&◌, ◌||◌, List, [], ◌∷◌, ◌++◌}
use Rattle.std.proofs.Common.{map, filter, arith, refl, sym, ap, subst, eqb-true, eq-eqb}
use Rattle.std.specs.Prelude.{IsPermutation, if◌then◌else◌}
use Rattle.std.specs.List.{list_any}
use Rattle.std.proofs.lemmas.Bool.{ne_eqb}
use Rattle.std.proofs.lemmas.List.Sorted.{IsPermutation-append_right, IsPermutation-refl, IsPermutation-trans}
use Rattle.cv_io.specs.declared.leaf.Leaf.{Leaf}
use Rattle.incr_compile.specs.Compiling.{is_apart_from, rules_after, same_leaf}
use Rattle.member_table.specs.Changes.{is_among}
use Rattle.of10_match.specs.Fields.{MatchOf}
use Rattle.policy_meaning.specs.LeafRules.{cells, entry_rule, has_outside, in_cells, leaf_rules, miss_rule}
use Rattle.policy_meaning.specs.LeafRules.{outside_rule}
use Rattle.policy_meaning.specs.declared.leaf.LeafEntry.{LeafEntry}
use Rattle.policy_meaning.specs.declared.leaf.LeafTable.{LeafTable}
use Rattle.policy_meaning.specs.declared.rule.Rule.{Rule}
use Rattle.leaf_changes.specs.Leaves.{LeavesChange, entries_among, entries_apart, entry_rules, leaf_at}
use Rattle.leaf_changes.proofs.Lists.{all_pass, behind, filter_joined, joined, none_pass, weaker}
use Rattle.leaf_changes.proofs.Rules.{all_met}

-- leaves ------------------------------------------------------------------------------------------------------------

or_none : (b : Bool) → (b || false) ≡ b
or_none true = refl
or_none false = refl

-- some leaf is that of this kind
any_leaf : (i k : ℕ) (serials : List ℕ)
    → list_any (same_leaf (record { member = i; kind = k })) (map (leaf_at i) serials)
    ≡ list_any (λ s. k == (2 + s)) serials
any_leaf i k [] = refl
any_leaf i k (s ∷ ss) =
    ap (λ b. (b && (k == (2 + s))) || list_any (same_leaf (record { member = i; kind = k })) (map (leaf_at i) ss))
    (eq-eqb i i refl)
    ∙ ap (λ b. (k == (2 + s)) || b) (any_leaf i k ss)

abbrev IsOfKind : ℕ → ℕ → Rule → Type 0
IsOfKind i k r = r.ancestry ≡ record { member = i; kind = k } ∷ []

apart_is : (i k : ℕ) (serials : List ℕ) (r : Rule) → IsOfKind i k r
    → is_apart_from (map (leaf_at i) serials) r ≡ not (list_any (λ s. k == (2 + s)) serials)
apart_is i k serials r e =
    ap (λ (ls : List Leaf). not (list_any (λ (l : Leaf). list_any (same_leaf l) (map (leaf_at i) serials)) ls)) e
    ∙ ap not (or_none (list_any (same_leaf (record { member = i; kind = k })) (map (leaf_at i) serials))
    ∙ any_leaf i k serials)

never : (k : ℕ) → ((s : ℕ) → k ≡ 2 + s → ⊥) → (serials : List ℕ) → list_any (λ s. k == (2 + s)) serials ≡ false
never k f [] = refl
never k f (s ∷ ss) =
    ap (λ b. b || list_any (λ s. k == (2 + s)) ss) (ne_eqb k (2 + s) (f s)) ∙ never k f ss

same_number : (s n : ℕ) → ((2 + n) == (2 + s)) ≡ (s == n)
same_number s n = by (s == n) refl
  where
    by : (b : Bool) → (s == n) ≡ b → ((2 + n) == (2 + s)) ≡ b
    by true e = let same = eqb-true s n e in eq-eqb (2 + n) (2 + s) (ap (λ m. 2 + m) (sym same))
    by false e =
        ne_eqb (2 + n) (2 + s)
        (λ f. let same : s ≡ n = omega (arith, f) in let t : (s == n) ≡ true = eq-eqb s n same in cc)

same_numbers : (n : ℕ) (serials : List ℕ) → list_any (λ s. (2 + n) == (2 + s)) serials ≡ is_among serials n
same_numbers n [] = refl
same_numbers n (s ∷ ss) =
    ap (λ b. b || list_any (λ s. (2 + n) == (2 + s)) ss) (same_number s n)
    ∙ ap (λ b. (s == n) || b) (same_numbers n ss)

-- rules -------------------------------------------------------------------------------------------------------------

module _ (ports serials : List ℕ) (t : LeafTable) where
  abbrev goes : List Leaf
  goes = map (leaf_at t.member) serials

  abbrev boxes : List MatchOf
  boxes = cells ports t

  -- the rules of an entry, of those of the numbers, and of the others
  abbrev own : LeafEntry → List Rule
  own e = in_cells boxes (entry_rule t e)

  abbrev among : List LeafEntry → List Rule
  among es = entry_rules ports t (entries_among serials es)

  abbrev apart : List LeafEntry → List Rule
  apart es = entry_rules ports t (entries_apart serials es)

  -- those of headers outside, and of misses
  abbrev first : List Rule
  first = if has_outside ports t then outside_rule t ∷ [] else []

  abbrev second : List Rule
  second = in_cells boxes (miss_rule t)

  kept_if : (k : ℕ) (a : Rule) → IsOfKind t.member k a → list_any (λ s. k == (2 + s)) serials ≡ false
      → filter (is_apart_from goes) (in_cells boxes a) ≡ in_cells boxes a
  kept_if k a of none =
      all_pass (is_apart_from goes) (in_cells boxes a)
      (weaker (λ (r : Rule). r.ancestry ≡ a.ancestry) (λ (r : Rule). is_apart_from goes r ≡ true)
      (λ r e. apart_is t.member k serials r (e ∙ of) ∙ ap not none) (in_cells boxes a) (all_met boxes a))

  gone_if : (k : ℕ) (a : Rule) → IsOfKind t.member k a → list_any (λ s. k == (2 + s)) serials ≡ true
      → filter (is_apart_from goes) (in_cells boxes a) ≡ []
  gone_if k a of some =
      none_pass (is_apart_from goes) (in_cells boxes a)
      (weaker (λ (r : Rule). r.ancestry ≡ a.ancestry) (λ (r : Rule). is_apart_from goes r ≡ false)
      (λ r e. apart_is t.member k serials r (e ∙ of) ∙ ap not some) (in_cells boxes a) (all_met boxes a))

  -- the rules of other entries stay
  others_stay : (es : List LeafEntry)
      → filter (is_apart_from goes) (entry_rules ports t es) ≡ entry_rules ports t (entries_apart serials es)
  others_stay [] = refl
  others_stay (e ∷ es) =
      filter_joined (is_apart_from goes) (in_cells boxes (entry_rule t e)) (entry_rules ports t es)
      ∙ by (is_among serials e.serial) refl (others_stay es)
    where
      by : (b : Bool) → is_among serials e.serial ≡ b
          → filter (is_apart_from goes) (entry_rules ports t es) ≡ entry_rules ports t (entries_apart serials es)
          → filter (is_apart_from goes) (in_cells boxes (entry_rule t e))
          ++ filter (is_apart_from goes) (entry_rules ports t es)
          ≡ entry_rules ports t (if not b then e ∷ entries_apart serials es else entries_apart serials es)
      by true f rest =
          ap (λ rs. rs ++ filter (is_apart_from goes) (entry_rules ports t es))
          (gone_if (2 + e.serial) (entry_rule t e) refl (same_numbers e.serial serials ∙ f)) ∙ rest
      by false f rest =
          ap (λ rs. rs ++ filter (is_apart_from goes) (entry_rules ports t es))
          (kept_if (2 + e.serial) (entry_rule t e) refl (same_numbers e.serial serials ∙ f))
          ∙ ap (λ rs. in_cells boxes (entry_rule t e) ++ rs) rest

  -- the rules of all entries are those of some and those of the others
  parted : (es : List LeafEntry)
      → IsPermutation (entry_rules ports t (entries_among serials es) ++ entry_rules ports t (entries_apart serials es))
      (entry_rules ports t es)
  parted [] = IsPermutation-refl []
  parted (e ∷ es) = by (is_among serials e.serial) (parted es)
    where
      by : (b : Bool) → IsPermutation (among es ++ apart es) (entry_rules ports t es)
          → IsPermutation
          (entry_rules ports t (if b then e ∷ entries_among serials es else entries_among serials es)
          ++ entry_rules ports t (if not b then e ∷ entries_apart serials es else entries_apart serials es))
          (own e ++ entry_rules ports t es)
      by true p =
          subst (λ rs. IsPermutation rs (own e ++ entry_rules ports t es)) (sym (joined (own e) (among es) (apart es)))
          (IsPermutation-append_right (own e) (among es ++ apart es) (entry_rules ports t es) p)
      by false p =
          IsPermutation-trans (among es ++ (own e ++ apart es)) (own e ++ (among es ++ apart es))
          (own e ++ entry_rules ports t es) (behind (among es) (own e) (apart es))
          (IsPermutation-append_right (own e) (among es ++ apart es) (entry_rules ports t es) p)

  outside_stays : (b : Bool) → filter (is_apart_from goes) (if b then outside_rule t ∷ [] else [])
      ≡ (if b then outside_rule t ∷ [] else [])
  outside_stays false = refl
  outside_stays true =
      all_pass (is_apart_from goes) (outside_rule t ∷ [])
      (apart_is t.member 0 serials (outside_rule t) refl ∙ ap not (never 0 (λ s e. omega (arith, e)) serials), tt)

  -- what stays of the rules of a table with these entries
  stays : (es : List LeafEntry)
      → filter (is_apart_from goes)
      ((if has_outside ports t then outside_rule t ∷ [] else [])
      ++ (in_cells boxes (miss_rule t) ++ entry_rules ports t es))
      ≡ (if has_outside ports t then outside_rule t ∷ [] else [])
      ++ (in_cells boxes (miss_rule t) ++ entry_rules ports t (entries_apart serials es))
  stays es =
      filter_joined (is_apart_from goes) (if has_outside ports t then outside_rule t ∷ [] else [])
      (in_cells boxes (miss_rule t) ++ entry_rules ports t es)
      ∙ (ap (λ rs. rs ++ filter (is_apart_from goes) (in_cells boxes (miss_rule t) ++ entry_rules ports t es))
      (outside_stays (has_outside ports t))
      ∙ ap (λ rs. (if has_outside ports t then outside_rule t ∷ [] else []) ++ rs)
      (filter_joined (is_apart_from goes) (in_cells boxes (miss_rule t)) (entry_rules ports t es)
      ∙ (ap (λ rs. rs ++ filter (is_apart_from goes) (entry_rules ports t es))
      (kept_if 1 (miss_rule t) refl (never 1 (λ s e. omega (arith, e)) serials))
      ∙ ap (λ rs. in_cells boxes (miss_rule t) ++ rs) (others_stay es))))

  -- with what comes they are the rules of the other table
  pub changed : (before after : List LeafEntry) → entries_apart serials before ≡ entries_apart serials after
      → IsPermutation
      (entry_rules ports t (entries_among serials after)
      ++ filter (is_apart_from goes)
      ((if has_outside ports t then outside_rule t ∷ [] else [])
      ++ (in_cells boxes (miss_rule t) ++ entry_rules ports t before)))
      ((if has_outside ports t then outside_rule t ∷ [] else [])
      ++ (in_cells boxes (miss_rule t) ++ entry_rules ports t after))
  changed before after same =
      subst (λ rs. IsPermutation (among after ++ rs) (first ++ (second ++ entry_rules ports t after)))
      (sym (stays before ∙ ap (λ es. first ++ (second ++ entry_rules ports t es)) same))
      (IsPermutation-trans (among after ++ (first ++ (second ++ apart after)))
      (first ++ (among after ++ (second ++ apart after))) (first ++ (second ++ entry_rules ports t after))
      (behind (among after) first (second ++ apart after))
      (IsPermutation-append_right first (among after ++ (second ++ apart after)) (second ++ entry_rules ports t after)
      (IsPermutation-trans (among after ++ (second ++ apart after)) (second ++ (among after ++ apart after))
      (second ++ entry_rules ports t after) (behind (among after) second (apart after))
      (IsPermutation-append_right second (among after ++ apart after) (entry_rules ports t after) (parted after)))))

pub leaves-change : LeavesChange
leaves-change ports serials t u h =
    subst
    (λ (z : LeafTable). IsPermutation
    (rules_after (record {
      member = u.member;
      gone = map (leaf_at u.member) serials;
      come = entry_rules ports u (entries_among serials u.entries);
    }) (leaf_rules ports z))
    (leaf_rules ports u))
    (sym h.rest) (changed ports serials u t.entries u.entries h.others)
