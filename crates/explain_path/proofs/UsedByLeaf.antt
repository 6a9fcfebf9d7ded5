-- The leaf of a member's best rule is what of its table the header meets.
use Rattle.std.proofs.Common.{◌≡◌, ℕ, ◌<◌, Bool, true, false, List, [], ◌∷◌, ◌++◌, Option, Some, None, refl, ◌∙◌, arith}
use Rattle.std.proofs.Common.{sym}
use Rattle.std.specs.Prelude.{flat_map, map, if◌then◌else◌}
use Rattle.cv_io.specs.declared.leaf.Leaf.{Leaf}
use Rattle.of10_match.specs.Fields.{HeaderOf, MatchOf}
use Rattle.of10_match.specs.Matching.{both}
use Rattle.policy_meaning.specs.Best.{Below, IsBest, first, later}
use Rattle.policy_meaning.specs.Leaf.{best_entry, has_port, is_inside}
use Rattle.policy_meaning.specs.LeafFact.{IsSoundTable}
use Rattle.policy_meaning.specs.LeafRules.{cells, entry_rule, has_outside, in_cells, leaf_rules, miss_rule}
use Rattle.policy_meaning.specs.LeafRules.{outside_rule}
use Rattle.policy_meaning.specs.declared.leaf.LeafEntry.{LeafEntry}
use Rattle.policy_meaning.specs.declared.leaf.LeafTable.{LeafTable}
use Rattle.policy_meaning.specs.declared.rule.Rule.{Rule}
use Rattle.policy_meaning.proofs.Booleans.{true_not_false}
use Rattle.policy_meaning.proofs.BestLemmas.{at-never}
use Rattle.policy_meaning.proofs.Cells.{IsOnly, inside-only, narrowed, none-outside}
use Rattle.policy_meaning.proofs.LeafLemmas.{EntrySays, best-placed, entry-says, none-placed}
use Rattle.explain_path.specs.Traces.{entry_kind, kind_of}

-- the rule is best, and is of this leaf
pub record BestOf (h : HeaderOf) (rules : List Rule) (leaves : List Leaf) : Type 0 where
  pub rule : Rule
  pub best : IsBest h rules rule
  pub is : rule.ancestry ≡ leaves

module _ (ports : List ℕ) (t : LeafTable) (good : IsSoundTable t) (h : HeaderOf) (at : has_port ports h.in_port ≡ true)
  where
    -- the rules for any header
    abbrev inside : List Rule
    inside = miss_rule t ∷ map (entry_rule t) t.entries

    abbrev placed : List Rule
    placed = flat_map (in_cells (cells ports t)) inside

    abbrev outer : Bool → List Rule
    outer b = if b then outside_rule t ∷ [] else []

    -- of this kind
    abbrev of : ℕ → List Leaf
    of kind = record { member = t.member; kind = kind } ∷ []

    outside-best : is_inside t h ≡ false → (b : Bool) → has_outside ports t ≡ b → BestOf h (outer b ++ placed) (of 0)
    outside-best e false o = absurd (true_not_false (sym (none-outside ports t h at o) ∙ e))
    outside-best e true o = record {
      rule = outside_rule t;
      best = first refl (at-never h (Below 0) placed (none-placed ports t good h at e));
      is = refl;
    }

    inside-best : (b : Bool) (c : MatchOf) → IsOnly h (cells ports t) c → (o : Option LeafEntry)
        → EntrySays h t t.entries o → BestOf h (outer b ++ placed) (of (entry_kind o))
    inside-best b c only None none = record {
      rule = narrowed (miss_rule t) (both (miss_rule t).m c);
      best = best-placed ports t good h at b (miss_rule t) c only (omega arith)
          (first refl (at-never h (Below 1) (map (entry_rule t) t.entries) none));
      is = refl;
    }
    inside-best b c only (Some d) says =
        let l = says.2 t.size good.entries in
        record {
          rule = narrowed (entry_rule t d) (both d.m c);
          best = best-placed ports t good h at b (entry_rule t d) c only (let l0 : 1 < d.level = l.above in omega arith)
              (later (λ _. l.above) says.0);
          is = refl;
        }

    best-by : (b : Bool) → is_inside t h ≡ b
        → BestOf h (leaf_rules ports t) (of (if b then entry_kind (best_entry t.entries h) else 0))
    best-by true e =
        let o = inside-only ports t h at good.disjoint good.visible e in
        inside-best (has_outside ports t) o.0 o.1 (best_entry t.entries h) (entry-says h t t.entries good.apart)
    best-by false e = outside-best e (has_outside ports t) refl

    pub leaf-best : BestOf h (leaf_rules ports t) (of (kind_of t h))
    leaf-best = best-by (is_inside t h) refl
