-- What the rules of a member's table say.
use Rattle.std.proofs.Common.{◌≡◌, ℕ, ◌<◌, ◌≤◌, Bool, true, false, List, [], ◌∷◌, ◌++◌, Option, Some, None, refl, ◌∙◌}
use Rattle.std.proofs.Common.{arith, sym, subst, ltb-true, ltb-false}
use Rattle.std.specs.Prelude.{flat_map, if◌then◌else◌, map, nat_lt}
use Rattle.std.specs.List.{AllByRecursion}
use Rattle.of10_match.specs.Fields.{HeaderOf, MatchOf}
use Rattle.of10_match.specs.Highest.{higher}
use Rattle.of10_match.specs.Matching.{holds, both}
use Rattle.of10_match.specs.Normal.{IsNormal}
use Rattle.of10_actions.specs.Rewriting.{no_rewrite}
use Rattle.policy_meaning.specs.Leaf.{has_port, is_inside, best_entry, by_entry, leaf_meaning, outside}
use Rattle.policy_meaning.specs.LeafRules.{entry_rule, miss_rule, outside_rule, cells, in_cells, has_outside}
use Rattle.policy_meaning.specs.LeafRules.{leaf_rules, rule_met}
use Rattle.policy_meaning.specs.Best.{EachAt, Below, IsBest, first, later, IsUntouched, IsSound, Says}
use Rattle.policy_meaning.specs.LeafFact.{AreApart, IsSoundEntry, EachPair, IsSoundTable, LeafFact, LeafRulesAreSound}
use Rattle.policy_meaning.specs.declared.leaf.LeafEntry.{LeafEntry}
use Rattle.policy_meaning.specs.declared.leaf.LeafTable.{LeafTable}
use Rattle.policy_meaning.specs.declared.rule.Rule.{Rule}
use Rattle.policy_meaning.proofs.Booleans.{true_not_false}
use Rattle.policy_meaning.proofs.Lists.{all-append, all-mapped, all-flat_map, all-filter_map}
use Rattle.policy_meaning.proofs.BestLemmas.{Any, Never, at-any, best_holds, best_most, at-never, at-append}
use Rattle.policy_meaning.proofs.BestLemmas.{at-flat_map, best-flat_map, best-append_right}
use Rattle.policy_meaning.proofs.Meeting.{meet_there, some_met}
use Rattle.of10_match.proofs.NormalMeet.{IsNormal-both}
use Rattle.policy_meaning.proofs.Normality.{normal-everything}
use Rattle.policy_meaning.proofs.Building.{extends-nothing}
use Rattle.policy_meaning.proofs.Cells.{narrowed, IsOnly, cell-part, none-in_cells, best-in_cells, normal-cells}
use Rattle.policy_meaning.proofs.Cells.{outside-misses, inside-only, none-outside}

module _ (h : HeaderOf) (t : LeafTable) where
  -- what the best of some entries says: none holds the header, or its rule is the best
  abbrev pub EntrySays : List LeafEntry → Option LeafEntry → Type 0
  EntrySays es None = EachAt h Never (map (entry_rule t) es)
  EntrySays es (Some d) =
      IsBest h (map (entry_rule t) es) (entry_rule t d)
      × ((e : LeafEntry) → AllByRecursion (AreApart e) es → AreApart e d)
      × ((n : ℕ) → AllByRecursion (IsSoundEntry n) es → IsSoundEntry n d)

  entry-over : (e d : LeafEntry) (es : List LeafEntry) → EntrySays es (Some d) → AllByRecursion (AreApart e) es
      → holds e.m h ≡ true → (b : Bool) → nat_lt e.rank d.rank ≡ b → EntrySays (e ∷ es) (Some (if b then d else e))
  entry-over e d es s a u true v =
      (later (λ _. (s.1 e a).up (ltb-true e.rank d.rank v)) s.0, λ x ax. s.1 x ax.1, λ n l. s.2 n l.1)
  entry-over e d es s a u false v =
      let o = (meet_there e.m d.m h u (best_holds h s.0)).1 in
      let ne : e.rank ≡ d.rank → ⊥ = λ q. true_not_false (sym o ∙ (s.1 e a).disjoint q) in
      let le : d.rank ≤ e.rank = ltb-false e.rank d.rank v in
      let lt : d.rank < e.rank = omega arith in
      (first u (best_most h s.0 e.level ((s.1 e a).down lt)), λ x ax. ax.0, λ n l. l.0)

  entry-next : (e : LeafEntry) (es : List LeafEntry) (o : Option LeafEntry) → EntrySays es o
      → AllByRecursion (AreApart e) es → (b : Bool) → holds e.m h ≡ b
      → EntrySays (e ∷ es) (if b then higher (λ (d : LeafEntry). d.rank) e o else o)
  entry-next e es None s a true u =
      (first u (at-never h (Below e.level) (map (entry_rule t) es) s), λ x ax. ax.0, λ n l. l.0)
  entry-next e es (Some d) s a true u = entry-over e d es s a u (nat_lt e.rank d.rank) refl
  entry-next e es None s a false u = (λ v. true_not_false (sym v ∙ u), s)
  entry-next e es (Some d) s a false u =
      (later (λ v. absurd (true_not_false (sym v ∙ u))) s.0, λ x ax. s.1 x ax.1, λ n l. s.2 n l.1)

  pub entry-says : (es : List LeafEntry) → EachPair AreApart es → EntrySays es (best_entry es h)
  entry-says [] a = tt
  entry-says (e ∷ es) a = entry-next e es (best_entry es h) (entry-says es a.1) a.0 (holds e.m h) refl

module _ (ports : List ℕ) (t : LeafTable) (good : IsSoundTable t) where
  -- the rules for any header
  abbrev inside : List Rule
  inside = miss_rule t ∷ map (entry_rule t) t.entries

  abbrev placed : List Rule
  placed = flat_map (in_cells (cells ports t)) inside

  abbrev outer : Bool → List Rule
  outer b = if b then outside_rule t ∷ [] else []

  module _ (h : HeaderOf) (at : has_port ports h.in_port ≡ true) where
    -- outside, no rule for any header holds the header
    pub none-placed : is_inside t h ≡ false → EachAt h Never placed
    none-placed e = at-flat_map h Any Never (in_cells (cells ports t)) inside
        (λ x _. none-in_cells h x (cells ports t) (outside-misses ports t h at e)) (at-any h inside)

    outside-says : is_inside t h ≡ false → (b : Bool) → has_outside ports t ≡ b
        → Says h (outer b ++ placed) t.size outside
    outside-says e false o = absurd (true_not_false (sym (none-outside ports t h at o) ∙ e))
    outside-says e true o = record {
      rule = outside_rule t;
      best = first refl (at-never h (Below 0) placed (none-placed e));
      below = let r = good.room in omega arith;
      means = refl;
      untouched = λ _. (λ _. refl, at-never h IsUntouched placed (none-placed e));
    }

    outer-low : (b : Bool) (n : ℕ) → 0 < n → EachAt h (Below n) (outer b)
    outer-low true n pos = (λ _. pos, tt)
    outer-low false n pos = tt

    outer-untouched : (b : Bool) → EachAt h IsUntouched (outer b)
    outer-untouched true = (λ _. refl, tt)
    outer-untouched false = tt

    -- the best of the rules for any header, in the one cell that holds the header, is the best of all
    pub best-placed : (b : Bool) (r : Rule) (c : MatchOf) → IsOnly h (cells ports t) c → 0 < r.level → IsBest h inside r
        → IsBest h (outer b ++ placed) (narrowed r (both r.m c))
    best-placed b r c o pos p =
        best-append_right h (outer b) (outer-low b r.level pos)
        (best-flat_map h (in_cells (cells ports t)) (narrowed r (both r.m c)) (best-in_cells h r o (best_holds h p))
        (λ x low. cell-part h x (Below r.level) (cells ports t) (λ u m. low u)) p)

    untouched-all : (b : Bool) → EachAt h IsUntouched inside → EachAt h IsUntouched (outer b ++ placed)
    untouched-all b u =
        at-append h IsUntouched (outer b) placed (outer-untouched b)
        (at-flat_map h IsUntouched IsUntouched (in_cells (cells ports t)) inside
        (λ x ux. cell-part h x IsUntouched (cells ports t) (λ v m. ux v)) u)

    inside-says : (b : Bool) (c : MatchOf) → IsOnly h (cells ports t) c → (o : Option LeafEntry)
        → EntrySays h t t.entries o → Says h (outer b ++ placed) t.size (by_entry t o)
    inside-says b c only None none =
        record {
          rule = narrowed (miss_rule t) (both (miss_rule t).m c);
          best = best-placed b (miss_rule t) c only (omega arith)
              (first refl (at-never h (Below 1) (map (entry_rule t) t.entries) none));
          below = good.room;
          means = refl;
          untouched = λ _. untouched-all b (λ _. refl, at-never h IsUntouched (map (entry_rule t) t.entries) none);
        }
    inside-says b c only (Some d) says =
        let l = says.2 t.size good.entries in
        record {
          rule = narrowed (entry_rule t d) (both d.m c);
          best = best-placed b (entry_rule t d) c only (let l0 : 1 < d.level = l.above in omega arith)
              (later (λ _. l.above) says.0);
          below = l.below;
          means = refl;
          untouched = λ u. absurd (true_not_false u);
        }

    says-by : (b : Bool) → is_inside t h ≡ b
        → Says h (leaf_rules ports t) t.size (if b then by_entry t (best_entry t.entries h) else outside)
    says-by true e = let o = inside-only ports t h at good.disjoint good.visible e in
        inside-says (has_outside ports t) o.0 o.1 (best_entry t.entries h) (entry-says h t t.entries good.apart)
    says-by false e = outside-says e (has_outside ports t) refl

    pub says : Says h (leaf_rules ports t) t.size (leaf_meaning t h)
    says = says-by (is_inside t h) refl

  -- each rule is sound
  placed-sound : (a : Rule) → IsSound a → AllByRecursion IsSound (in_cells (cells ports t) a)
  placed-sound a s =
      all-filter_map IsNormal IsSound (rule_met a) (cells ports t)
      (λ n y e m. let q = some_met (narrowed a) a.m n y e in
      subst IsSound q.1 (record { is_normal = IsNormal-both a.m n q.0 s.is_normal m; builds = s.builds }))
      (normal-cells ports t good.boxes)

  miss-sound : (b : Bool) → t.misses ≡ b → IsSound (miss_rule t)
  miss-sound true e = record {
    is_normal = normal-everything;
    builds = rw e (record { outs = (extends-nothing no_rewrite, tt); tail = (tt, tt) });
  }
  miss-sound false e = record { is_normal = normal-everything; builds = rw e (record { outs = tt; tail = tt }) }

  outer-sound : (b : Bool) → AllByRecursion IsSound (outer b)
  outer-sound true = (record { is_normal = normal-everything; builds = record { outs = tt; tail = tt } }, tt)
  outer-sound false = tt

  pub rules-sound : AllByRecursion IsSound (leaf_rules ports t)
  rules-sound =
      all-append IsSound (outer (has_outside ports t)) placed (outer-sound (has_outside ports t))
      (all-flat_map IsSound IsSound (in_cells (cells ports t)) inside (λ a s. placed-sound a s) (
        miss-sound t.misses refl,
        all-mapped (IsSoundEntry t.size) IsSound (entry_rule t) t.entries
            (λ e s. record { is_normal = s.is_normal; builds = s.builds }) good.entries,
      ))

pub leaf_fact : LeafFact
leaf_fact ports t good h at = says ports t good h at

pub leaf_rules_are_sound : LeafRulesAreSound
leaf_rules_are_sound ports t good = rules-sound ports t good
