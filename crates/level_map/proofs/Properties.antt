-- What placing and dropping a rank keep.
use Rattle.std.proofs.Common.{◌≡◌, ◌≢◌, ◌∙◌, ℕ, ◌+◌, ◌-◌, ◌<◌, ◌≤◌, Bool, true, false, List, [], ◌∷◌, Option, Some}
use Rattle.std.proofs.Common.{None, nat_le, refl, ap, inl, inr, subst, arith}
use Rattle.std.proofs.lemmas.Bool.{cases_eq}
use Rattle.std.proofs.lemmas.Bool.Decides.{nat_tests}
use Rattle.level_map.specs.declared.ranked.Ranked.{Ranked}
use Rattle.level_map.specs.declared.placed.Placed.{Placed}
use Rattle.level_map.specs.Levels.{Levels, IsRising, FollowsRanks, level_among, level_of}
use Rattle.level_map.specs.Placing.{placing, placing_by, placing_new, answered, KeepsOthers, dropping, level_below}
use Rattle.level_map.specs.Placing.{level_above}
use Rattle.level_map.proofs.Among.{among_with_rank, among_without, among_spread_new, among_spread_others}

-- a level that is found is in range, and its rank too
record Found (rank level size q a : ℕ) : Type 0 where
  from_rank : rank ≤ q
  from_level : level ≤ a
  below : a < size

found : (rank level size : ℕ) (rs : List Ranked) (q a : ℕ) → IsRising rank level size rs → level_among rs q ≡ Some a
    → Found rank level size q a
found rank level size [] q a rising there = cc
found rank level size (r ∷ rs) q a rising there = elim (cases_eq r.rank q) [
  | inl same ↦
      let value : r.level ≡ a = grind (arith, nat_tests) in
      record {
        from_rank = omega (arith, rising.0);
        from_level = omega (arith, rising.1);
        below = omega (arith, rising.2);
      }
  | inr other ↦
      let rest = found (r.rank + 1) (r.level + 1) size rs q a rising.3 (grind (arith, nat_tests)) in
      record {
        from_rank = omega (arith, rising.0, rest.from_rank);
        from_level = omega (arith, rising.1, rest.from_level);
        below = rest.below;
      }
]

-- a higher rank has a higher level
in_order : (rank level size : ℕ) (rs : List Ranked) (low high a b : ℕ) → IsRising rank level size rs → low < high
    → level_among rs low ≡ Some a → level_among rs high ≡ Some b → a < b
in_order rank level size [] low high a b rising less at_low at_high = cc
in_order rank level size (r ∷ rs) low high a b rising less at_low at_high = elim (cases_eq r.rank low) [
  | inl same ↦
      let value : r.level ≡ a = grind (arith, nat_tests) in
      let rest : Found (r.rank + 1) (r.level + 1) size high b =
      found (r.rank + 1) (r.level + 1) size rs high b rising.3 (grind (arith, nat_tests)) in
      omega (arith, rest.from_level)
  | inr other ↦
      let low_there : level_among rs low ≡ Some a = grind (arith, nat_tests) in
      let rest : Found (r.rank + 1) (r.level + 1) size low a =
      found (r.rank + 1) (r.level + 1) size rs low a rising.3 low_there in
      let above : r.rank ≢ high = omega (arith, rest.from_rank) in
      in_order (r.rank + 1) (r.level + 1) size rs low high a b rising.3 less low_there (grind (arith, nat_tests))
]

-- rising pairs follow their ranks
pub follows : (m : Levels) → IsRising 0 2 m.size m.ranked → FollowsRanks m
follows m rising = record {
  within = λ rank level there. let f = found 0 2 m.size m.ranked rank level rising there in (f.from_level, f.below);
  in_order = λ low high a b less at_low at_high. in_order 0 2 m.size m.ranked low high a b rising less at_low at_high;
}

-- after placing, the rank has the level that was answered
pub level_answered : (m new : Levels) (rank : ℕ) (placed : Placed) → placing m rank ≡ (placed, new)
    → level_of new rank ≡ Some (answered placed)
level_answered m new rank placed done =
    subst (λ (both : Placed × Levels). level_of both.1 rank ≡ Some (answered both.0)) done
    (by_level (level_of m rank) refl)
  where
    by_gap : (b : Bool) → level_of m rank ≡ None → nat_le 2 (level_above m rank - level_below m rank) ≡ b
        → level_of (placing_new m rank).1 rank ≡ Some (answered (placing_new m rank).0)
    by_gap true absent gap = rw gap (among_with_rank rank _ m.ranked rank ∙ grind (arith, nat_tests))
    by_gap false absent gap = rw gap (among_spread_new m.size rank m.ranked absent)

    by_level : (o : Option ℕ) → level_of m rank ≡ o
        → level_of (placing_by o m rank).1 rank ≡ Some (answered (placing_by o m rank).0)
    by_level None absent = by_gap _ absent refl
    by_level (Some level) there = there

-- after placing, the other ranks have what the answer says
pub others_kept : (m new : Levels) (rank : ℕ) (placed : Placed) → placing m rank ≡ (placed, new)
    → KeepsOthers m new rank placed
others_kept m new rank placed done = subst (λ (both : Placed × Levels). KeepsOthers m both.1 rank both.0) done
    (by_level (level_of m rank) refl)
  where
    by_gap : (b : Bool) → nat_le 2 (level_above m rank - level_below m rank) ≡ b
        → KeepsOthers m (placing_new m rank).1 rank (placing_new m rank).0
    by_gap true gap = rw gap (λ q other. among_with_rank rank _ m.ranked q ∙ grind (arith, nat_tests))
    by_gap false gap = rw gap (λ q other. among_spread_others m.size rank m.ranked q other)

    by_level : (o : Option ℕ) → level_of m rank ≡ o → KeepsOthers m (placing_by o m rank).1 rank (placing_by o m rank).0
    by_level None absent = by_gap _ refl
    by_level (Some level) there = λ q other. refl

-- a rank that was dropped has no level
pub dropped_absent : (m : Levels) (rank : ℕ) → level_of (dropping m rank) rank ≡ None
dropped_absent m rank = among_without rank m.ranked rank ∙ grind (arith, nat_tests)

-- and the others have theirs
pub dropped_others : (m : Levels) (rank q : ℕ) → q ≢ rank → level_of (dropping m rank) q ≡ level_of m q
dropped_others m rank q other = among_without rank m.ranked q ∙ grind (arith, nat_tests)

-- a new rank is placed as new ones are
pub placing_absent : (m : Levels) (rank : ℕ) → level_of m rank ≡ None → placing m rank ≡ placing_new m rank
placing_absent m rank absent = ap (λ o. placing_by o m rank) absent
