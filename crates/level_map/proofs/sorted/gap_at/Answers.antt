use Rattle.std.proofs.Common.{◌≡◌, ◌∙◌, ℕ, ◌-◌, ◌<◌, ◌≤◌, suc, take, arith, length, List, get_or, sym, refl}
use Rattle.level_map.specs.declared.ranked.Ranked.{Ranked}
use Rattle.level_map.specs.Levels.{IsRising}
use Rattle.level_map.specs.Placing.{greatest_level}
use Rattle.level_map.proofs.Rising.{no_pair}
use Rattle.level_map.proofs.Levels.{greatest_before, least_from}
use Rattle.level_map.proofs.sorted.gap_at.Goals as goal
use Rattle.level_map.proofs.sorted.gap_at.Goals.{then-at-eq0, else-at-eq0}

-- the pair before a place that is not the first
before : (size : ℕ) (rs : List Ranked) (at level : ℕ) → IsRising 0 2 size rs → 0 < at → at ≤ length rs
    → level ≡ (get_or rs (at - 1) no_pair).level → level ≡ greatest_level (take at rs)
before size rs at level rising some in_range read =
    let place : at ≡ suc (at - 1) = omega arith in
    rw place (read ∙ sym (greatest_before 0 2 size rs no_pair (omega arith) rising (at - 1) (omega arith)))

pub returns-then-at-ranked-clause-below : goal.returns-then-at-ranked-clause-below
returns-then-at-ranked-clause-below c = elim c.if-at-eq0.branch [
  | then-at-eq0 w ↦ rw (w.below-is, w.if-at-eq0.true) refl
  | else-at-eq0 w ↦ before c.args.size c.args.ranked.now c.args.at _ c.requires.rising (omega arith) c.requires.in_range
      w.below-is
]

pub returns-then-at-ranked-clause-above : goal.returns-then-at-ranked-clause-above
returns-then-at-ranked-clause-above c =
    sym (least_from 0 2 c.args.size c.args.ranked.now no_pair c.requires.rising c.args.at (omega arith))

pub returns-else-at-ranked-clause-below : goal.returns-else-at-ranked-clause-below
returns-else-at-ranked-clause-below c = elim c.if-at-eq0.branch [
  | then-at-eq0 w ↦ rw (w.below-is, w.if-at-eq0.true) refl
  | else-at-eq0 w ↦ before c.args.size c.args.ranked.now c.args.at _ c.requires.rising (omega arith) c.requires.in_range
      w.below-is
]
