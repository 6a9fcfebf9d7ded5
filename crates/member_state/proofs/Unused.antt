-- Ranks of which no entry is left lose their levels.
use Rattle.std.proofs.Common.{◌≡◌, ◌∙◌, ℕ, ◌==◌, Bool, true, false, not, ◌||◌, ◌&&◌, List, [], ◌∷◌, filter, is_some}
use Rattle.std.proofs.Common.{Some, None, if◌then◌else◌, refl, sym, ap, true≢false, eqb-true}
use Rattle.std.specs.List.{AllByRecursion, list_any}
use Rattle.level_map.specs.InsidePlaces.{RanksRise}
use Rattle.level_map.specs.Levels.{Levels, level_of}
use Rattle.level_map.specs.Placing.{dropping}
use Rattle.level_map.specs.declared.ranked.Ranked.{Ranked}
use Rattle.member_table.specs.Changes.{is_among}
use Rattle.member_table.specs.Tables.{has_rank}
use Rattle.member_table.specs.declared.entry.Entry.{Entry}
use Rattle.member_state.specs.Changes.{levels_kept}
use Rattle.member_state.specs.InsideRanks.{without_unused}
use Rattle.member_state.proofs.Levels.{around, each_ranked}
use Rattle.member_state.proofs.Lists.{filter_all, filter_same, filter_twice, filter_within, or_false_right}
use Rattle.member_state.proofs.Lists.{or_true_right}

-- an entry has the rank
abbrev pub has : List Entry → ℕ → Bool
has es rank = list_any (has_rank rank) es

-- one rank that an entry has
pub used_one : (es : List Entry) (rank : ℕ) (l : Levels) → has es rank ≡ true → l ≡ without_unused es (rank ∷ []) l
used_one es rank l h = ap (λ rs. record { size = l.size; ranked = rs })
    (sym (filter_all (λ (r : Ranked). has es r.rank || not (is_among (rank ∷ []) r.rank))
    (λ r. by r (rank == r.rank) refl) l.ranked))
  where
    by : (r : Ranked) (b : Bool) → (rank == r.rank) ≡ b → (has es r.rank || not (b || false)) ≡ true
    by r true e = ap (λ n. has es n || false) (sym (eqb-true rank r.rank e)) ∙ (or_false_right (has es rank) ∙ h)
    by r false e = or_true_right (has es r.rank)

-- one that none has
pub unused_one : (es : List Entry) (rank : ℕ) (l : Levels) → RanksRise 0 l.ranked → has es rank ≡ false
    → dropping l rank ≡ without_unused es (rank ∷ []) l
unused_one es rank l rising h =
    ap (λ rs. record { size = l.size; ranked = rs }) (around 0 rank l.ranked rising
    ∙ filter_same (λ (r : Ranked). not (rank == r.rank))
    (λ (r : Ranked). has es r.rank || not (is_among (rank ∷ []) r.rank)) (λ r. by r (rank == r.rank) refl)
    l.ranked)
  where
    by : (r : Ranked) (b : Bool) → (rank == r.rank) ≡ b → not b ≡ (has es r.rank || not (b || false))
    by r true e = sym (ap (λ n. has es n || false) (sym (eqb-true rank r.rank e)) ∙ (or_false_right (has es rank) ∙ h))
    by r false e = sym (or_true_right (has es r.rank))

-- no rank
pub unused_none : (es : List Entry) (l : Levels) → without_unused es [] l ≡ l
unused_none es l = ap (λ rs. record { size = l.size; ranked = rs })
    (filter_all (λ (r : Ranked). has es r.rank || true) (λ r. or_true_right (has es r.rank)) l.ranked)

-- one rank and then the others
pub unused_next : (es : List Entry) (rank : ℕ) (ranks : List ℕ) (l : Levels)
    → without_unused es ranks (without_unused es (rank ∷ []) l) ≡ without_unused es (rank ∷ ranks) l
unused_next es rank ranks l =
    ap (λ rs. record { size = l.size; ranked = rs })
    (filter_twice (λ (r : Ranked). has es r.rank || not (is_among (rank ∷ []) r.rank))
    (λ (r : Ranked). has es r.rank || not (is_among ranks r.rank)) l.ranked
    ∙ filter_same (λ (r : Ranked). (has es r.rank || not (is_among (rank ∷ []) r.rank))
    && (has es r.rank || not (is_among ranks r.rank)))
    (λ (r : Ranked). has es r.rank || not (is_among (rank ∷ ranks) r.rank))
    (λ r. by (has es r.rank) (rank == r.rank) (is_among ranks r.rank)) l.ranked)
  where
    by : (a b c : Bool) → ((a || not (b || false)) && (a || not c)) ≡ (a || not (b || c))
    by true b c = refl
    by false true c = refl
    by false false c = refl

-- where each rank with a level has an entry or is one of these, those that entries have are left
pub unused_gone : (es : List Entry) (ranks : List ℕ) (l : Levels)
    → ((q : ℕ) → is_some (level_of l q) ≡ true → (has es q || is_among ranks q) ≡ true) → without_unused es ranks l
    ≡ levels_kept es l
unused_gone es ranks l h =
    ap (λ rs. record { size = l.size; ranked = rs })
    (filter_within (λ (r : Ranked). has es r.rank || not (is_among ranks r.rank)) (λ (r : Ranked). has es r.rank)
    l.ranked
    (each_ranked (λ q. (has es q || not (is_among ranks q)) ≡ has es q) l.ranked
    (λ q t. by (has es q) (is_among ranks q) (h q t))))
  where
    by : (a b : Bool) → (a || b) ≡ true → (a || not b) ≡ a
    by true b e = refl
    by false true e = refl
    by false false e = absurd (true≢false (sym e))

-- where each rank with a level has an entry, all are kept
pub all_kept : (es : List Entry) (l : Levels) → ((q : ℕ) → is_some (level_of l q) ≡ true → has es q ≡ true)
    → levels_kept es l ≡ l
all_kept es l h =
    ap (λ rs. record { size = l.size; ranked = rs })
    (filter_within (λ (r : Ranked). has es r.rank) (λ (r : Ranked). true) l.ranked
    (each_ranked (λ q. has es q ≡ true) l.ranked h) ∙ filter_all (λ (r : Ranked). true) (λ r. refl) l.ranked)

-- those of some entries, and of them those of fewer
pub kept_twice : (es fewer : List Entry) (l : Levels) → ((q : ℕ) → has fewer q ≡ true → has es q ≡ true)
    → levels_kept fewer (levels_kept es l) ≡ levels_kept fewer l
kept_twice es fewer l h =
    ap (λ rs. record { size = l.size; ranked = rs })
    (filter_twice (λ (r : Ranked). has es r.rank) (λ (r : Ranked). has fewer r.rank) l.ranked
    ∙ filter_same (λ (r : Ranked). has es r.rank && has fewer r.rank) (λ (r : Ranked). has fewer r.rank)
    (λ r. by (has es r.rank) (has fewer r.rank) (h r.rank)) l.ranked)
  where
    by : (a b : Bool) → (b ≡ true → a ≡ true) → (a && b) ≡ b
    by true b h = refl
    by false true h = absurd (true≢false (sym (h refl)))
    by false false h = refl

-- entries with the same ranks
pub kept_alike : (es others : List Entry) (l : Levels) → ((q : ℕ) → has es q ≡ has others q) → levels_kept es l
    ≡ levels_kept others l
kept_alike es others l h = ap (λ rs. record { size = l.size; ranked = rs })
    (filter_same (λ (r : Ranked). has es r.rank) (λ (r : Ranked). has others r.rank) (λ r. h r.rank) l.ranked)
