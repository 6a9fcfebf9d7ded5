-- Levels of ranks that are kept, that go, and that come.
use Rattle.std.proofs.Common.{◌≡◌, ◌≢◌, ◌∙◌, ℕ, ◌+◌, ◌-◌, ◌/◌, ◌<◌, ◌≤◌, ◌==◌, Bool, true, false, not, cond, ◌||◌, ◌&&◌}
use Rattle.std.proofs.Common.{nat_le, List, [], ◌∷◌, ◌++◌, length, filter, Option, Some, None, is_some, if◌then◌else◌}
use Rattle.std.proofs.Common.{refl, sym, ap, subst, inl, inr, arith, true≢false, eqb-true, eq-eqb, ne_eqb}
use Rattle.std.proofs.Common.{length-append}
use Rattle.std.specs.List.{AllByRecursion}
use Rattle.std.specs.Option.{IsNone}
use Rattle.std.proofs.lemmas.Bool.{cases_lt, lt-ltb, le-ltb, leb-true}
use Rattle.std.proofs.lemmas.Bool.Decides.{nat_tests}
use Rattle.level_map.specs.InsidePlaces.{RanksRise, numbered}
use Rattle.level_map.specs.Levels.{IsLevelling, IsRising, Levels, higher, level_among, level_of, lower}
use Rattle.level_map.specs.Placing.{HasNoRoom, KeepsOthers, greatest_level, least_level, level_above, level_below}
use Rattle.level_map.specs.Placing.{middle, placing, placing_by, placing_new, spread, with_rank}
use Rattle.level_map.specs.declared.placed.Placed.{Placed}
use Rattle.level_map.specs.declared.placed.Placed.TheVariants.{Kept, Renumbered}
use Rattle.level_map.specs.declared.ranked.Ranked.{Ranked}
use Rattle.level_map.proofs.Inserting.{greatest_some, higher_AllHigher, lower_AllLower, ranks_between, rising_between}
use Rattle.level_map.proofs.Inserting.{room_taken}
use Rattle.level_map.proofs.Properties.{level_answered, others_kept}
use Rattle.level_map.proofs.Rising.{ranks_of_rising}
use Rattle.level_map.proofs.Spreading.{first_level, numbered_rising, spread_numbered}
use Rattle.member_state.proofs.Lists.{filter_length}

-- rising pairs from further on rise from before too
earlier : (r s l m size : ℕ) (rs : List Ranked) → IsRising r l size rs → s ≤ r → m ≤ l → IsRising s m size rs
earlier r s l m size [] rising from_rank from_level = tt
earlier r s l m size (p ∷ rs) rising from_rank from_level =
    (omega (arith, rising.0), omega (arith, rising.1), rising.2, rising.3)

-- of rising pairs some go
pub kept_rising : (p : Ranked → Bool) (r l size : ℕ) (rs : List Ranked) → IsRising r l size rs
    → IsRising r l size (filter p rs)
kept_rising p r l size [] rising = tt
kept_rising p r l size (x ∷ rs) rising = by (p x) (kept_rising p (x.rank + 1) (x.level + 1) size rs rising.3)
  where
    by : (b : Bool) → IsRising (x.rank + 1) (x.level + 1) size (filter p rs)
        → IsRising r l size (cond b (x ∷ filter p rs) (filter p rs))
    by true more = (rising.0, rising.1, rising.2, more)
    by false more = earlier (x.rank + 1) r (x.level + 1) l size (filter p rs) more (omega (arith, rising.0))
        (omega (arith, rising.1))

rank_earlier : (r s : ℕ) (rs : List Ranked) → RanksRise r rs → s ≤ r → RanksRise s rs
rank_earlier r s [] rising from = tt
rank_earlier r s (x ∷ rs) rising from = (omega (arith, rising.0), rising.1)

pub kept_ranks : (p : Ranked → Bool) (r : ℕ) (rs : List Ranked) → RanksRise r rs → RanksRise r (filter p rs)
kept_ranks p r [] rising = tt
kept_ranks p r (x ∷ rs) rising = by (p x) (kept_ranks p (x.rank + 1) rs rising.1)
  where
    by : (b : Bool) → RanksRise (x.rank + 1) (filter p rs) → RanksRise r (cond b (x ∷ filter p rs) (filter p rs))
    by true more = (rising.0, more)
    by false more = rank_earlier (x.rank + 1) r (filter p rs) more (omega (arith, rising.0))

-- a rank that is kept has the level that it had
pub level_kept : (p : ℕ → Bool) (rs : List Ranked) (q : ℕ) → level_among (filter (λ (r : Ranked). p r.rank) rs) q
    ≡ (if p q then level_among rs q else None)
level_kept p [] q = by (p q)
  where
    by : (b : Bool) → level_among [] q ≡ (if b then level_among [] q else None)
    by true = refl
    by false = refl
level_kept p (r ∷ rs) q = by (p r.rank) refl (r.rank == q) refl (level_kept p rs q)
  where
    by : (b : Bool) → p r.rank ≡ b → (c : Bool) → (r.rank == q) ≡ c
        → level_among (filter (λ (x : Ranked). p x.rank) rs) q ≡ (if p q then level_among rs q else None)
        → level_among (cond b (r ∷ filter (λ (x : Ranked). p x.rank) rs) (filter (λ (x : Ranked). p x.rank) rs)) q
        ≡ (if p q then (if c then Some r.level else level_among rs q) else None)
    by true t true e h = let here : p q ≡ true = ap p (sym (eqb-true r.rank q e)) ∙ t in rw (e, here) refl
    by true t false e h = rw e h
    by false t true e h = let here : p q ≡ false = ap p (sym (eqb-true r.rank q e)) ∙ t in h ∙ rw here refl
    by false t false e h = h

-- what holds of each rank that has a level holds of the rank of each pair
pub each_ranked : (P : ℕ → Type 0) (rs : List Ranked) → ((q : ℕ) → is_some (level_among rs q) ≡ true → P q)
    → AllByRecursion (λ (r : Ranked). P r.rank) rs
each_ranked P [] h = tt
each_ranked P (r ∷ rs) h = (
  h r.rank (here (r.rank == r.rank) (eq-eqb r.rank r.rank refl)),
  each_ranked P rs
      (λ q t. h q (later q (r.rank == q) t)),
)
  where
    here : (b : Bool) → b ≡ true → is_some (if b then Some r.level else level_among rs r.rank) ≡ true
    here true e = refl
    here false e = absurd (true≢false (sym e))

    later : (q : ℕ) (b : Bool) → is_some (level_among rs q) ≡ true
        → is_some (if b then Some r.level else level_among rs q) ≡ true
    later q true t = refl
    later q false t = t

-- no rank is below the first
lower_none : (q rank : ℕ) (rs : List Ranked) → RanksRise q rs → rank ≤ q → lower rank rs ≡ []
lower_none q rank [] rising first = refl
lower_none q rank (r ∷ rs) rising first = grind
    (arith, nat_tests, rising.0, lower_none (r.rank + 1) rank rs rising.1 (omega (arith, rising.0)))

-- the pairs of lower and of higher ranks are those of other ranks
pub around : (q rank : ℕ) (rs : List Ranked) → RanksRise q rs → lower rank rs ++ higher rank rs
    ≡ filter (λ (r : Ranked). not (rank == r.rank)) rs
around q rank [] rising = refl
around q rank (r ∷ rs) rising =
    let more = around (r.rank + 1) rank rs rising.1 in
    elim (cases_lt r.rank rank) [
      | inl less ↦
          let other : (rank == r.rank) ≡ false = ne_eqb rank r.rank (λ s. absurd (omega arith)) in
          let up : rank ≤ r.rank → ⊥ = λ le. absurd (omega arith) in
          rw (lt-ltb r.rank rank less, le-ltb rank r.rank (omega arith), other) (ap (λ xs. r ∷ xs) more)
      | inr le ↦
          let none : lower rank rs ≡ [] = lower_none (r.rank + 1) rank rs rising.1 (omega arith) in
          let rest : higher rank rs ≡ filter (λ (x : Ranked). not (rank == x.rank)) rs = sym
          (ap (λ xs. xs ++ higher rank rs) none) ∙ more in
          rw (le-ltb r.rank rank le, none) (elim (cases_lt rank r.rank) [
            | inl less ↦
                let other : (rank == r.rank) ≡ false = ne_eqb rank r.rank (λ s. absurd (omega arith)) in
                rw (lt-ltb rank r.rank less, other) (ap (λ xs. r ∷ xs) rest)
            | inr le2 ↦
                let same : rank ≡ r.rank = omega arith in
                let equal : (rank == r.rank) ≡ true = eq-eqb rank r.rank same in
                rw (le-ltb rank r.rank le2, equal) rest
          ])
    ]

-- a rank that comes has a level, and so have those that had one
pub placed_some : (l : Levels) (rank q : ℕ) → is_some (level_of (placing l rank).1 q)
    ≡ ((rank == q) || is_some (level_of l q))
placed_some l rank q = by (rank == q) refl
  where
    kept : (p : Placed) → q ≢ rank → KeepsOthers l (placing l rank).1 rank p → is_some (level_of (placing l rank).1 q)
        ≡ is_some (level_of l q)
    kept (Kept level) n k = ap is_some (k q n)
    kept (Renumbered level) n k = k q n

    by : (b : Bool) → (rank == q) ≡ b → is_some (level_of (placing l rank).1 q) ≡ (b || is_some (level_of l q))
    by true e = ap (λ r. is_some (level_of (placing l rank).1 r)) (sym (eqb-true rank q e))
        ∙ ap is_some (level_answered l (placing l rank).1 rank (placing l rank).0 refl)
    by false e = kept (placing l rank).0 (λ s. absurd (true≢false (sym (eq-eqb rank q (sym s)) ∙ e)))
        (others_kept l (placing l rank).1 rank (placing l rank).0 refl)

-- where there is room, levels lie in the order of ranks once one has come
none_is : (o : Option ℕ) → o ≡ None → IsNone o
none_is None e = search
none_is (Some x) e = absurd (cc)

module _ (l : Levels) (rank : ℕ) (k : IsLevelling l.size l.ranked) where
  apart : RanksRise 0 l.ranked
  apart = ranks_of_rising 0 2 l.size l.ranked k.rising

  sides : IsRising 0 2 l.size (lower rank l.ranked ++ higher rank l.ranked)
  sides = subst (IsRising 0 2 l.size) (sym (around 0 rank l.ranked apart))
      (kept_rising (λ (r : Ranked). not (rank == r.rank)) 0 2 l.size l.ranked k.rising)

  between : nat_le 2 (level_above l rank - level_below l rank) ≡ true
      → IsRising 0 2 l.size (with_rank rank (middle (level_below l rank) (level_above l rank)) l.ranked)
  between gap =
      let low = level_below l rank in
      let high = level_above l rank in
      let wide : 2 ≤ high - low = leb-true 2 (high - low) gap in
      rising_between 0 2 l.size (lower rank l.ranked) (record { rank = rank; level = low + (high - low) / 2 })
      (higher rank l.ranked) sides (lower_AllLower rank l.ranked) (higher_AllHigher rank l.ranked)
      (omega (arith, wide)) (omega (arith, wide)) (omega arith)
      (omega (arith, wide, greatest_some (lower rank l.ranked)))

  counted : length (with_rank rank 0 l.ranked) ≤ length l.ranked + 1
  counted =
      omega (
        arith,
        length-append (lower rank l.ranked) (record { rank = rank; level = 0 } ∷ higher rank l.ranked),
        length-append (lower rank l.ranked) (higher rank l.ranked),
        ap length (around 0 rank l.ranked apart),
        filter_length (λ (r : Ranked). not (rank == r.rank)) l.ranked,
      )

  spread_rising : length l.ranked + 3 ≤ l.size → IsRising 0 2 l.size (spread l.size (with_rank rank 0 l.ranked))
  spread_rising room =
      let w = with_rank rank 0 l.ranked in
      let ranks : RanksRise 0 w = ranks_between 0 (lower rank l.ranked) (record { rank = rank; level = 0 })
      (higher rank l.ranked) (ranks_of_rising 0 2 l.size _ sides) (lower_AllLower rank l.ranked)
      (higher_AllHigher rank l.ranked) (omega arith) in
      let fits : length w + 2 ≤ l.size = omega (arith, counted, room) in
      subst (IsRising 0 2 l.size) (sym (spread_numbered l.size w ranks))
      (numbered_rising l.size (length w) fits 0 1 2 w ranks (omega arith) (first_level l.size (length w) fits))

  pub placed_levelling : (HasNoRoom l rank → ⊥) → IsLevelling (placing l rank).1.size (placing l rank).1.ranked
  placed_levelling room = by (level_of l rank) refl
    where
      more : level_of l rank ≡ None → length l.ranked + 3 ≤ l.size
      more e =
          let taken = room_taken 0 2 l.size l.ranked k.rising (omega (arith, k.size_from)) in
          let other : length l.ranked ≢ l.size - 2 = λ s. room (none_is (level_of l rank) e, s) in
          omega (arith, taken, k.size_from)

      fresh : (b : Bool) → nat_le 2 (level_above l rank - level_below l rank) ≡ b → level_of l rank ≡ None
          → IsLevelling (placing_new l rank).1.size (placing_new l rank).1.ranked
      fresh true gap e = rw gap (record { size_from = k.size_from; size_to = k.size_to; rising = between gap })
      fresh false gap e = rw gap
          (record { size_from = k.size_from; size_to = k.size_to; rising = spread_rising (more e) })

      by : (o : Option ℕ) → level_of l rank ≡ o
          → IsLevelling (placing_by o l rank).1.size (placing_by o l rank).1.ranked
      by (Some level) e = k
      by None e = fresh _ refl e
