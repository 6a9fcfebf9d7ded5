use Rattle.std.proofs.Common.{◌≤◌, ◌<◌, ◌+◌, ◌||◌, not, ◌∙◌, [], ◌∷◌, ap, sym, subst, drop, length, get_or, arith}
use Rattle.std.proofs.lemmas.List.{drop_all}
use Rattle.level_map.specs.InsidePlaces.{RanksRise}
use Rattle.level_map.specs.Levels.{Levels}
use Rattle.level_map.specs.declared.ranked.Ranked.{Ranked}
use Rattle.member_table.specs.Changes.{is_among}
use Rattle.member_state.specs.InsideRanks.{without_unused}
use Rattle.member_state.proofs.Levels.{kept_ranks}
use Rattle.member_state.proofs.Lists.{drop_next}
use Rattle.member_state.proofs.Unused.{has, unused_next, unused_none}
use Rattle.member_state.proofs.commit.drop_all_unused.Goals as goal

pub loop-rank-preserved : goal.loop-rank-preserved
loop-rank-preserved c =
    let es = c.args.table.now.table.entries in
    let rs = c.args.ranks.now in
    let i = c.loop-rank.rank-index in
    let l = c.loop-rank.levels in
    let test = c.loop-rank-test.true in
    let lt : i < length rs = omega arith in
    record {
      rise = subst (λ (k : Levels). RanksRise 0 k.ranked) (sym c.drop_unused.ensures)
          (kept_ranks (λ (r : Ranked). has es r.rank || not (is_among (get_or rs i 0 ∷ []) r.rank)) 0 l.ranked
          c.loop-rank.invariant.rise);
      rest =
          ap (without_unused es (drop (i + 1) rs)) c.drop_unused.ensures
          ∙ (unused_next es (get_or rs i 0) (drop (i + 1) rs) l
          ∙ (ap (λ xs. without_unused es xs l) (sym (drop_next rs i 0 lt)) ∙ c.loop-rank.invariant.rest));
    }

pub returns : goal.returns
returns c =
    let es = c.args.table.now.table.entries in
    let rs = c.args.ranks.now in
    let i = c.loop-rank.rank-index in
    let l = c.loop-rank.levels in
    let test = c.loop-rank-test.false in
    let past : length rs ≤ i = omega arith in
    sym (ap (λ xs. without_unused es xs l) (drop_all i rs past) ∙ unused_none es l) ∙ c.loop-rank.invariant.rest
