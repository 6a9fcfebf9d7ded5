use Rattle.std.proofs.Common.{◌≡◌, sym, subst, ◌∙◌}
use Rattle.std.specs.Prelude.{MatchOption, Option}
use Rattle.switch_meaning.specs.Counts.{Cookie}
use Rattle.stats_map.specs.Counting.{ended}
use Rattle.stats_map.specs.InsideSums.{seen}
use Rattle.stats_map.proofs.Acts.{end-allowed, end-seen, end-sums}
use Rattle.stats_map.proofs.cookies.end_at.Goals as goal

pub change_each-requires : goal.change_each-requires
change_each-requires c =
    end-allowed c.args.place.now c.args.live.now.entries c.args.sums.now.entries c.in-Some.row c.numbers-numbers.result
    c.as_slice.result.now (sym c.in-Some.ensures.value)
    c.numbers-numbers.ensures.packets c.numbers-numbers.ensures.bytes (c.as_slice.ensures ∙ c.ancestry.ensures)
    c.requires

pub returns-clause-sums : goal.returns-clause-sums
returns-clause-sums c =
    end-sums c.args.place.now c.args.live.now.entries c.args.sums.now.entries c.in-Some.row c.numbers-numbers.result
    c.as_slice.result.now (sym c.in-Some.ensures.value)
    c.numbers-numbers.ensures.packets c.numbers-numbers.ensures.bytes (c.as_slice.ensures ∙ c.ancestry.ensures)
    c.requires
    c.remove.new.self.entries c.change_each.new.sums.entries c.remove.ensures.entries c.change_each.ensures

pub returns-clause-ended : goal.returns-clause-ended
returns-clause-ended c =
    let old = seen c.args.live.now.entries c.args.sums.now.entries in
    let new = seen c.remove.new.self.entries c.change_each.new.sums.entries in
    subst (λ (o : Option Cookie). MatchOption o (new ≡ old) (λ (d : Cookie). new ≡ ended c.args.place.now d old))
    c.in-Some.ensures.value
    (end-seen c.args.place.now c.args.live.now.entries c.args.sums.now.entries c.in-Some.row c.numbers-numbers.result
    c.as_slice.result.now (sym c.in-Some.ensures.value)
    c.numbers-numbers.ensures.packets c.numbers-numbers.ensures.bytes (c.as_slice.ensures ∙ c.ancestry.ensures)
    c.requires
    c.remove.new.self.entries c.change_each.new.sums.entries c.remove.ensures.entries c.change_each.ensures)
