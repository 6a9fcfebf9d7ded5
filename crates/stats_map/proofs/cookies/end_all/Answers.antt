use Rattle.std.proofs.Common.{◌≡◌, ◌<◌, length, sym, ap, subst, ◌∙◌}
use Rattle.std.specs.Prelude.{MatchOption, Option}
use Rattle.switch_meaning.specs.Counts.{Cookie}
use Rattle.stats_map.specs.Counting.{CountsOf, all_ended, ended, of_switch}
use Rattle.stats_map.specs.InsideSums.{seen}
use Rattle.stats_map.proofs.Switches.{at-front}
use Rattle.stats_map.proofs.cookies.end_all.Goals as goal

pub loop-place-smaller : goal.loop-place-smaller
loop-place-smaller c =
    let first = c.in-Some.ensures in
    let front = at-front c.args.switch c.loop-place.live.entries c.in-Some.place first.0 first.1 first.2 in
    subst (λ (o : Option Cookie). MatchOption o (c.end_at.new.live.entries ≡ c.loop-place.live.entries)
    (λ d. length c.end_at.new.live.entries < length c.loop-place.live.entries)) front.found c.end_at.ensures.fewer

pub loop-place-preserved : goal.loop-place-preserved
loop-place-preserved c =
    let first = c.in-Some.ensures in
    let front = at-front c.args.switch c.loop-place.live.entries c.in-Some.place first.0 first.1 first.2 in
    let old = seen c.loop-place.live.entries c.loop-place.sums.entries in
    let new = seen c.end_at.new.live.entries c.end_at.new.sums.entries in
    let now : new ≡ ended c.in-Some.place first.0 old =
    subst (λ (o : Option Cookie). MatchOption o (new ≡ old) (λ (d : Cookie). new ≡ ended c.in-Some.place d old))
    front.found c.end_at.ensures.ended in
    let rest = ap (of_switch c.args.switch) (ap (λ (s : CountsOf). s.live) now) ∙ front.left in
    let step = (λ i. all_ended (rest i) (now i)) ∙ ap (λ cookies. all_ended cookies old) (sym first.2) in
    (c.end_at.ensures.sums, step ∙ c.loop-place.invariant.1)
