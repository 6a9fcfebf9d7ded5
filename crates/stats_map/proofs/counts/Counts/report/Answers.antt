use Rattle.std.proofs.Common.{◌≡◌, Bool, sym, subst, ◌∙◌}
use Rattle.switch_meaning.specs.Counts.{Numbers}
use Rattle.stats_map.specs.Counting.{Place, reported}
use Rattle.stats_map.specs.InsideSums.{seen}
use Rattle.stats_map.specs.Told.{HeldOf, told}
use Rattle.stats_map.proofs.Reporting.{report-last}
use Rattle.stats_map.proofs.counts.Counts.report.Goals as goal

pub returns-then-last-clause-counts : goal.returns-then-last-clause-counts
returns-then-last-clause-counts c =
    let place : Place = (c.args.switch, c.args.cookie) in
    let n : Numbers = record { packets = c.args.packets; bytes = c.args.bytes } in
    let s = seen c.self.inside.live.entries c.self.inside.sums.entries in
    let s1 = seen c.renumber_at.new.live.entries c.renumber_at.new.sums.entries in
    let s2 = seen c.end_at.new.live.entries c.end_at.new.sums.entries in
    let found = sym c.if-not-renumber_at.false ∙ c.renumber_at.ensures.found in
    subst (λ (z : HeldOf). s2 ≡ reported place n c.args.last (told z)) c.self.view_is
    (subst (λ (b : Bool). s2 ≡ reported place n b s) (sym c.if-last.true)
    (report-last place n s s1 c.renumber_at.ensures.numbers s2 found c.end_at.ensures.ended))
