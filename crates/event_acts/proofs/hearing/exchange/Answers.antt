use Rattle.std.proofs.Common.{◌∙◌, ap}
use Rattle.stats_map.specs.Counting.{CountsOf}
use Rattle.stats_map.specs.Told.{told}
use Rattle.event_acts.proofs.Exchanged.{taken_back}
use Rattle.event_acts.specs.CookieCounts.{with_count}
use Rattle.event_acts.specs.declared.hearing.CookieCount.{CookieCount}
use Rattle.event_acts.proofs.hearing.exchange.Goals as goal

pub returns-in-Some-clause-back : goal.returns-in-Some-clause-back
returns-in-Some-clause-back c =
    let read = c.in-Some.numbers in
    let back : CookieCount = record { cookie = c.args.count.cookie; packets = read.0; bytes = read.1 } in
    ap (λ (s : CountsOf). with_count c.args.switch s back) c.report.ensures.counts
    ∙ taken_back (c.args.switch, c.args.count.cookie)
    (record { packets = c.args.count.packets; bytes = c.args.count.bytes }) (told c.args.counts.now) read
    c.in-Some.ensures
