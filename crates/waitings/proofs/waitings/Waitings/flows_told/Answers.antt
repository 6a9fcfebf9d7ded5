use Rattle.std.proofs.Common.{ap, sym, ◌∙◌}
use Rattle.waitings.specs.Waitings.{unless_more, waits_for_flows}
use Rattle.waitings.proofs.Firsts.{first_none, first_same}
use Rattle.waitings.proofs.waitings.Waitings.flows_told.Goals as goal

pub returns-then-more-clause-now : goal.returns-then-more-clause-now
returns-then-more-clause-now c =
    sym (first_same (waits_for_flows c.args.switch c.args.xid) (unless_more c.args.more c.args.switch c.args.xid)
    (λ w. ap (λ more. unless_more more c.args.switch c.args.xid w) c.if-more.true) c.args.self.now.now)

pub returns-then-not-waits_for_flows-clause-now : goal.returns-then-not-waits_for_flows-clause-now
returns-then-not-waits_for_flows-clause-now c =
    sym (first_none (waits_for_flows c.args.switch c.args.xid) (unless_more c.args.more c.args.switch c.args.xid)
    c.args.self.now.now (sym c.waits_for_flows.ensures ∙ c.if-not-waits_for_flows.true))
