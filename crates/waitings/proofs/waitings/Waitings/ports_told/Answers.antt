use Rattle.std.proofs.Common.{ap, sym, ◌∙◌}
use Rattle.std.specs.List.{list_any}
use Rattle.waitings.specs.Ports.{taking_ports}
use Rattle.waitings.specs.Waitings.{waits_for_ports}
use Rattle.waitings.proofs.Firsts.{first_none}
use Rattle.waitings.proofs.waitings.Waitings.ports_told.Goals as goal

pub returns-then-not-any_waits_for_ports-clause-now : goal.returns-then-not-any_waits_for_ports-clause-now
returns-then-not-any_waits_for_ports-clause-now c =
    let none =
    ap (list_any (waits_for_ports c.args.switch c.args.xid)) (sym c.list.ensures)
    ∙ (sym c.any_waits_for_ports.ensures ∙ c.if-not-any_waits_for_ports.true) in
    sym (first_none (waits_for_ports c.args.switch c.args.xid)
    (taking_ports c.args.topology.now c.args.switch c.args.xid c.args.more c.args.stats.now) c.args.self.now.now none)
