use Rattle.std.proofs.Common.{◌∙◌, Some, None, sym}
use Rattle.inner_paths.proofs.Leads.{hop_is}
use Rattle.inner_paths.proofs.table.hop.Goals as goal

pub returns-in_err-port : goal.returns-in_err-port
returns-in_err-port c =
    rw c.from_residual.ensures
    (hop_is c.args.topology.now c.args.from c.args.to c.if-from-to.false c.args.distances.now c.requires
    c.cable_ways.result.now c.cable_ways.ensures.ways c.cable_ways.ensures.within None
    (sym c.in_err-port.was ∙ c.nearest.ensures))

pub returns : goal.returns
returns c =
    hop_is c.args.topology.now c.args.from c.args.to c.if-from-to.false c.args.distances.now c.requires
    c.cable_ways.result.now c.cable_ways.ensures.ways c.cable_ways.ensures.within
    (Some (c.in_ok-port.field-0-0, c.in_ok-port.port)) (sym c.in_ok-port.was ∙ c.nearest.ensures)
