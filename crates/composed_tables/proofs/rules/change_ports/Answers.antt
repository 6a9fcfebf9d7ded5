use Rattle.composed_tables.proofs.Building.{may-come}
use Rattle.composed_tables.proofs.rules.change_ports.Goals as goal

pub apply-requires-clause-come : goal.apply-requires-clause-come
apply-requires-clause-come g c w =
    may-come c.args.hops.now c.args.sizes.now c.args.v c.size_at-size.result c.requires.sizes c.requires.there
    c.size_at-size.ensures c.args.told.now.come
    (c.are_fitting.ensures c.if-not-are_fitting.false)

pub returns-clause-handed : goal.returns-clause-handed
returns-clause-handed g c = c.in_ok-deltas.ensures.handed c.requires.parted

pub returns-clause-deltas : goal.returns-clause-deltas
returns-clause-deltas g c = record {
  ports = c.in_ok-deltas.ensures.ports c.requires.parted;
  others = c.in_ok-deltas.ensures.others c.requires.parted;
}

pub returns-in_err-deltas-clause-steps : goal.returns-in_err-deltas-clause-steps
returns-in_err-deltas-clause-steps g c after handed apart = c.apply.ensures.steps c.requires.parted after handed apart

pub returns-clause-steps : goal.returns-clause-steps
returns-clause-steps g c after handed apart = c.apply.ensures.steps c.requires.parted after handed apart
