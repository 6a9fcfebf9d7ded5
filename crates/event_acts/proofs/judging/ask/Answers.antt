use Rattle.std.proofs.Common.{subst}
use Rattle.of10_msgs.specs.Ranges.{CanWrite}
use Rattle.event_acts.proofs.MemberBodies.{echo_fits}
use Rattle.event_acts.proofs.judging.ask.Goals as goal

pub returns-in-EchoRequest-clause-request : goal.returns-in-EchoRequest-clause-request
returns-in-EchoRequest-clause-request c = record {
  is = c.in-EchoRequest.is;
  fits = echo_fits c.in-EchoRequest.bytes (subst CanWrite c.in-EchoRequest.is c.requires);
}

pub returns-in-FlowMod-clause-request : goal.returns-in-FlowMod-clause-request
returns-in-FlowMod-clause-request c = rw c.in-FlowMod.is c.ask_flow_mod.ensures.request

pub returns-in-FlowMod-clause-fault : goal.returns-in-FlowMod-clause-fault
returns-in-FlowMod-clause-fault c = rw c.in-FlowMod.is c.ask_flow_mod.ensures.fault
