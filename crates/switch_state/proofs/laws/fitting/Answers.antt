use Rattle.switch_state.proofs.Fitting.{batch_fits, flow_request_fits, installation_fits, packet_fits}
use Rattle.switch_state.proofs.Fitting.{port_request_fits}
use Rattle.switch_state.proofs.laws.fitting.Goals as goal

pub returns-clause-batch : goal.returns-clause-batch
returns-clause-batch c = batch_fits

pub returns-clause-installation : goal.returns-clause-installation
returns-clause-installation c = installation_fits

pub returns-clause-flows : goal.returns-clause-flows
returns-clause-flows c = flow_request_fits

pub returns-clause-ports : goal.returns-clause-ports
returns-clause-ports c = port_request_fits

pub returns-clause-packets : goal.returns-clause-packets
returns-clause-packets c = packet_fits
