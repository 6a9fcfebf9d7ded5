use denote.Param.Send.{sendable}
use Rattle.policy_serving.proofs.Crossing.{hyper}
use Rattle.policy_serving.proofs.proxy.ProxyHost.is_crowded.Goals as goal

pub is_crowded-requires-send-M : goal.is_crowded-requires-send-M
is_crowded-requires-send-M c κs = search (hyper, sendable) depth 10
