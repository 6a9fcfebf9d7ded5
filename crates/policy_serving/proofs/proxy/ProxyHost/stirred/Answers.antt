use denote.Param.Send.{sendable}
use Rattle.policy_serving.proofs.Crossing.{hyper}
use Rattle.policy_serving.proofs.proxy.ProxyHost.stirred.Goals as goal

pub stirred-requires-send-M : goal.stirred-requires-send-M
stirred-requires-send-M c κs = search (hyper, sendable) depth 10
