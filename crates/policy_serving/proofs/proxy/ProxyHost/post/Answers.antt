use denote.Param.Send.{sendable}
use Rattle.policy_serving.proofs.Crossing.{hyper}
use Rattle.policy_serving.proofs.proxy.ProxyHost.post.Goals as goal

pub post-requires-send-M : goal.post-requires-send-M
post-requires-send-M g c κs within = search (hyper, sendable) depth 10
