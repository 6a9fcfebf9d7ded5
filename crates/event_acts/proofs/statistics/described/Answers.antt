use Rattle.std.proofs.Common.{◌≡◌, List, ℕ, Option, [], subst}
use Rattle.std.specs.Prelude.{IfOk}
use Rattle.std.specs.Option.{option_map_or}
use Rattle.member_replies.specs.Statistics.{description, messages}
use Rattle.virtual_topology.specs.declared.plan.VirtualItem.{VirtualItem}
use Rattle.event_acts.proofs.statistics.described.Goals as goal

pub returns : goal.returns
returns c =
    subst
    (λ (o : Option VirtualItem). IfOk c.desc_reply.result (λ (sent : List (List ℕ)).
    sent ≡ messages c.args.xid
    (description (option_map_or (λ (x : VirtualItem). x.dpid) o 0) (option_map_or (λ (x : VirtualItem). x.name) o []))))
    c.in-Some.ensures c.desc_reply.ensures
