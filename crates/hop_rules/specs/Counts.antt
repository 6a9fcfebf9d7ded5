-- The steps of a change of the rules of a virtual switch: at the node of each port, for each number of hops, one for
-- each rule that came to the virtual switch, and one for each pair that could meet of a rule of the virtual switch and
-- one of a node to which its links lead, of which one came.
use Rattle.std.specs.Prelude.{ℕ, Bool, zero, suc, ◌+◌, ◌<◌, List, count_by, length, map, sum_by}
use Rattle.list_change.specs.Coming.{came}
use Rattle.rule_ancestry.specs.Holding.{Held}
use Rattle.policy_meaning.specs.Hops.{Fabric, node}
use Rattle.policy_meaning.specs.declared.network.Place.{Place}
use Rattle.policy_meaning.specs.declared.rule.Rule.{Rule}
use Rattle.made_rules.specs.Coming.{is_rule}
use Rattle.hop_rules.specs.Links.{exits, peer_at}
use Rattle.hop_rules.specs.Nodes.{arrival, could}
use Rattle.hop_rules.specs.Tables.{ChangesBy}
use Rattle.hop_rules.specs.declared.exits.Exit.{Exit}
use Rattle.hop_rules.specs.declared.exits.LinkEnd.{LinkEnd}

-- a rule whatever its id
abbrev pub any_id : Rule → Held Rule
any_id r = record { id = 0; item = r }

-- a rule of a virtual switch, as it stands at a port, could meet one where the link of a place leads
abbrev pub could_meet : Place → List Exit → ℕ → Rule → Rule → Bool
could_meet at exits place a b = could at exits (any_id a) (arrival place (any_id b))

-- how many rules of the nodes to which links lead, for n hops, a rule of a virtual switch could meet
abbrev pub meets_there : Fabric → ℕ → Place → List Exit → Rule → ℕ
meets_there f n at exits a =
    sum_by (λ (e : Exit). count_by (could_meet at exits e.place a) (node f n e.peer.v e.peer.port)) exits

-- how many rules of a virtual switch one could meet that the link of a place leads to
abbrev pub meets_here : Fabric → Place → List Exit → ℕ → Rule → ℕ
meets_here f at exits place b = count_by (λ a. could_meet at exits place a b) (f.rules at.v)

-- the steps at the node of a port, for one hop more than n: `come` came to the virtual switch, and to each place where
-- links lead those of `came`
abbrev pub node_steps : Fabric → ℕ → List Exit → Place → List Rule → (ℕ → List Rule) → ℕ
node_steps f n exits at come came =
    sum_by (λ (a : Rule). 1 + meets_there f n at exits a) come
    + sum_by (λ (e : Exit). sum_by (meets_here f at exits e.place) (came e.place)) exits

-- those at some ports
abbrev pub row_steps : Fabric → List LinkEnd → (ℕ → List Rule) → ℕ → (ℕ → List Rule) → List Place → ℕ
row_steps f es come n came places = sum_by (λ (p : Place). node_steps f n (exits es p.v) p (come p.v) came) places

-- ---- what came, from one fabric to another
-- to a virtual switch
abbrev pub rules_came : Fabric → Fabric → ℕ → List Rule
rules_came f g v = came is_rule (f.rules v) (g.rules v)

-- to the node where the link of a place leads, for n hops
abbrev pub peers_came : Fabric → Fabric → List LinkEnd → ℕ → ℕ → List Rule
peers_came f g es n k =
    came is_rule (node f n (peer_at es k).v (peer_at es k).port) (node g n (peer_at es k).v (peer_at es k).port)

-- exactly these came there, as a change says
abbrev pub CameThere : Fabric → Fabric → List LinkEnd → ℕ → (ℕ → List Rule) → Type 0
CameThere f g es n came = (k : ℕ) → k < length es
    → ((gone : List Rule) × ChangesBy (node f n (peer_at es k).v (peer_at es k).port)
    (node g n (peer_at es k).v (peer_at es k).port) gone (came k))

-- and to the virtual switches
abbrev pub CameTo : Fabric → Fabric → (ℕ → List Rule) → Type 0
CameTo f g come = (v : ℕ) → ((gone : List Rule) × ChangesBy (f.rules v) (g.rules v) gone (come v))

-- ---- the steps of all hops
-- Those at the nodes from n hops on, where these came to the virtual switches: so often at the nodes where links lead,
-- for each time a hop more, and then at those of the outside ports.
abbrev pub steps_from : Fabric → Fabric → List LinkEnd → (ℕ → List Rule) → List Place → ℕ → ℕ → ℕ
steps_from f g es come outside n zero = row_steps g es come n (peers_came f g es n) outside
steps_from f g es come outside n (suc more) =
    row_steps g es come n (peers_came f g es n) (map (λ (e : LinkEnd). e.peer) es)
    + steps_from f g es come outside (suc n) more

-- The steps of a change from one fabric to another, through at most so many hops.
abbrev pub change_steps : Fabric → Fabric → List LinkEnd → List Place → ℕ → ℕ
change_steps f g es outside zero = 0
change_steps f g es outside (suc more) = steps_from f g es (rules_came f g) outside 0 more
