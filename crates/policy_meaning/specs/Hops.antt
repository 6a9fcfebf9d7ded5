-- The rules of the ports of virtual switches that are joined by links, for so many hops.
use Rattle.std.specs.Prelude.{ℕ, zero, suc, true, ◌==◌, ◌&&◌, ◌*◌, max, Option, Some, None, List, [], ◌∷◌}
use Rattle.std.specs.Prelude.{if◌then◌else◌, map, filter_map, flat_map, option_map}
use Rattle.of10_match.specs.Fields.{MatchOf}
use Rattle.of10_match.specs.Matching.{at_port, everything}
use Rattle.of10_actions.specs.Fields.{RewriteOf}
use Rattle.of10_actions.specs.declared.effects.Out.{Out}
use Rattle.of10_actions.specs.declared.effects.Dest.{Dest}
use Rattle.of10_actions.specs.declared.effects.Dest.TheVariants.{Port, Flood, Ingress, Tell}
use Rattle.of10_actions.specs.declared.effects.Tail.{Tail}
use Rattle.alg_priority.specs.Levels.{concat_level}
use Rattle.policy_meaning.specs.LeafRules.{rule_met}
use Rattle.policy_meaning.specs.Rules.{after_rewrite, rule_after}
use Rattle.policy_meaning.specs.declared.network.Place.{Place}
use Rattle.policy_meaning.specs.declared.network.Link.{Link}
use Rattle.policy_meaning.specs.declared.network.Onward.{Onward}
use Rattle.policy_meaning.specs.declared.rule.Rule.{Rule}

-- the virtual switches as hops see them: the rules of their expressions, how many levels these have, and the links
pub record Fabric : Type 0 where
  pub rules : ℕ → List Rule
  pub sizes : ℕ → ℕ
  pub links : ℕ → List Link

-- where a link port leads
abbrev pub peer_of : List Link → ℕ → Option Place
peer_of [] p = None
peer_of (l ∷ ls) p = if l.port == p then Some l.peer else peer_of ls p

-- where a packet goes on whose tail is this, where it came in by a port: over a link, but not back by that port
abbrev pub leads : Tail → List Link → ℕ → Option Onward
leads Tail.Nothing links port = None
leads (Tail.Pass r) links port = None
leads (Tail.Link r p) links port = if p == port then None
    else option_map (λ q. record { rewrite = r; place = q }) (peer_of links p)

-- the greatest of some sizes, and at least 1
abbrev pub greatest : List ℕ → ℕ
greatest [] = 1
greatest (x ∷ xs) = max x (greatest xs)

-- the greatest size of a virtual switch to which links lead
abbrev pub peers_size : (ℕ → ℕ) → List Link → ℕ
peers_size sizes links = greatest (map (λ (l : Link). sizes l.peer.v) links)

-- how many levels the rules of a virtual switch have for so many hops
abbrev pub hop_size : Fabric → ℕ → ℕ → ℕ
hop_size f zero v = 1
hop_size f (suc n) v = f.sizes v * peers_size (hop_size f n) (f.links v)

-- an out of a rule at the node of a port: none to that port itself, and the ingress is that port
abbrev pub out_at : ℕ → ℕ → RewriteOf → Dest → Option Out
out_at v port r (Port w p) = if (w == v) && (p == port) then None else Some (record { rewrite = r; dest = Port w p })
out_at v port r (Flood w p) = if (w == v) && (p == port) then None else Some (record { rewrite = r; dest = Flood w p })
out_at v port r Ingress = Some (record { rewrite = r; dest = Port v port })
out_at v port r (Tell member reason) = Some (record { rewrite = r; dest = Tell member reason })

-- the outs of a rule at the node of a port
abbrev pub outs_at : ℕ → ℕ → List Out → List Out
outs_at v port outs = filter_map (λ (o : Out). out_at v port o.rewrite o.dest) outs

-- the match at any port
abbrev pub without_port : MatchOf → MatchOf
without_port m = record m { in_port = None }

-- a rule as it stands at the node of a port
abbrev pub at_node : ℕ → ℕ → Rule → Rule
at_node v port a = record a { outs = outs_at v port a.outs }

-- a rule, as it stands at its node, that goes on nowhere; the rules of its peers have `size` levels
abbrev pub hop_lone : ℕ → Rule → Rule
hop_lone size a = record {
  m = a.m;
  level = concat_level a.level 0 size;
  touched = true;
  outs = a.outs;
  tail = Tail.Nothing;
  ancestry = a.ancestry;
}

-- such a rule that goes on with the rewrite r, and a rule of the node where it comes to, where both hold m
abbrev pub hopped : ℕ → RewriteOf → Rule → Rule → MatchOf → Rule
hopped size r a b m = after_rewrite size r a b true Tail.Nothing m

-- the rule of such a pair, or none where no header of a is in b, at the peer's port and after r
abbrev pub hop_rule : ℕ → RewriteOf → Rule → Rule → Option Rule
hop_rule size r a b = rule_after size r a b (without_port b.m) true Tail.Nothing

-- the rules that a rule at its node makes which goes on so, or ends
abbrev pub hops_on : Option Onward → (ℕ → ℕ → List Rule) → ℕ → Rule → List Rule
hops_on None there size a = hop_lone size a ∷ []
hops_on (Some on) there size a = filter_map (hop_rule size on.rewrite a) (there on.place.v on.place.port)

-- the rule of a packet that has no hop left
abbrev pub last_rule : Rule
last_rule = record { m = everything; level = 0; touched = true; outs = []; tail = Tail.Nothing; ancestry = [] }

-- the rules of the node of a port of a virtual switch, for so many hops
abbrev pub node : Fabric → ℕ → ℕ → ℕ → List Rule
node f zero v port = last_rule ∷ []
node f (suc n) v port =
    flat_map (λ (a : Rule). hops_on (leads a.tail (f.links v) port) (node f n) (peers_size (hop_size f n) (f.links v))
    (at_node v port a))
    (filter_map (λ a. rule_met a (at_port port)) (f.rules v))
