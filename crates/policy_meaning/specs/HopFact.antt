-- The rules of a node mean what the walk gives.
use Rattle.std.specs.Prelude.{◌≡◌, ℕ, ◌<◌, Bool, true, false, Option, Some, None, List, filter_map, map}
use Rattle.std.specs.List.{AllByRecursion}
use Rattle.of10_match.specs.Fields.{HeaderOf}
use Rattle.of10_actions.specs.Fields.{RewriteOf}
use Rattle.of10_actions.specs.declared.effects.Out.{Out}
use Rattle.of10_actions.specs.declared.effects.Dest.{Dest}
use Rattle.of10_actions.specs.declared.effects.Dest.TheVariants.{Port, Flood, Ingress, Tell}
use Rattle.policy_meaning.specs.Best.{IsBest, IsSound, Says}
use Rattle.policy_meaning.specs.Hops.{Fabric, node, hop_size, peer_of}
use Rattle.policy_meaning.specs.Walk.{walk, takes}
use Rattle.policy_meaning.specs.declared.meaning.Meaning.{Meaning}
use Rattle.policy_meaning.specs.declared.network.Place.{Place}
use Rattle.policy_meaning.specs.declared.rule.Rule.{Rule}
use Rattle.policy_meaning.specs.declared.walking.PortOut.{PortOut}
use Rattle.policy_meaning.specs.declared.walking.Told.{Told}
use Rattle.policy_meaning.specs.declared.walking.Walked.{Walked}

-- the packet that leaves by an out
abbrev pub leaving : RewriteOf → Dest → Option PortOut
leaving r (Port v p) = Some (record { v = v; port = p; rewrite = r })
leaving r (Flood v p) = Some (record { v = v; port = p; rewrite = r })
leaving r Ingress = None
leaving r (Tell member reason) = None

-- an out that tells a member
abbrev pub told_by : RewriteOf → Dest → Option Out
told_by r (Port v p) = None
told_by r (Flood v p) = None
told_by r Ingress = None
told_by r (Tell member reason) = Some (record { rewrite = r; dest = Tell member reason })

-- a telling without the port of its hop
abbrev pub without_in_port : Told → Out
without_in_port t = record { rewrite = t.rewrite; dest = Tell t.member t.reason }

-- the outs are those of a walk, in order, and so are the tellings, but for the port of their hop
pub record AreThose (outs : List Out) (walked : Walked) : Type 0 where
  pub ports : filter_map (λ (o : Out). leaving o.rewrite o.dest) outs ≡ walked.outs
  pub tellings : filter_map (λ (o : Out). told_by o.rewrite o.dest) outs ≡ map without_in_port walked.told

-- what the rules of a node of so many levels say of a header: exactly one is best, and its outs are those of the walk
pub record HopSays (h : HeaderOf) (rules : List Rule) (size : ℕ) (walked : Walked) : Type 0 where
  pub rule : Rule
  pub best : IsBest h rules rule
  pub below : rule.level < size
  pub outs : AreThose rule.outs walked
  pub sound : IsSound rule

-- what is asked of the virtual switches and their links
pub record IsSoundFabric (f : Fabric) (means : ℕ → HeaderOf → Meaning) (spread : ℕ → Bool) (has : ℕ → ℕ
    → Bool) : Type 0 where
  pub says : (v : ℕ) (h : HeaderOf) → has v h.in_port ≡ true → Says h (f.rules v) (f.sizes v) (means v h)
  pub sound : (v : ℕ) → AllByRecursion IsSound (f.rules v)
  -- a link leads to a port of a virtual switch that isn't spread
  pub peers : (v p : ℕ) (q : Place) → peer_of (f.links v) p ≡ Some q → (has q.v q.port ≡ true) × (spread q.v ≡ false)

-- for every node, and every header that comes by its port and is taken there
abbrev pub HopFact : Type 0
HopFact =
    (f : Fabric) (means : ℕ → HeaderOf → Meaning) (spread : ℕ → Bool) (has : ℕ → ℕ → Bool)
    → IsSoundFabric f means spread has
    → (n v : ℕ) (h : HeaderOf) → has v h.in_port ≡ true → takes (spread v) h ≡ true
    → HopSays h (node f n v h.in_port) (hop_size f n v)
    (walk (record { means = means; links = f.links; spread = spread }) n v h)
