-- What deltas of ports say of whole virtual switches: nothing.
use Rattle.std.proofs.Common.{◌≡◌, Bool, true, false, List, [], refl}
use Rattle.std.specs.Prelude.{Contains, map, not}
use Rattle.hop_rules.specs.Links.{place}
use Rattle.hop_rules.specs.Tables.{AreOfPorts, TableOf, is_whole, own_ports}
use Rattle.hop_rules.specs.declared.delta.PortDelta.{PortDelta}
use Rattle.policy_meaning.specs.declared.network.Place.{Place}
use Rattle.switch_meaning.proofs.Members.{filter-in, from-place}
use Rattle.virtual_topology.specs.Wires.{Joint, outside_joints}
use Rattle.composed_tables.specs.Placing.{rules_at as rules_on}
use Rattle.composed_tables.specs.declared.part.Part.{Part}
use Rattle.composed_tables.specs.declared.part.Part.TheVariants.{Come, Gone}
use Rattle.composed_tables.proofs.Tests.{both}

-- a port that has rules of its own is of a virtual switch that isn't whole
own-open : (t : TableOf) (p : Place) → Contains (own_ports t) p → is_whole t p.v ≡ false
own-open t p own = open-by (is_whole t p.v)
    (filter-in (λ (q : Place). not (is_whole t q.v)) p (map (λ (j : Joint). place j.0) (outside_joints t.plan))
    (from-place p (own_ports t) own)).1
  where
    open-by : (b : Bool) → not b ≡ true → b ≡ false
    open-by true e = cc
    open-by false e = refl

-- nothing is told of a place of a whole one
pub none-whole : (t : TableOf) (deltas : List PortDelta) → AreOfPorts t deltas → (part : Part) (p : Place)
    → is_whole t p.v ≡ true → rules_on part deltas p ≡ []
none-whole t deltas d Gone p w = d.gone p (λ own. both (is_whole t p.v) w (own-open t p own))
none-whole t deltas d Come p w = d.come p (λ own. both (is_whole t p.v) w (own-open t p own))
