-- Two pairs that share a key, and the change from table to table, computed.
use Rattle.std.specs.Prelude.{◌≡◌, ℕ, ◌+◌, ◌==◌, Some, List, [], ◌∷◌, ◌++◌, map, flat_map, if◌then◌else◌}
use Rattle.of10_match.specs.Matching.{at_port}
use Rattle.cv_io.specs.declared.leaf.Leaf.{Leaf}
use Rattle.of10_match.specs.Fields.{MatchOf}
use Rattle.of10_actions.specs.declared.action.Action.{Action}
use Rattle.of10_actions.specs.declared.action.Action.TheVariants.{Output}
use Rattle.switch_meaning.specs.Batches.{difference}
use Rattle.switch_meaning.specs.Keys.{installed, one_per_key}
use Rattle.switch_meaning.specs.declared.entry.PhysEntry.{PhysEntry}

-- nw_dst 10.0.0.0/24, by a port
abbrev pub net : ℕ → MatchOf
net p = record (at_port p) { dl_type = Some 0x0800; nw_dst = Some (record { addr = 0x0a000000; len = 24 }) }

-- nw_dst 10.0.0.1/32, by a port
abbrev pub host : ℕ → MatchOf
host p = record (at_port p) { dl_type = Some 0x0800; nw_dst = Some (record { addr = 0x0a000001; len = 32 }) }

-- the leaves of a monitor and of a router: of an entry by its serial number, or of a miss
abbrev pub pair : ℕ → ℕ → List Leaf
pair a b = record { member = 0; kind = a } ∷ record { member = 1; kind = b } ∷ []

-- sent to a port, unless it came by it
abbrev pub sent_to : ℕ → ℕ → List Action
sent_to p port = if p == port then [] else Output port 0 ∷ []

-- an entry with these parts
abbrev pub placed : MatchOf → ℕ → List Action → List Leaf → PhysEntry
placed m priority actions ancestry = record { m = m; priority = priority; actions = actions; ancestry = ancestry }

-- the pairs with the monitor's /24, whose kind is 3: with the router's /24 and /32, and with its miss
abbrev pub of_net : ℕ → List PhysEntry
of_net p = placed (net p) 9 (sent_to p 2) (pair 3 3) ∷ placed (host p) 11 (sent_to p 3) (pair 3 4)
    ∷ placed (net p) 6 (Output 0xfffd 65535 ∷ []) (pair 3 1) ∷ []

-- the other pairs
abbrev pub of_others : ℕ → List PhysEntry
of_others p =
    placed (host p) 11 (sent_to p 2) (pair 4 3) ∷ placed (host p) 13 (sent_to p 3) (pair 4 4)
    ∷ placed (host p) 8 (Output 0xfffd 65535 ∷ []) (pair 4 1)
    ∷ placed (net p) 6 (sent_to p 2) (pair 1 3) ∷ placed (host p) 8 (sent_to p 3) (pair 1 4)
    ∷ placed (at_port p) 3 (Output 0xfffd 65535 ∷ []) (pair 1 1) ∷ []

-- of the nine pairs of a port six are installed; of the two with the key of /32 at 11 the one with the smaller ancestry
abbrev pub SixAreInstalled : Type 0
SixAreInstalled =
    map {B = ℕ × List Leaf} (λ (e : PhysEntry). (e.priority, e.ancestry)) (one_per_key (of_net 1 ++ of_others 1))
    ≡ (9, pair 3 3) ∷ (11, pair 3 4) ∷ (13, pair 4 4) ∷ (6, pair 1 3) ∷ (8, pair 1 4) ∷ (3, pair 1 1) ∷ []

-- all twelve fields of one packet
abbrev pub one_packet : MatchOf
one_packet = record {
  in_port = Some 1;
  dl_src = Some 1;
  dl_dst = Some 2;
  dl_vlan = Some 65535;
  dl_vlan_pcp = Some 0;
  dl_type = Some 0x0800;
  nw_tos = Some 0;
  nw_proto = Some 6;
  nw_src = Some (record { addr = 0x0a000001; len = 32 });
  nw_dst = Some (record { addr = 0x0a000002; len = 32 });
  tp_src = Some 1024;
  tp_dst = Some 80;
}

-- an entry for one packet, beside one for all packets of its port
abbrev pub beside : ℕ → List PhysEntry
beside priority = placed one_packet 8 [] [] ∷ placed (at_port 1) priority [] [] ∷ []

-- a greater priority passes it over; the same one does not
abbrev pub ExactIsPassedOver : Type 0
ExactIsPassedOver = (installed (beside 9) ≡ placed (at_port 1) 9 [] [] ∷ []) × (installed (beside 8) ≡ beside 8)

-- the four ports
abbrev pub ports : List ℕ
ports = 4 ∷ 2 ∷ 3 ∷ 1 ∷ []

-- what is installed of all pairs
abbrev pub with_net : List PhysEntry
with_net = one_per_key (flat_map (λ p. of_net p ++ of_others p) ports)

-- what is installed once the /24 is gone
abbrev pub without_net : List PhysEntry
without_net = one_per_key (flat_map of_others ports)

-- the monitor's /24 goes: deletes by rising priority and then by match, and then the pair whose key is free is added
abbrev pub NetGoes : Type 0
NetGoes =
    difference with_net without_net ≡ record {
      deletes = map (λ p. placed (net p) 9 (sent_to p 2) (pair 3 3)) (1 ∷ 2 ∷ 3 ∷ 4 ∷ [])
          ++ map (λ p. placed (host p) 11 (sent_to p 3) (pair 3 4)) (1 ∷ 2 ∷ 3 ∷ 4 ∷ []);
      adds = map (λ p. placed (host p) 11 (sent_to p 2) (pair 4 3)) (1 ∷ 2 ∷ 3 ∷ 4 ∷ []);
    }

-- a member's entry at a level
abbrev pub at_level : ℕ → ℕ → PhysEntry
at_level serial level = placed (at_port 1) (level + 1) (Output 2 0 ∷ []) (record { member = 0; kind = 2 + serial } ∷ [])

-- three entries get new levels, and a fourth comes
abbrev pub LevelsMove : Type 0
LevelsMove =
    let d = difference (at_level 1 4 ∷ at_level 2 6 ∷ at_level 3 7 ∷ [])
    (at_level 1 2 ∷ at_level 2 3 ∷ at_level 3 5 ∷ at_level 4 6 ∷ []) in
    (map (λ (e : PhysEntry). e.priority) d.deletes ≡ 5 ∷ 7 ∷ 8 ∷ [])
    × (map (λ (e : PhysEntry). e.priority) d.adds ≡ 3 ∷ 4 ∷ 6 ∷ 7 ∷ [])
