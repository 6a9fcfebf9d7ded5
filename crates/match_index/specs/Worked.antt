-- Four matches under ids, and what is found among them, computed.
use Rattle.std.specs.Prelude.{◌≡◌, ℕ, List, [], ◌∷◌, Some, None, true}
use Rattle.of10_match.specs.Fields.{HeaderOf, MatchOf}
use Rattle.of10_match.specs.Matching.{everything}
use Rattle.match_index.specs.InsideShapes.{place_in, shape_of}
use Rattle.match_index.specs.Items.{before, ids_of, is_before}
use Rattle.match_index.specs.Questions.{is_covered, is_holding, is_in_way, is_meeting}
use Rattle.match_index.specs.declared.item.Item.{Item}

-- IPv4 packets to addresses, and TCP packets to a port
abbrev pub going_to : ℕ → ℕ → MatchOf
going_to addr len = record everything { dl_type = Some 0x0800; nw_dst = Some (record { addr = addr; len = len }) }

abbrev pub to_port : ℕ → MatchOf
to_port port = record everything { dl_type = Some 0x0800; nw_proto = Some 6; tp_dst = Some port }

-- a match under an id, with a rank
abbrev pub item : ℕ → ℕ → MatchOf → Item
item id rank m = record { id = id; rank = rank; normal = m }

-- a net, a host of it, another net and a port
abbrev pub four : List Item
four = item 1 100 (going_to 0x0a000000 8) ∷ item 2 100 (going_to 0x0a000001 32) ∷ item 3 100 (going_to 0x0b000000 8)
    ∷ item 4 200 (to_port 80) ∷ []

-- a TCP packet to an address and a port
abbrev pub packet : ℕ → ℕ → HeaderOf
packet addr port = record {
  in_port = 1;
  dl_src = 1;
  dl_dst = 2;
  dl_vlan = 65535;
  dl_vlan_pcp = 0;
  dl_type = 0x0800;
  nw_tos = 0;
  nw_proto = 6;
  nw_src = 5;
  nw_dst = addr;
  tp_src = 1;
  tp_dst = port;
}

-- a packet is held by the net, by its host and by its port
abbrev pub PacketsAreHeld : Type 0
PacketsAreHeld = (ids_of (is_holding (packet 0x0a000001 80)) four ≡ 1 ∷ 2 ∷ 4 ∷ [])
    × (ids_of (is_holding (packet 0x0a000002 22)) four ≡ 1 ∷ [])

-- a longer prefix meets the shorter ones and what doesn't ask for addresses, and covers nothing of them
abbrev pub MatchesMeet : Type 0
MatchesMeet = (ids_of (is_meeting (going_to 0x0a000000 16)) four ≡ 1 ∷ 2 ∷ 4 ∷ [])
    × (ids_of (is_covered (going_to 0x0a000000 16)) four ≡ 2 ∷ [])

-- of one rank the others that overlap are in the way, and not the same match
abbrev pub OthersAreInWay : Type 0
OthersAreInWay = (ids_of (is_in_way 100 (going_to 0x0a000000 8)) four ≡ 2 ∷ [])
    × (ids_of (is_in_way 200 (going_to 0x0a000000 8)) four ≡ 4 ∷ [])

-- the higher rank comes first, and at one rank the lesser id
abbrev pub HigherIsFirst : Type 0
HigherIsFirst = (before (Some (item 1 100 everything)) (Some (item 4 200 everything)) ≡ Some (item 4 200 everything))
    × (is_before (item 1 100 everything) (item 2 100 everything) ≡ true)

-- among the matches of 8 bits of an address, one alone can meet a host; a shorter prefix can meet many
abbrev pub PlacesAreTold : Type 0
PlacesAreTold = (place_in (shape_of (going_to 0x0b000000 8)) (going_to 0x0a000001 32) ≡ Some (going_to 0x0a000000 8))
    × (place_in (shape_of (going_to 0x0a000001 32)) (going_to 0x0a000000 8) ≡ None)
