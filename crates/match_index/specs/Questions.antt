-- Which items are asked for.
use Rattle.std.specs.Prelude.{ℕ, ◌==◌, ◌&&◌, not, Bool, Some}
use Rattle.of10_match.specs.Fields.{HeaderOf, MatchOf}
use Rattle.of10_match.specs.Matching.{covers, holds, overlaps}
use Rattle.of10_match.specs.Same.{same_match}
use Rattle.match_index.specs.declared.item.Item.{Item}
use Rattle.match_index.specs.declared.question.Question.{Question}
use Rattle.match_index.specs.declared.question.Question.TheVariants.{Holding, Meeting, Covered, InWay}

-- the item's match holds the header
abbrev pub is_holding : HeaderOf → Item → Bool
is_holding h e = holds e.normal h

-- the item's match overlaps
abbrev pub is_meeting : MatchOf → Item → Bool
is_meeting m e = overlaps m e.normal

-- the item's match is covered
abbrev pub is_covered : MatchOf → Item → Bool
is_covered m e = covers m e.normal

-- the item has the rank, and its match is another one that overlaps
abbrev pub is_in_way : ℕ → MatchOf → Item → Bool
is_in_way rank m e = (rank == e.rank) && (overlaps m e.normal && not (same_match m e.normal))

-- the item is asked for
abbrev pub asks : Question → Item → Bool
asks (Holding h) e = is_holding h e
asks (Meeting m) e = is_meeting m e
asks (Covered m) e = is_covered m e
asks (InWay rank m) e = is_in_way rank m e

-- the match that holds one header alone
abbrev pub exact : HeaderOf → MatchOf
exact h = record {
  in_port = Some h.in_port;
  dl_src = Some h.dl_src;
  dl_dst = Some h.dl_dst;
  dl_vlan = Some h.dl_vlan;
  dl_vlan_pcp = Some h.dl_vlan_pcp;
  dl_type = Some h.dl_type;
  nw_tos = Some h.nw_tos;
  nw_proto = Some h.nw_proto;
  nw_src = Some (record { addr = h.nw_src; len = 32 });
  nw_dst = Some (record { addr = h.nw_dst; len = 32 });
  tp_src = Some h.tp_src;
  tp_dst = Some h.tp_dst;
}

-- a match that overlaps that of each item that is asked for
abbrev pub probe : Question → MatchOf
probe (Holding h) = exact h
probe (Meeting m) = m
probe (Covered m) = m
probe (InWay rank m) = m
