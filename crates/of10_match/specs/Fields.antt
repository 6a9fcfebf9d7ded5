-- What contracts see of headers and matches: plain records of numbers.
use Rattle.std.specs.Prelude.{ℕ, Option}
use Rattle.of10_match.specs.declared.header.Prefix.{Prefix}

-- a header: the twelve numbers of a packet that matches look at
pub record HeaderOf : Type 0 where
  pub in_port : ℕ
  pub dl_src : ℕ
  pub dl_dst : ℕ
  pub dl_vlan : ℕ
  pub dl_vlan_pcp : ℕ
  pub dl_type : ℕ
  pub nw_tos : ℕ
  pub nw_proto : ℕ
  pub nw_src : ℕ
  pub nw_dst : ℕ
  pub tp_src : ℕ
  pub tp_dst : ℕ

-- a match: for each field nothing, or the value or prefix that it asks for
pub record MatchOf : Type 0 where
  pub in_port : Option ℕ
  pub dl_src : Option ℕ
  pub dl_dst : Option ℕ
  pub dl_vlan : Option ℕ
  pub dl_vlan_pcp : Option ℕ
  pub dl_type : Option ℕ
  pub nw_tos : Option ℕ
  pub nw_proto : Option ℕ
  pub nw_src : Option Prefix
  pub nw_dst : Option Prefix
  pub tp_src : Option ℕ
  pub tp_dst : Option ℕ
