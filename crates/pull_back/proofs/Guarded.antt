-- What of a normal match a pull needs.
use Rattle.std.proofs.Common.{ℕ, Option, Some, None}
use Rattle.of10_match.specs.Fields.{MatchOf}

-- a field that is named stands beside one that it needs
abbrev pub Guards : {A : Type 0} → Option ℕ → Option A → Type 0
Guards None None = Unit {0}
Guards None (Some x) = ⊥
Guards (Some v) m = Unit {0}

-- what a normal match keeps, as far as a pull needs it
pub record IsGuarded (m : MatchOf) : Type 0 where
  pub nw_tos : Guards m.dl_type m.nw_tos
  pub nw_src : Guards m.dl_type m.nw_src
  pub nw_dst : Guards m.dl_type m.nw_dst
  pub tp_src : Guards m.dl_type m.tp_src
  pub tp_dst : Guards m.dl_type m.tp_dst
  pub tp_src_proto : Guards m.nw_proto m.tp_src
  pub tp_dst_proto : Guards m.nw_proto m.tp_dst
