-- Matches and their bytes as they stand in messages of controllers and switches.
use Rattle.std.specs.Prelude.{◌≡◌, ℕ, List, [], ◌∷◌, Option, Some, None, true, false, drop}
use Rattle.of10_match.specs.Fields.{MatchOf}
use Rattle.of10_match.specs.Matching.{everything, meet, at_port, is_one_header}
use Rattle.of10_match.specs.Numbers.{rank_by}
use Rattle.of10_match.specs.OfpMatchFields.{fields_in}
use Rattle.of10_match.specs.Wildcards.{is_exact, normal_of, match_bytes}
use Rattle.of10_match.specs.declared.header.Prefix.{Prefix}

-- the match of a rule that a learning switch writes with no wildcard
abbrev pub learned_bytes : List ℕ
learned_bytes =
    0 ∷ 0 ∷ 0 ∷ 0 ∷ 0 ∷ 1 ∷ 0 ∷ 0 ∷ 0 ∷ 0 ∷ 0 ∷ 1 ∷ 0 ∷ 0 ∷ 0 ∷ 0 ∷ 0 ∷ 2 ∷ 255 ∷ 255 ∷ 0 ∷ 0 ∷ 8 ∷ 0 ∷ 0 ∷ 1 ∷ 0 ∷ 0
    ∷ 10 ∷ 0 ∷ 0 ∷ 1 ∷ 10 ∷ 0 ∷ 0 ∷ 2 ∷ 0 ∷ 8 ∷ 0 ∷ 0 ∷ []

-- the same as it is sent on: untagged packets have no dl_vlan_pcp, so its bit is set
abbrev pub sent_bytes : List ℕ
sent_bytes =
    0 ∷ 16 ∷ 0 ∷ 0 ∷ 0 ∷ 1 ∷ 0 ∷ 0 ∷ 0 ∷ 0 ∷ 0 ∷ 1 ∷ 0 ∷ 0 ∷ 0 ∷ 0 ∷ 0 ∷ 2 ∷ 255 ∷ 255 ∷ 0 ∷ 0 ∷ 8 ∷ 0 ∷ 0 ∷ 1 ∷ 0 ∷ 0
    ∷ 10 ∷ 0 ∷ 0 ∷ 1 ∷ 10 ∷ 0 ∷ 0 ∷ 2 ∷ 0 ∷ 8 ∷ 0 ∷ 0 ∷ []

-- an address alone
abbrev pub host : ℕ → Option Prefix
host addr = Some (record { addr = addr; len = 32 })

-- what both are read as
abbrev pub learned : MatchOf
learned = record {
  in_port = Some 1;
  dl_src = Some 1;
  dl_dst = Some 2;
  dl_vlan = Some 65535;
  dl_vlan_pcp = None;
  dl_type = Some 0x0800;
  nw_tos = Some 0;
  nw_proto = Some 1;
  nw_src = host 0x0a000001;
  nw_dst = host 0x0a000002;
  tp_src = Some 8;
  tp_dst = Some 0;
}

-- the match of everything, with wildcards 003820ff
abbrev pub everything_bytes : List ℕ
everything_bytes =
    0 ∷ 56 ∷ 32 ∷ 255 ∷ 0 ∷ 0 ∷ 0 ∷ 0 ∷ 0 ∷ 0 ∷ 0 ∷ 0 ∷ 0 ∷ 0 ∷ 0 ∷ 0 ∷ 0 ∷ 0 ∷ 0 ∷ 0 ∷ 0 ∷ 0 ∷ 0 ∷ 0 ∷ 0 ∷ 0 ∷ 0 ∷ 0
    ∷ 0 ∷ 0 ∷ 0 ∷ 0 ∷ 0 ∷ 0 ∷ 0 ∷ 0 ∷ 0 ∷ 0 ∷ 0 ∷ 0 ∷ []

-- packets to a prefix
abbrev pub to : ℕ → ℕ → MatchOf
to addr len = record everything { nw_dst = Some (record { addr = addr; len = len }) }

-- an entry without a wildcard is above every priority, and an entry with one has its priority
pub record Ranks : Type 0 where
  pub exact : rank_by true 5 ≡ 65536
  pub other : rank_by false 65535 ≡ 65535

-- a match of a port names one field of twelve
pub record OnePort : Type 0 where
  pub bytes : match_bytes (at_port 1) ≡ 0 ∷ 56 ∷ 32 ∷ 254 ∷ 0 ∷ 1 ∷ drop 6 everything_bytes
  pub one_of_twelve : is_one_header (at_port 1) ≡ false
  pub all_twelve : is_one_header (record learned { dl_vlan_pcp = Some 0 }) ≡ true

-- a learned rule is exact, is read without its dl_vlan_pcp and is written with that bit
pub record LearnedRule : Type 0 where
  pub exact : is_exact (fields_in learned_bytes) ≡ true
  pub reads : normal_of learned_bytes ≡ learned
  pub writes : match_bytes learned ≡ sent_bytes
  pub not_exact : is_exact (fields_in sent_bytes) ≡ false
  pub reads_back : normal_of sent_bytes ≡ learned

-- everything is written and read as its bytes
pub record Everything : Type 0 where
  pub writes : match_bytes everything ≡ everything_bytes
  pub reads : normal_of everything_bytes ≡ everything

-- the longer of two prefixes is their meet, and neighbours have none
pub record Meets : Type 0 where
  pub longer : meet (to 0x0a000000 8) (to 0x0a010000 16) ≡ Some (to 0x0a010000 16)
  pub same : meet (to 0x0a000000 8) (to 0x0a000000 8) ≡ Some (to 0x0a000000 8)
  pub neighbours : meet (to 0x0a000000 8) (to 0x0b000000 8) ≡ None
  pub with_everything : meet everything (to 0x0b000000 8) ≡ Some (to 0x0b000000 8)
