-- Statistics in examples; bytes are written in hexadecimal digits.
use Rattle.std.specs.Prelude.{◌≡◌, refl, ℕ, ◌^◌, ◌-◌, ◌==◌, List, [], ◌∷◌, ◌++◌, codes, map, replicate, if◌then◌else◌}
use Rattle.hex.specs.Hex.{encode_lower, encode_with}
use Rattle.of10_actions.specs.declared.action.Action.TheVariants.{Output}
use Rattle.of10_stats.specs.Parts.{part_replies, parts_at, taken}
use Rattle.of10_stats.specs.Spelling.{entry_with, port_with}
use Rattle.of10_stats.specs.declared.reply.ReplyBody.{ReplyBody}
use Rattle.of10_stats.specs.declared.reply.ReplyBody.TheVariants.{Port}
use Rattle.switch_meaning.specs.Counts.{Numbers}
use Rattle.member_table.specs.Tables.{is_output_to}
use Rattle.member_table.specs.declared.entry.Entry.{Entry}
use Rattle.member_replies.specs.Filters.{filter_of, listed}
use Rattle.member_replies.specs.Statistics.{aggregate, description, flows, messages, ports, tables, unknown}
use Rattle.member_replies.specs.Worked.{entry, linked, raw_text}
use Rattle.member_replies.specs.declared.filter.Filter.{Filter}

-- the messages of a reply, in digits
abbrev pub replied : ℕ → ReplyBody → List (List ℕ)
replied xid body = map encode_lower (messages xid body)

-- another entry, which leaves by port 3
abbrev pub other : Entry
other = record entry { serial = 4; priority = 7; rank = 7; actions = Output 3 0 ∷ [] }

-- the match of every packet
abbrev pub everything : List ℕ
everything = 0 ∷ 0x38 ∷ 0x20 ∷ 0xff ∷ replicate 36 0

-- all entries, those that leave by port 2, and those of a second table
abbrev pub all_of_them : Filter
all_of_them = filter_of everything 0xff 0xffff

abbrev pub by_port_2 : Filter
by_port_2 = filter_of everything 0 2

abbrev pub of_another_table : Filter
of_another_table = filter_of everything 1 0xffff

-- the entries' counts
abbrev pub count : ℕ → Numbers
count serial = if serial == 3 then record { packets = 5; bytes = 300 } else record { packets = 2 ^ 64 - 1; bytes = 60 }

-- which entries are listed, and a FLOW reply with one
pub record FlowsAreListed : Type 0 where
  pub all : listed all_of_them (entry ∷ other ∷ []) ≡ entry ∷ other ∷ []
  pub table : listed of_another_table (entry ∷ other ∷ []) ≡ []
  pub narrow : listed (filter_of entry.raw 0 0xffff) (entry ∷ other ∷ []) ≡ entry ∷ other ∷ []
  pub message : replied 9 (flows 25 count by_port_2 (entry ∷ other ∷ []))
      ≡ (codes "0111006c000000090001000000600000"
      ++ (raw_text ++ (codes "0000000f000000008000003c000000000000000011223344556677880000000000000005"
      ++ codes "000000000000012c0000000800020000"))) ∷ []
  pub none : replied 9 (flows 25 count of_another_table (entry ∷ other ∷ [])) ≡ codes "0111000c0000000900010000" ∷ []

-- sums, one of which stands still; a table of two entries; ports of which nothing is known, and one that isn't visible
pub record TotalsAreTold : Type 0 where
  pub aggregate : replied 9 (aggregate count all_of_them (entry ∷ other ∷ []))
      ≡ codes "011100240000000900020000ffffffffffffffff00000000000001680000000200000000" ∷ []
  pub tables : replied 9 (tables 1024 (entry ∷ other ∷ []))
      ≡ (codes "0111004c000000090003000000000000"
      ++ (codes "636f7669736f72" ++ (replicate 50 48 ++ (codes "003fffff0000040000000002" ++ replicate 32 48))))
      ∷ []
  pub port : replied 9 (ports 3 linked []) ≡ (codes "0111007400000009000400000003000000000000" ++ replicate 192 102)
      ∷ []
  pub hidden : replied 9 (ports 2 linked []) ≡ codes "0111000c0000000900040000" ∷ []
  pub each : ports 0xffff linked (unknown 8 ∷ record (unknown 3) { rx_packets = 4 }
      ∷ record (unknown 3) { rx_packets = 5 } ∷ [])
      ≡ Port (unknown 1 ∷ record (unknown 3) { rx_packets = 5 } ∷ unknown 8 ∷ unknown 9 ∷ [])

-- what a virtual switch is
abbrev pub ASwitchIsDescribed : Type 0
ASwitchIsDescribed = messages 9 (description 0xa1 (codes "v1"))
    ≡ (1 ∷ 17 ∷ 4 ∷ 0x2c ∷ 0 ∷ 0 ∷ 0 ∷ 9 ∷ 0 ∷ 0 ∷ 0 ∷ 0
    ∷ (codes "CoVisor"
    ++ (replicate 249 0
    ++ (codes "virtual switch" ++ (replicate 242 0 ++ (codes "of10 profile 1" ++ (replicate 242 0
    ++ (codes "00000000000000a1" ++ (replicate 16 0 ++ (codes "v1" ++ replicate 254 0)))))))))) ∷ []

pub flows_are_listed : FlowsAreListed
unfolding encode_with entry_with parts_at taken part_replies is_output_to
flows_are_listed = record { all = refl; table = refl; narrow = refl; message = refl; none = refl }

pub totals_are_told : TotalsAreTold
unfolding encode_with port_with is_output_to
totals_are_told = record { aggregate = refl; tables = refl; port = refl; hidden = refl; each = refl }

pub a_switch_is_described : ASwitchIsDescribed
unfolding encode_with
a_switch_is_described = refl
