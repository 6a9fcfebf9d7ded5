-- The definitions, computed on examples.
use Rattle.std.specs.Prelude.{◌≡◌, ℕ, List, [], ◌∷◌, ◌++◌, Some, Ok, Err}
use Rattle.of10_match.specs.Fields.{HeaderOf}
use Rattle.of10_actions.specs.Fields.{RewriteOf}
use Rattle.of10_actions.specs.Rewriting.{apply, no_rewrite}
use Rattle.of10_actions.specs.Effects.{effects_of}
use Rattle.of10_actions.specs.Reading.{reading}
use Rattle.of10_actions.specs.Spelling.{spellings}
use Rattle.of10_actions.specs.declared.action.Action.{Action}
use Rattle.of10_actions.specs.declared.action.Action.TheVariants.{Output, SetNwDst, SetNwTos}
use Rattle.of10_actions.specs.declared.effects.Dest.TheVariants.{Port, Flood}
use Rattle.of10_actions.specs.declared.effects.Tail.TheVariants.{Pass}
use Rattle.of10_actions.specs.declared.fault.ActionFault.TheVariants.{BadArgument, BadLen, BadVendor}

-- nw_dst becomes 2.0.0.1, then output to port 1
abbrev pub to_one : List Action
to_one = SetNwDst 0x02000001 ∷ Output 1 0 ∷ []

abbrev pub to_one_bytes : List ℕ
to_one_bytes = 0 ∷ 7 ∷ 0 ∷ 8 ∷ 2 ∷ 0 ∷ 0 ∷ 1 ∷ 0 ∷ 0 ∷ 0 ∷ 8 ∷ 0 ∷ 1 ∷ 0 ∷ 0 ∷ []

-- its bytes, both ways
abbrev pub ToOneIsSpelled : Type 0
ToOneIsSpelled = (spellings to_one ≡ to_one_bytes) × (reading to_one_bytes ≡ Ok to_one)

-- behind it, a vid of 4096, an action of a vendor, three bytes
abbrev pub FaultsBehindIt : Type 0
FaultsBehindIt = (reading (to_one_bytes ++ 0 ∷ 1 ∷ 0 ∷ 8 ∷ 16 ∷ 0 ∷ 0 ∷ 0 ∷ []) ≡ Err (BadArgument 16))
    × (reading (to_one_bytes ++ 255 ∷ 255 ∷ 0 ∷ 0 ∷ []) ≡ Err (BadVendor 16))
    × (reading (to_one_bytes ++ 0 ∷ 7 ∷ 0 ∷ []) ≡ Err (BadLen 16))

-- two sets of one field between outputs, a flood, and a pass: the second set wins
abbrev pub TwoSets : Type 0
TwoSets =
    effects_of (record { v = 7; outside = 1 ∷ 4 ∷ []; links = [] }) 0
    (SetNwTos 4 ∷ Output 1 0 ∷ SetNwTos 8 ∷ Output 0xfffb 0 ∷ Output 0xfffa 0 ∷ [])
    ≡ record {
      outs = record { rewrite = record no_rewrite { nw_tos = Some 4 }; dest = Port 7 1 }
          ∷ record { rewrite = record no_rewrite { nw_tos = Some 8 }; dest = Flood 7 1 }
          ∷ record { rewrite = record no_rewrite { nw_tos = Some 8 }; dest = Flood 7 4 } ∷ [];
      tail = Pass (record no_rewrite { nw_tos = Some 8 });
    }

-- an address is set in IPv4 and not in ARP, a port in UDP and not in ICMP
abbrev pub SetWhereThere : Type 0
SetWhereThere = (h : HeaderOf) → let r : RewriteOf = record no_rewrite { nw_dst = Some 9; tp_dst = Some 80 } in
    (apply r (record h { dl_type = 0x0800; nw_proto = 17 })
    ≡ record h { dl_type = 0x0800; nw_proto = 17; nw_dst = 9; tp_dst = 80 })
    × (apply r (record h { dl_type = 0x0800; nw_proto = 1 }) ≡ record h { dl_type = 0x0800; nw_proto = 1; nw_dst = 9 })
    × (apply r (record h { dl_type = 0x0806; nw_proto = 1 }) ≡ record h { dl_type = 0x0806; nw_proto = 1 })
