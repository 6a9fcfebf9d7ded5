-- An entry for one packet beside others, computed.
use Rattle.std.specs.Prelude.{◌≡◌, ℕ, Some, [], ◌∷◌}
use Rattle.of10_match.specs.Fields.{MatchOf}
use Rattle.of10_match.specs.Matching.{at_port}
use Rattle.switch_meaning.specs.Keys.{passing}
use Rattle.switch_meaning.specs.WorkedKeys.{one_packet, placed}
use Rattle.switch_meaning.specs.declared.entry.PhysEntry.{PhysEntry}
use Rattle.exact_gate.specs.Standing.{without}

-- the entry for one packet, at this priority
abbrev pub one : ℕ → PhysEntry
one priority = placed one_packet priority [] []

-- IPv4 packets by the port 1 to one address
abbrev pub host : MatchOf
host = record (at_port 1) { dl_type = Some 0x0800; nw_dst = Some (record { addr = 0x0a000002; len = 32 }) }

-- the entry at 5 passes; beside one at 13 that holds its packet it gives way, and without that one it passes again
abbrev pub ExactGivesWay : Type 0
ExactGivesWay =
    (passing (one 5 ∷ []) ≡ one 5 ∷ []) × (passing (one 5 ∷ placed host 13 [] [] ∷ []) ≡ placed host 13 [] [] ∷ [])
    × (passing (without (one 5 ∷ placed host 13 [] [] ∷ []) (placed host 13 [] [] ∷ [])) ≡ one 5 ∷ [])

-- beside one of its own priority, and beside a greater one that does not hold its packet, it passes; and what is not
-- for
-- one packet alone passes beside anything
abbrev pub OthersPass : Type 0
OthersPass =
    (passing (one 5 ∷ placed host 5 [] [] ∷ []) ≡ one 5 ∷ placed host 5 [] [] ∷ [])
    × (passing (one 5 ∷ placed (at_port 2) 9 [] [] ∷ []) ≡ one 5 ∷ placed (at_port 2) 9 [] [] ∷ [])
    × (passing (placed host 5 [] [] ∷ placed (at_port 1) 9 [] [] ∷ [])
    ≡ placed host 5 [] [] ∷ placed (at_port 1) 9 [] [] ∷ [])
