-- What is waited for, by its parts and its purpose.
use Rattle.std.specs.Prelude.{ℕ, Bool, true, false, ◌==◌, ◌&&◌, not, List, [], Option, Some, None, filter}
use Rattle.std.specs.Prelude.{if◌then◌else◌, length, map}
use Rattle.std.specs.List.{list_any}
use Rattle.std.specs.Option.{option_map_or}
use Rattle.waitings.specs.declared.state.Asker.{Asker}
use Rattle.waitings.specs.declared.state.Doubt.{Doubt}
use Rattle.waitings.specs.declared.state.Part.{Part}
use Rattle.waitings.specs.declared.state.Purpose.{Purpose}
use Rattle.waitings.specs.declared.state.Purpose.TheVariants.{Flow, Aggregate, Port, Idle, Barrier}
use Rattle.waitings.specs.declared.state.Waiting.{Waiting}

-- purposes ----------------------------------------------------------------------------------------------------------

-- who is to be answered
abbrev pub asker_of : Purpose → Option Asker
asker_of (Flow asker f) = Some asker
asker_of (Aggregate asker f) = Some asker
asker_of (Port asker port_no told) = Some asker
asker_of (Idle doubts) = None
asker_of (Barrier asker) = Some asker

-- this member is to be answered
abbrev pub is_asked_by : ℕ → Waiting → Bool
is_asked_by n w = option_map_or (λ (a : Asker). a.member == n) (asker_of w.purpose) false

-- numbers of entries are waited for
abbrev pub is_of_flows : Purpose → Bool
is_of_flows (Flow asker f) = true
is_of_flows (Aggregate asker f) = true
is_of_flows (Idle doubts) = true
is_of_flows _ = false

-- numbers of ports are waited for
abbrev pub is_of_ports : Purpose → Bool
is_of_ports (Port asker port_no told) = true
is_of_ports _ = false

-- barriers are waited for
abbrev pub is_of_barriers : Purpose → Bool
is_of_barriers (Barrier asker) = true
is_of_barriers _ = false

-- doubts ------------------------------------------------------------------------------------------------------------

-- the doubts that a poll decides
abbrev pub doubts_of : Purpose → List Doubt
doubts_of (Idle doubts) = doubts
doubts_of _ = []

-- the doubt is on this entry of this member
abbrev pub is_on : ℕ → ℕ → Doubt → Bool
is_on n serial doubt = (doubt.member == n) && (doubt.serial == serial)

-- the poll decides on the entry
abbrev pub decides_on : ℕ → ℕ → Waiting → Bool
decides_on n serial w = list_any (is_on n serial) (doubts_of w.purpose)

-- a poll decides on the entry
abbrev pub is_in_doubt : List Waiting → ℕ → ℕ → Bool
is_in_doubt waiting n serial = list_any (decides_on n serial) waiting

-- parts -------------------------------------------------------------------------------------------------------------

-- the answer of a switch to a request that has no xid yet
abbrev pub unwritten : ℕ → Part
unwritten n = record { switch = n; number = 0 }

-- the part is this switch's, of this number
abbrev pub is_part : ℕ → ℕ → Part → Bool
is_part n number part = (part.switch == n) && (part.number == number)

-- this part is waited for
abbrev pub waits_for : ℕ → ℕ → Waiting → Bool
waits_for n number w = list_any (is_part n number) w.parts

-- this part isn't waited for any more
abbrev pub without_part : ℕ → ℕ → Waiting → Waiting
without_part n number w = record w { parts = filter (λ (part : Part). not (is_part n number part)) w.parts }

-- a part of this switch is waited for
abbrev pub has_part_of : ℕ → Waiting → Bool
has_part_of n w = list_any (λ (part : Part). part.switch == n) w.parts

-- no part of this switch is waited for any more
abbrev pub without_parts_of : ℕ → Waiting → Waiting
without_parts_of n w = record w { parts = filter (λ (part : Part). not (part.switch == n)) w.parts }

-- nothing is waited for any more
abbrev pub is_done : Waiting → Bool
is_done w = length w.parts == 0

-- barriers ----------------------------------------------------------------------------------------------------------

-- a member's barrier waits for this one
abbrev pub waits_for_barrier : ℕ → ℕ → Waiting → Bool
waits_for_barrier n number w = is_of_barriers w.purpose && waits_for n number w

-- a member's barrier that doesn't wait for this one any more
abbrev pub without_barrier : ℕ → ℕ → Waiting → Waiting
without_barrier n number w = if is_of_barriers w.purpose then without_part n number w else w

-- polls -------------------------------------------------------------------------------------------------------------

-- the answer that has no xid yet is that to the request of this xid
abbrev pub part_with_xid : ℕ → ℕ → Part → Part
part_with_xid n xid part = if is_part n 0 part then record part { number = xid } else part

-- a poll of this virtual switch is asked of a switch
abbrev pub with_xid : ℕ → ℕ → ℕ → Waiting → Waiting
with_xid v n xid w = if w.v == v then record w { parts = map (part_with_xid n xid) w.parts } else w

-- a poll of entries waits for this switch and xid, and a poll of ports
abbrev pub waits_for_flows : ℕ → ℕ → Waiting → Bool
waits_for_flows n xid w = is_of_flows w.purpose && waits_for n xid w

abbrev pub waits_for_ports : ℕ → ℕ → Waiting → Bool
waits_for_ports n xid w = is_of_ports w.purpose && waits_for n xid w

-- after the last part of a switch its answer isn't waited for any more
abbrev pub unless_more : Bool → ℕ → ℕ → Waiting → Waiting
unless_more true n xid w = w
unless_more false n xid w = without_part n xid w
