-- A member of three bits, its ranks and its denials, computed.
use Rattle.std.specs.Prelude.{◌≡◌, ℕ, true, false, Option, Some, None, List, [], ◌∷◌, map}
use Rattle.of10_match.specs.Fields.{MatchOf}
use Rattle.of10_match.specs.Matching.{everything}
use Rattle.of10_match.specs.Wildcards.{match_bytes}
use Rattle.of10_actions.specs.declared.action.Action.TheVariants.{Output}
use Rattle.of10_actions.specs.declared.effects.PortView.{PortView}
use Rattle.of10_msgs.specs.declared.message.FlowMod.{FlowMod}
use Rattle.grants.specs.Denials.{denial_of}
use Rattle.grants.specs.declared.denial.Detail.TheVariants.{Overlap, Budget}
use Rattle.grants.specs.declared.grant.Grant.{Grant}
use Rattle.level_map.specs.declared.ranked.Ranked.{Ranked}
use Rattle.member_state.specs.Changes.{accepted, expired, without}
use Rattle.member_state.specs.Denials.{denial}
use Rattle.member_state.specs.States.{MemberStateOf, opening}

-- four ports, and a member that sees them and may name each field and take each action
abbrev pub ports : PortView
ports = record { v = 0; outside = 1 ∷ 2 ∷ 3 ∷ 4 ∷ []; links = [] }

abbrev pub grant : Grant
grant = record {
  fields = 0xfff;
  src_max = 32;
  dst_max = 32;
  actions = 0x7ff;
  ports = ports;
  regions = everything ∷ [];
  misses = true;
  packet_out = false;
}

-- IPv4 packets to an address, and from one
abbrev pub going_to : ℕ → ℕ → MatchOf
going_to addr len = record everything { dl_type = Some 0x0800; nw_dst = Some (record { addr = addr; len = len }) }

abbrev pub coming_from : ℕ → ℕ → MatchOf
coming_from addr len = record everything { dl_type = Some 0x0800; nw_src = Some (record { addr = addr; len = len }) }

-- a message by which packets of a match go to port 2
abbrev pub message : ℕ → ℕ → MatchOf → FlowMod
message command priority m = record {
  m = match_bytes m;
  cookie = 0;
  command = command;
  idle_timeout = 0;
  hard_timeout = 30;
  priority = priority;
  buffer_id = 0xffffffff;
  out_port = 65535;
  flags = 0;
  actions = Output 2 0 ∷ [];
}

-- packets from port 1, at a priority
abbrev pub at : ℕ → FlowMod
at priority = message 0 priority (record everything { in_port = Some 1 })

-- the state after these messages, each at second 100
abbrev pub after_all : List FlowMod → MemberStateOf → MemberStateOf
after_all [] x = x
after_all (m ∷ ms) x = after_all ms (accepted m 100 x)

-- a member of three bits, and what each of its ranks has
abbrev pub opened : MemberStateOf
opened = opening 3 8

abbrev pub shown : MemberStateOf → List (ℕ × ℕ)
shown x = map (λ (r : Ranked). (r.rank, r.level)) x.levels.ranked

-- three ranks have levels with gaps, and a fourth finds none between them
abbrev pub RanksAreSpread : Type 0
RanksAreSpread =
    (shown (after_all (at 10 ∷ at 20 ∷ at 30 ∷ []) opened) ≡ (10, 4) ∷ (20, 6) ∷ (30, 7) ∷ [])
    × (shown (after_all (at 10 ∷ at 20 ∷ at 30 ∷ at 40 ∷ []) opened) ≡ (10, 2) ∷ (20, 3) ∷ (30, 5) ∷ (40, 6) ∷ [])

-- six ranks fit, and a seventh is refused by budget; a rank that is there is not
abbrev pub six : MemberStateOf
six = after_all (at 10 ∷ at 20 ∷ at 30 ∷ at 40 ∷ at 50 ∷ at 60 ∷ []) opened

abbrev pub SixRanksFit : Type 0
SixRanksFit =
    (denial grant ports six (at 70) ≡ Some (denial_of (Budget 6 6)))
    × (denial grant ports six (at 60) ≡ None)

-- after the deletion of one, the seventh fits
abbrev pub five : MemberStateOf
five = accepted (message 4 30 (record everything { in_port = Some 1 })) 100 six

abbrev pub OneGoesOneFits : Type 0
OneGoesOneFits =
    (denial grant ports five (at 70) ≡ None)
    × (shown (accepted (at 70) 100 five) ≡ (10, 2) ∷ (20, 3) ∷ (40, 4) ∷ (50, 5) ∷ (60, 6) ∷ (70, 7) ∷ [])

-- overlap comes before entries and budget
abbrev pub full : MemberStateOf
full = accepted (message 0 100 (going_to 0x0a000000 8)) 100 (opening 2 1)

abbrev pub OverlapComesFirst : Type 0
OverlapComesFirst =
    denial grant ports full (message 0 100 (coming_from 0x0a000000 8)) ≡ Some (denial_of (Overlap 1))

-- a rank of which the last entry goes loses its level, by its time or alone; one of which an entry stays keeps it
abbrev pub both : MemberStateOf
both = after_all (message 0 10 (going_to 0x0a000000 8) ∷ message 0 10 (going_to 0x0b000000 8) ∷ at 20 ∷ []) opened

abbrev pub RanksGo : Type 0
RanksGo =
    (shown (without 1 both) ≡ (10, 4) ∷ (20, 6) ∷ []) × (shown (without 2 (without 1 both)) ≡ (20, 6) ∷ [])
    × (shown (expired 129 both) ≡ shown both) × (shown (expired 130 both) ≡ [])
