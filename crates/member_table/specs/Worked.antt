-- A small table, and what messages make of it, computed.
use Rattle.std.specs.Prelude.{◌≡◌, ℕ, List, [], ◌∷◌, map, Some, None, option_map}
use Rattle.of10_match.specs.Fields.{HeaderOf, MatchOf}
use Rattle.of10_match.specs.Matching.{everything}
use Rattle.of10_match.specs.Wildcards.{match_bytes}
use Rattle.of10_actions.specs.declared.action.Action.{Action}
use Rattle.of10_actions.specs.declared.action.Action.TheVariants.{Output}
use Rattle.of10_msgs.specs.declared.message.FlowMod.{FlowMod}
use Rattle.member_table.specs.Best.{best_entry}
use Rattle.member_table.specs.Planning.{change_of}
use Rattle.member_table.specs.Refusals.{refusal}
use Rattle.member_table.specs.Tables.{TableOf, after, rank_of}
use Rattle.member_table.specs.Timeouts.{is_hard_due, is_idle_due, serials_of, without_expired}
use Rattle.member_table.specs.declared.fault.TableFault.TheVariants.{Overlap, Entries}

-- IPv4 packets to addresses, and from addresses
abbrev pub going_to : ℕ → ℕ → MatchOf
going_to addr len = record everything { dl_type = Some 0x0800; nw_dst = Some (record { addr = addr; len = len }) }

abbrev pub coming_from : ℕ → ℕ → MatchOf
coming_from addr len = record everything { dl_type = Some 0x0800; nw_src = Some (record { addr = addr; len = len }) }

-- packets to 10.0.0.0/8, and those to 10.0.0.1
abbrev pub to_net : MatchOf
to_net = going_to 0x0a000000 8

abbrev pub to_host : MatchOf
to_host = going_to 0x0a000001 32

-- a message by which packets of a match go to a port, for 30 seconds, and 10 without a packet
abbrev pub message : ℕ → ℕ → MatchOf → ℕ → FlowMod
message command priority m port = record {
  m = match_bytes m;
  cookie = 0;
  command = command;
  idle_timeout = 10;
  hard_timeout = 30;
  priority = priority;
  buffer_id = 0xffffffff;
  out_port = 65535;
  flags = 0;
  actions = Output port 0 ∷ [];
}

-- two entries are added at 100 to a table that may have two
abbrev pub two : TableOf
two = after (after (record { entries = []; next = 1; limit = 2 }) (message 0 100 to_net 1) 100)
    (message 0 200 to_host 2) 100

-- the numbers of entries, and their actions
abbrev pub shown : TableOf → List (ℕ × List Action)
shown t = map (λ e. (e.serial, e.actions)) t.entries

abbrev pub to : ℕ → List Action
to port = Output port 0 ∷ []

-- entries are numbered as they come, and an identical one is replaced in its place
abbrev pub EntriesCome : Type 0
EntriesCome = (shown two ≡ (1, to 1) ∷ (2, to 2) ∷ [])
    × (shown (after two (message 0 100 to_net 3) 105) ≡ (3, to 3) ∷ (2, to 2) ∷ [])

-- MODIFY changes what its match covers, and the identical entry where it is strict
abbrev pub ActionsChange : Type 0
ActionsChange = (shown (after two (message 1 0 to_net 4) 105) ≡ (1, to 4) ∷ (2, to 4) ∷ [])
    × (shown (after two (message 2 200 to_host 4) 105) ≡ (1, to 1) ∷ (2, to 4) ∷ [])

-- DELETE takes out what its match covers and what sends to its port, and the identical entry where it is strict
abbrev pub EntriesGo : Type 0
EntriesGo = (shown (after two (message 3 0 to_host 0) 105) ≡ (1, to 1) ∷ [])
    × (shown (after two (record (message 3 0 to_net 0) { out_port = 1 }) 105) ≡ (2, to 2) ∷ [])
    × (shown (after two (message 4 100 to_host 0) 105) ≡ shown two)

-- the change that DELETE asks for names the entries that go, and that of an ADD the one that is replaced
abbrev pub ChangesAreNamed : Type 0
ChangesAreNamed =
    (change_of two (message 3 0 to_net 0) 105 ≡ record { added = None; removed = 1 ∷ 2 ∷ []; modified = [] })
    × ((change_of two (message 0 200 to_host 9) 105).removed ≡ 2 ∷ [])

-- at one rank another match may not overlap; a full table takes an identical entry alone
abbrev pub EntriesAreRefused : Type 0
EntriesAreRefused = (refusal two (message 0 100 (coming_from 0x0a000000 8) 1) ≡ Some (Overlap 1))
    × (refusal two (message 0 300 to_net 1) ≡ Some (Entries 2)) × (refusal two (message 0 100 to_net 1) ≡ None)

-- an entry that names all twelve fields is above every priority, also where it is written with priority 5
abbrev pub ExactIsAbove : Type 0
ExactIsAbove =
    rank_of
    (record (message 0 5 everything 1) {
      m = 0 ∷ 0 ∷ 0 ∷ 0 ∷ 0 ∷ 1 ∷ 0 ∷ 0 ∷ 0 ∷ 0 ∷ 0 ∷ 1 ∷ 0 ∷ 0 ∷ 0 ∷ 0 ∷ 0 ∷ 2 ∷ 255 ∷ 255 ∷ 0 ∷ 0 ∷ 8 ∷ 0 ∷ 0 ∷ 6 ∷ 0
          ∷ 0 ∷ 10 ∷ 0 ∷ 0 ∷ 1 ∷ 10 ∷ 0 ∷ 0 ∷ 2 ∷ 0 ∷ 5 ∷ 0 ∷ 80 ∷ [];
    }) ≡ 65536

-- time is up at its second and not before, and a hard timeout comes before an idle one
abbrev pub TimesAreUp : Type 0
TimesAreUp = (serials_of (is_idle_due 109) two.entries ≡ []) × (serials_of (is_idle_due 110) two.entries ≡ 1 ∷ 2 ∷ [])
    × (serials_of (is_hard_due 129) two.entries ≡ []) × (serials_of (is_hard_due 130) two.entries ≡ 1 ∷ 2 ∷ [])
    × (serials_of (is_idle_due 130) two.entries ≡ [])

-- what has stood for its hard timeout goes, and what came later stays
abbrev pub ExpiredGo : Type 0
ExpiredGo = (shown (without_expired 129 two) ≡ shown two) × (shown (without_expired 130 two) ≡ [])
    × (shown (without_expired 130 (after two (message 0 200 to_host 9) 105)) ≡ (3, to 9) ∷ [])

-- an IPv4 packet to an address
abbrev pub packet : ℕ → HeaderOf
packet addr = record {
  in_port = 1;
  dl_src = 1;
  dl_dst = 2;
  dl_vlan = 65535;
  dl_vlan_pcp = 0;
  dl_type = 0x0800;
  nw_tos = 0;
  nw_proto = 6;
  nw_src = 5;
  nw_dst = addr;
  tp_src = 1;
  tp_dst = 80;
}

-- the entry of the higher rank acts where both hold a packet, though it came later
abbrev pub HighestIsBest : Type 0
HighestIsBest = (option_map (λ e. e.serial) (best_entry two.entries (packet 0x0a000001)) ≡ Some 2)
    × (option_map (λ e. e.serial) (best_entry two.entries (packet 0x0a000002)) ≡ Some 1)
    × (option_map (λ e. e.serial) (best_entry two.entries (packet 0x0b000001)) ≡ None)
