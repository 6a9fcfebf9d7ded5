-- The event that bytes spell, if they spell one.
use Rattle.std.specs.Prelude.{ℕ, Bool, true, false, ◌==◌, ◌&&◌, nat_lt, nat_le, List, [], ◌∷◌, drop, length, Option}
use Rattle.std.specs.Prelude.{Some, None, if◌then◌else◌, option_map, option_and_then}
use Rattle.std.specs.List.{list_all, slice_index}
use Rattle.of10_actions.specs.Reading.{u32_at, u64_at}
use Rattle.cv_io.specs.declared.leaf.Session.{Session}
use Rattle.cv_io.specs.declared.leaf.Who.{Who}
use Rattle.cv_io.specs.declared.leaf.Who.TheVariants.{Member, Switch, Audit}
use Rattle.events.specs.declared.event.Event.{Event}
use Rattle.events.specs.declared.event.Event.TheVariants.{Up, Msg, Gone, Tick, Take, Policy}

-- the value, where the test holds
abbrev pub when : {A : Type 0} → Bool → Option A → Option A
when holds value = if holds then value else None

-- there are at most 32 members and 16 switches, and the audit has the number 0
abbrev pub who_of : ℕ → ℕ → Option Who
who_of kind n =
    if kind == 0 then when (nat_lt n 32) (Some (Member n))
    else (if kind == 1 then when (nat_lt n 16) (Some (Switch n))
    else (if kind == 2 then when (n == 0) (Some Audit) else None))

-- who is named at the front of five bytes or more
abbrev pub who_at : List ℕ → Option Who
who_at rest = who_of (slice_index rest 0) (u32_at 1 rest)

-- a session, at the front of 13 bytes or more
abbrev pub in_round : ℕ → Who → Session
in_round round who = record { who = who; round = round }

abbrev pub session_at : List ℕ → Option Session
session_at rest = option_map (in_round (u64_at 5 rest)) (who_at rest)

abbrev pub flag_of : ℕ → Option Bool
flag_of byte = if byte == 0 then Some false else (if byte == 1 then Some true else None)

abbrev pub up : Option Bool → Who → Option Event
up arp who = option_map (Up who) arp

abbrev pub with_frame : List ℕ → Session → Event
with_frame frame session = Msg session frame

abbrev pub is_ascii : ℕ → Bool
is_ascii byte = nat_lt byte 128

-- the fields of each kind; a frame has at most 65,535 bytes, and a text at most 1,024, all of ASCII
abbrev pub up_at : List ℕ → Option Event
up_at rest = when (length rest == 6) (option_and_then (up (flag_of (slice_index rest 5))) (who_at rest))

abbrev pub frame_at : List ℕ → Option Event
frame_at rest =
    when (nat_le 13 (length rest) && nat_le (length rest) 65548)
    (option_map (with_frame (drop 13 rest)) (session_at rest))

abbrev pub lone_session_at : List ℕ → Option Session
lone_session_at rest = when (length rest == 13) (session_at rest)

abbrev pub tick_at : List ℕ → Option Event
tick_at rest = when (length rest == 8) (Some (Tick (u64_at 0 rest)))

abbrev pub policy_at : List ℕ → Option Event
policy_at rest =
    when (nat_le 4 (length rest) && (nat_le (length rest) 1028 && list_all is_ascii (drop 4 rest)))
    (Some (Policy (u32_at 0 rest) (drop 4 rest)))

abbrev pub fields_of : ℕ → List ℕ → Option Event
fields_of kind rest =
    if kind == 1 then up_at rest
    else (if kind == 2 then frame_at rest
    else (if kind == 3 then option_map Gone (lone_session_at rest)
    else (if kind == 4 then tick_at rest
    else (if kind == 5 then option_map Take (lone_session_at rest)
    else (if kind == 6 then policy_at rest else None)))))

-- the kind, and then the fields
abbrev pub reading : List ℕ → Option Event
reading [] = None
reading (kind ∷ rest) = fields_of kind rest
