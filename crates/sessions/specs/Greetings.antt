-- The messages of an opening (sections 5.1, 5.3.1 and 5.5.1 to 5.5.3 of the OpenFlow Switch Specification 1.0.0).
use Rattle.std.specs.Prelude.{ℕ, Bool, ◌==◌, ◌&&◌, List, [], ◌∷◌, ◌++◌, Option, Some, None, drop, length, nat_le}
use Rattle.std.specs.Prelude.{nat_lt, slice_index, slice_set, if◌then◌else◌}
use Rattle.std.specs.List.{flat_map, position_or_len}
use Rattle.byteorder.specs.Endian.{big_number}

-- a HELLO of version 1: type 0, 8 bytes, transaction id 0
abbrev pub hello_message : List ℕ
hello_message = 1 ∷ 0 ∷ 0 ∷ 8 ∷ 0 ∷ 0 ∷ 0 ∷ 0 ∷ []

-- a FEATURES_REQUEST: type 5, 8 bytes, transaction id 0
abbrev pub features_request : List ℕ
features_request = 1 ∷ 5 ∷ 0 ∷ 8 ∷ 0 ∷ 0 ∷ 0 ∷ 0 ∷ []

-- the frame is a HELLO, of version 1 or above
abbrev pub is_hello : List ℕ → Bool
is_hello frame = nat_le 1 (slice_index frame 0) && (slice_index frame 1 == 0)

-- the frame is an ECHO_REQUEST, which is type 2
abbrev pub is_echo : List ℕ → Bool
is_echo frame = (slice_index frame 0 == 1) && (slice_index frame 1 == 2)

-- what a frame is answered: an ECHO_REQUEST the ECHO_REPLY, type 3, of its transaction id and body, and others nothing
abbrev pub echo : List ℕ → List ℕ
echo frame = if is_echo frame then slice_set frame 1 3 else []

-- the frame is a FEATURES_REPLY, which is type 6, as long as its fixed part
abbrev pub is_features : List ℕ → Bool
is_features frame = (slice_index frame 0 == 1) && (slice_index frame 1 == 6) && nat_le 32 (length frame)

-- the datapath id stands in its bytes 8 to 15
abbrev pub dpid_of : List ℕ → ℕ
dpid_of reply = big_number 8 (drop 8 reply)

-- the capabilities stand in its bytes 24 to 27, and ARP_MATCH_IP is their bit 7, the highest of the last byte
abbrev pub matches_arp : List ℕ → Bool
matches_arp reply = nat_le 128 (slice_index reply 27)

-- the place of the first datapath id that is this one
abbrev pub place_of : ℕ → List ℕ → Option ℕ
place_of dpid dpids =
    if nat_lt (position_or_len (λ d. d == dpid) dpids) (length dpids) then Some (position_or_len (λ d. d == dpid) dpids)
    else None

-- what a switch is written that sent these frames after its HELLO
abbrev pub to_switch : List (List ℕ) → List ℕ
to_switch passed = (hello_message ++ features_request) ++ flat_map echo passed
