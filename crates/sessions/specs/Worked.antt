-- The definitions, computed on examples.
use Rattle.std.specs.Prelude.{◌≡◌, true, false, List, ℕ, [], ◌∷◌, ◌++◌, Some, None}
use Rattle.cv_io.specs.declared.leaf.Session.{Session}
use Rattle.cv_io.specs.declared.leaf.Who.TheVariants.{Member}
use Rattle.sessions.specs.Greetings.{dpid_of, hello_message, is_features, is_hello, matches_arp, place_of, to_switch}
use Rattle.sessions.specs.Posts.{second_told, taking}
use Rattle.sessions.specs.Writing.{taken_in}

-- an ECHO_REQUEST of transaction id 9 and two bytes
abbrev pub echo_request : List ℕ
echo_request = 1 ∷ 2 ∷ 0 ∷ 10 ∷ 0 ∷ 0 ∷ 0 ∷ 9 ∷ 0xaa ∷ 0xbb ∷ []

-- a HELLO, a FEATURES_REQUEST and an ECHO_REPLY; a HELLO that comes late is not answered
abbrev pub AGreetingIsWritten : Type 0
AGreetingIsWritten =
    to_switch (hello_message ∷ echo_request ∷ [])
    ≡ (1 ∷ 0 ∷ 0 ∷ 8 ∷ 0 ∷ 0 ∷ 0 ∷ 0 ∷ 1 ∷ 5 ∷ 0 ∷ 8 ∷ 0 ∷ 0 ∷ 0 ∷ 0 ∷ [])
    ++ 1 ∷ 3 ∷ 0 ∷ 10 ∷ 0 ∷ 0 ∷ 0 ∷ 9 ∷ 0xaa ∷ 0xbb ∷ []

-- the FEATURES_REPLY of datapath id 0x0102, with capabilities 0x87, of no ports
abbrev pub features_reply : List ℕ
features_reply =
    (1 ∷ 6 ∷ 0 ∷ 32 ∷ 0 ∷ 0 ∷ 0 ∷ 0 ∷ []) ++ (0 ∷ 0 ∷ 0 ∷ 0 ∷ 0 ∷ 0 ∷ 1 ∷ 2 ∷ [])
    ++ (0 ∷ 0 ∷ 1 ∷ 0 ∷ 0xfe ∷ 0 ∷ 0 ∷ 0 ∷ []) ++ 0 ∷ 0 ∷ 0 ∷ 0x87 ∷ 0 ∷ 0 ∷ 0x0f ∷ 0xff ∷ []

-- it is the third of these switches, and matches ARP addresses; a HELLO of version 4 is one, of version 0 none
abbrev pub FramesAreKnown : Type 0
FramesAreKnown =
    (is_features features_reply ≡ true) × (dpid_of features_reply ≡ 258) × (matches_arp features_reply ≡ true)
    × (place_of 258 (5 ∷ 7 ∷ 258 ∷ []) ≡ Some 2) × (place_of 258 (5 ∷ 7 ∷ []) ≡ None)
    × (is_hello (4 ∷ 0 ∷ 0 ∷ 8 ∷ 0 ∷ 0 ∷ 0 ∷ 7 ∷ []) ≡ true) × (is_hello (0 ∷ 0 ∷ 0 ∷ 8 ∷ 0 ∷ 0 ∷ 0 ∷ 7 ∷ []) ≡ false)

abbrev pub first_round : Session
first_round = record { who = Member 0; round = 1 }

-- of two takings with a second between them, both messages were taken
abbrev pub AnswersAreCounted : Type 0
AnswersAreCounted =
    taken_in (taking first_round (7 ∷ []) ∷ second_told 5 ∷ taking first_round (8 ∷ 9 ∷ []) ∷ [])
    ≡ (7 ∷ []) ∷ (8 ∷ 9 ∷ []) ∷ []
