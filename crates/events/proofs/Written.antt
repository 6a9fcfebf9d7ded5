-- What was written of an event is read as it.
use Rattle.std.proofs.Common.{◌≡◌, ℕ, ◌≤◌, ◌<◌, ◌^◌, Bool, true, false, leb, ltb, List, [], ◌∷◌, ◌++◌, length, drop}
use Rattle.std.proofs.Common.{Option, Some, refl, ap, ◌∙◌, arith}
use Rattle.std.specs.Prelude.{option_and_then, option_map, ◌&&◌}
use Rattle.std.specs.List.{list_all}
use Rattle.std.proofs.lemmas.Bool.{le-leb, lt-ltb}
use Rattle.byteorder.specs.Endian.{big_bytes}
use Rattle.of10_actions.specs.Reading.{u32_at, u64_at}
use Rattle.of10_msgs.proofs.Fields.{again}
use Rattle.cv_io.specs.declared.leaf.Session.{Session}
use Rattle.cv_io.specs.declared.leaf.Who.{Who}
use Rattle.cv_io.specs.declared.leaf.Who.TheVariants.{Member, Switch, Audit}
use Rattle.events.specs.Kept.{IsKept, IsKnown}
use Rattle.events.specs.Reading.{frame_at, in_round, is_ascii, lone_session_at, policy_at, reading, session_at, up}
use Rattle.events.specs.Reading.{up_at, when, who_at, who_of, with_frame}
use Rattle.events.specs.Spelling.{flag, spelling, who_bytes}
use Rattle.events.specs.declared.event.Event.{Event}
use Rattle.events.specs.declared.event.Event.TheVariants.{Up, Msg, Gone, Tick, Take, Policy}

-- a value whose test holds
pub kept : {A : Type 0} (b : Bool) (x : Option A) → b ≡ true → when b x ≡ x
kept b x h = ap (λ t. when t x) h

-- who was written is read
pub who_again : (w : Who) (rest : List ℕ) → IsKnown w → who_at (who_bytes w ++ rest) ≡ Some w
who_again (Member n) rest known =
    ap (who_of 0) (again 4 n rest (omega (arith, known))) ∙ kept (ltb n 32) (Some (Member n)) (lt-ltb n 32 known)
who_again (Switch n) rest known =
    ap (who_of 1) (again 4 n rest (omega (arith, known))) ∙ kept (ltb n 16) (Some (Switch n)) (lt-ltb n 16 known)
who_again Audit rest known = refl

-- and so is its round
round_again : (w : Who) (round : ℕ) (rest : List ℕ) → round < 2 ^ 64
    → u64_at 5 (who_bytes w ++ (big_bytes 8 round ++ rest)) ≡ round
round_again (Member n) round rest fits = again 8 round rest fits
round_again (Switch n) round rest fits = again 8 round rest fits
round_again Audit round rest fits = again 8 round rest fits

pub session_again : (w : Who) (round : ℕ) (rest : List ℕ) → IsKnown w → round < 2 ^ 64
    → session_at (who_bytes w ++ (big_bytes 8 round ++ rest)) ≡ Some (record { who = w; round = round })
session_again w round rest known fits =
    ap (λ (o : Option Who). option_map (in_round (u64_at 5 (who_bytes w ++ (big_bytes 8 round ++ rest)))) o)
    (who_again w (big_bytes 8 round ++ rest) known)
    ∙ ap (λ (r : ℕ). Some (in_round r w)) (round_again w round rest fits)

-- a session comes up
up_again : (w : Who) (arp : Bool) → IsKnown w → up_at (who_bytes w ++ flag arp ∷ []) ≡ Some (Up w arp)
up_again (Member n) false known = ap (option_and_then (up (Some false))) (who_again (Member n) (0 ∷ []) known)
up_again (Member n) true known = ap (option_and_then (up (Some true))) (who_again (Member n) (1 ∷ []) known)
up_again (Switch n) false known = ap (option_and_then (up (Some false))) (who_again (Switch n) (0 ∷ []) known)
up_again (Switch n) true known = ap (option_and_then (up (Some true))) (who_again (Switch n) (1 ∷ []) known)
up_again Audit false known = refl
up_again Audit true known = refl

-- a session alone
lone_again : (w : Who) (round : ℕ) → IsKnown w → round < 2 ^ 64
    → lone_session_at (who_bytes w ++ big_bytes 8 round) ≡ Some (record { who = w; round = round })
lone_again (Member n) round known fits = session_again (Member n) round [] known fits
lone_again (Switch n) round known fits = session_again (Switch n) round [] known fits
lone_again Audit round known fits = session_again Audit round [] known fits

-- a length between two bounds
between : (a n b : ℕ) → a ≤ n → n ≤ b → (leb a n && leb n b) ≡ true
between a n b low high = ap (λ (t : Bool). t && leb n b) (le-leb a n low) ∙ le-leb n b high

-- a frame
framed : (x frame : List ℕ) (s : Session) → 13 ≤ length x → length x ≤ 65548 → drop 13 x ≡ frame
    → session_at x ≡ Some s → frame_at x ≡ Some (Msg s frame)
framed x frame s low high behind is =
    kept (leb 13 (length x) && leb (length x) 65548) (option_map (with_frame (drop 13 x)) (session_at x))
    (between 13 (length x) 65548 low high)
    ∙ (ap (λ (f : List ℕ). option_map (with_frame f) (session_at x)) behind ∙ ap (option_map (with_frame frame)) is)

frame_again : (w : Who) (round : ℕ) (frame : List ℕ) → IsKnown w → round < 2 ^ 64 → length frame ≤ 65535
    → frame_at (who_bytes w ++ (big_bytes 8 round ++ frame)) ≡ Some (Msg (record { who = w; round = round }) frame)
frame_again (Member n) round frame known fits short =
    framed (who_bytes (Member n) ++ (big_bytes 8 round ++ frame)) frame (record { who = Member n; round = round })
    (omega arith) (omega (arith, short)) refl (session_again (Member n) round frame known fits)
frame_again (Switch n) round frame known fits short =
    framed (who_bytes (Switch n) ++ (big_bytes 8 round ++ frame)) frame (record { who = Switch n; round = round })
    (omega arith) (omega (arith, short)) refl (session_again (Switch n) round frame known fits)
frame_again Audit round frame known fits short =
    framed (who_bytes Audit ++ (big_bytes 8 round ++ frame)) frame (record { who = Audit; round = round })
    (omega arith) (omega (arith, short)) refl (session_again Audit round frame known fits)

-- an expression
expressed : (x text : List ℕ) (v : ℕ) → 4 ≤ length x → length x ≤ 1028 → drop 4 x ≡ text → list_all is_ascii text ≡ true
    → u32_at 0 x ≡ v → policy_at x ≡ Some (Policy v text)
expressed x text v low high behind ascii number =
    let short : leb 4 (length x) ≡ true = le-leb 4 (length x) low in
    let long : leb (length x) 1028 ≡ true = le-leb (length x) 1028 high in
    let letters : list_all is_ascii (drop 4 x) ≡ true = ap (list_all is_ascii) behind ∙ ascii in
    kept (leb 4 (length x) && (leb (length x) 1028 && list_all is_ascii (drop 4 x)))
    (Some (Policy (u32_at 0 x) (drop 4 x)))
    (ap (λ (t : Bool). t && (leb (length x) 1028 && list_all is_ascii (drop 4 x))) short
    ∙ (ap (λ (t : Bool). t && list_all is_ascii (drop 4 x)) long ∙ letters))
    ∙ (ap (λ (n : ℕ). Some (Policy n (drop 4 x))) number ∙ ap (λ (t : List ℕ). Some (Policy v t)) behind)

policy_again : (v : ℕ) (text : List ℕ) → v < 2 ^ 32 → length text ≤ 1024 → list_all is_ascii text ≡ true
    → policy_at (big_bytes 4 v ++ text) ≡ Some (Policy v text)
policy_again v text fits short ascii =
    expressed (big_bytes 4 v ++ text) text v (omega arith) (omega (arith, short)) refl ascii (again 4 v text fits)

-- each event
pub written_again : (e : Event) → IsKept e → reading (spelling e) ≡ Some e
written_again (Up w arp) k = up_again w arp k
written_again (Msg s frame) k = frame_whole s.who s.round frame k.0.who k.0.round k.1 where
  frame_whole : (w : Who) (round : ℕ) (f : List ℕ) → IsKnown w → round < 2 ^ 64 → length f ≤ 65535
      → frame_at ((who_bytes w ++ big_bytes 8 round) ++ f) ≡ Some (Msg (record { who = w; round = round }) f)
  frame_whole (Member n) round f known fits short = frame_again (Member n) round f known fits short
  frame_whole (Switch n) round f known fits short = frame_again (Switch n) round f known fits short
  frame_whole Audit round f known fits short = frame_again Audit round f known fits short
written_again (Gone s) k = ap (option_map Gone) (lone_again s.who s.round k.who k.round)
written_again (Tick second) k = ap (λ (n : ℕ). Some (Tick n)) (again 8 second [] k)
written_again (Take s) k = ap (option_map Take) (lone_again s.who s.round k.who k.round)
written_again (Policy v text) k = policy_again v text k.0 k.1.0 k.1.1
