-- Polls, packets and answers to echoes change no table of a switch, however they are read.
use Rattle.std.proofs.Common.{◌≡◌, ℕ, ◌+◌, Bool, true, false, List, [], ◌∷◌, ◌++◌, map, filter, Some, Result, Ok, Err}
use Rattle.std.proofs.Common.{refl}
use Rattle.std.specs.Prelude.{if◌then◌else◌, length, nat_lt, slice_index}
use Rattle.std.specs.List.{AllByRecursion}
use Rattle.std.proofs.lemmas.List.Concat.{flat_map-append}
use Rattle.of10_actions.specs.Reading.{reading as actions_in, u16_at, u32_at}
use Rattle.of10_actions.specs.declared.action.Action.{Action as ActionOf}
use Rattle.of10_msgs.specs.Kinds.{is_among, lengths_of}
use Rattle.of10_msgs.specs.Reading.{body_at, listed, message_of, packet_out_at, packet_out_of, reading, span, typed}
use Rattle.of10_msgs.specs.Reading.{with_actions}
use Rattle.of10_msgs.specs.declared.fault.FormFault.{FormFault}
use Rattle.of10_msgs.specs.declared.fault.FormFault.TheVariants.{BadLen}
use Rattle.of10_msgs.specs.declared.kind.Kind.{Kind}
use Rattle.of10_msgs.specs.declared.kind.Kind.TheVariants as kinds
use Rattle.of10_msgs.specs.declared.message.Body.{Body}
use Rattle.of10_msgs.specs.declared.message.Body.TheVariants as bodies
use Rattle.of10_msgs.specs.declared.message.PacketOut.{PacketOut as PacketOutOf}
use Rattle.switch_state.specs.Frames.{IsQuiet, bodies_in, said_by}
use Rattle.switch_state.proofs.Fitting.{all_joined}
use Rattle.machine_meaning.specs.Drafts.{is_to, message, said_to}
use Rattle.machine_meaning.specs.declared.said.Letter.{Letter}

-- what is read of a message changes nothing
abbrev pub AreQuiet : List Body → Type 0
AreQuiet bodies = AllByRecursion IsQuiet bodies

abbrev pub IsQuietMessage : List ℕ → Type 0
IsQuietMessage bytes = AreQuiet (said_by (reading bytes))

abbrev pub IsQuietLetter : Letter → Type 0
IsQuietLetter l = IsQuietMessage l.bytes

-- of one type ---------------------------------------------------------------------------------------------------------

-- a message of a type is quiet if its body is
typed_quiet : (kind : Kind) (frame : List ℕ)
    → AreQuiet (said_by (message_of (u32_at 4 frame) (body_at kind frame)))
    → AreQuiet (said_by (typed (Some kind) frame))
typed_quiet kind frame h = by (is_among (lengths_of kind) (length frame))
  where
    by : (b : Bool) → AreQuiet (said_by (if b then message_of (u32_at 4 frame) (body_at kind frame)
        else Err (BadLen (slice_index frame 1) (length frame))))
    by true = h
    by false = tt

with_actions_quiet : (xid : ℕ) (r : Result (List ActionOf) FormFault) (sent : List ActionOf → PacketOutOf)
    → AreQuiet (said_by (message_of xid (with_actions r (λ actions. bodies.PacketOut (sent actions)))))
with_actions_quiet xid (Ok actions) sent = (refl, tt)
with_actions_quiet xid (Err fault) sent = tt

packet_quiet : (xid len : ℕ) (frame : List ℕ) → AreQuiet (said_by (message_of xid (packet_out_at len frame)))
unfolding packet_out_at
packet_quiet xid len frame = by (nat_lt (length frame) (16 + len))
  where
    by : (b : Bool) → AreQuiet (said_by (message_of xid (if b then Err (BadLen 13 (length frame))
        else with_actions (listed (actions_in (span 16 len frame)))
        (λ actions. bodies.PacketOut (packet_out_of actions len frame)))))
    by true = tt
    by false =
        with_actions_quiet xid (listed (actions_in (span 16 len frame))) (λ actions. packet_out_of actions len frame)

pub request_quiet : (xid : ℕ) (bytes : List ℕ) → IsQuietMessage (message xid (bodies.StatsRequest bytes))
request_quiet xid bytes = typed_quiet kinds.StatsRequest (message xid (bodies.StatsRequest bytes)) (refl, tt)

pub echo_quiet : (xid : ℕ) (bytes : List ℕ) → IsQuietMessage (message xid (bodies.EchoReply bytes))
echo_quiet xid bytes = typed_quiet kinds.EchoReply (message xid (bodies.EchoReply bytes)) (refl, tt)

pub sent_quiet : (xid : ℕ) (sent : PacketOutOf) → IsQuietMessage (message xid (bodies.PacketOut sent))
sent_quiet xid sent =
    let frame = message xid (bodies.PacketOut sent) in
    typed_quiet kinds.PacketOut frame (packet_quiet (u32_at 4 frame) (u16_at 14 frame) frame)

-- of several ---------------------------------------------------------------------------------------------------------

pub bodies_both : (xs ys : List (List ℕ)) → bodies_in (xs ++ ys) ≡ bodies_in xs ++ bodies_in ys
bodies_both xs ys = flat_map-append (λ bytes. said_by (reading bytes)) xs ys

pub all_quiet : (xs : List (List ℕ)) → AllByRecursion IsQuietMessage xs → AreQuiet (bodies_in xs)
all_quiet [] q = tt
all_quiet (x ∷ xs) q = all_joined IsQuiet (said_by (reading x)) (bodies_in xs) q.0 (all_quiet xs q.1)

-- those to one switch
pub said_quiet : (n : ℕ) (ls : List Letter) → AllByRecursion IsQuietLetter ls
    → AllByRecursion IsQuietMessage (said_to n ls)
said_quiet n [] q = tt
said_quiet n (l ∷ ls) q = by (is_to n l) (said_quiet n ls q.1)
  where
    by : (b : Bool) → AllByRecursion IsQuietMessage (said_to n ls)
        → AllByRecursion IsQuietMessage
        (map (λ (m : Letter). m.bytes) (if b then l ∷ filter (is_to n) ls else filter (is_to n) ls))
    by true h = (q.0, h)
    by false h = h

pub both_quiet : (xs ys : List Letter) → AllByRecursion IsQuietLetter xs → AllByRecursion IsQuietLetter ys
    → AllByRecursion IsQuietLetter (xs ++ ys)
both_quiet xs ys a b = all_joined IsQuietLetter xs ys a b
