-- Messages are sent to a switch: each takes the next xid of the round.
use Rattle.std.specs.Prelude.{◌≡◌, ℕ, ◌+◌, ◌-◌, ◌^◌, ◌==◌, min, if◌then◌else◌, List, [], ◌∷◌, ◌++◌, fold}
use Rattle.std.specs.BTreeSet.{insert_key}
use Rattle.std.specs.Ordering.{nat_cmp}
use Rattle.of10_msgs.specs.Spelling.{spelling}
use Rattle.of10_msgs.specs.declared.message.Body.{Body}
use Rattle.of10_msgs.specs.declared.message.Body.TheVariants.{BarrierRequest, FlowMod}
use Rattle.switch_state.specs.Known.{KnownOf}

-- what is known of a switch, and the messages that it is sent
pub record Sending : Type 0 where
  pub known : KnownOf
  pub messages : List (List ℕ)

abbrev pub sending_of : KnownOf → List (List ℕ) → Sending
sending_of known messages = record { known = known; messages = messages }

-- after the greatest xid comes 1 again
abbrev pub next_xid : ℕ → ℕ
next_xid xid = if xid == 2 ^ 32 - 1 then 1 else xid + 1

-- barriers are counted; the count stands still at its end
abbrev pub next_number : ℕ → ℕ
next_number begun = min (begun + 1) (2 ^ 64 - 1)

-- what is known after a message with this xid: a barrier waits for its answer, and the cookie of a DELETE_STRICT for
-- its removal
abbrev pub known_after : Body → ℕ → KnownOf → KnownOf
known_after BarrierRequest xid x = record x {
  xid = xid;
  begun = next_number x.begun;
  barriers = x.barriers ++ record { number = next_number x.begun; xid = xid } ∷ [];
}
known_after (FlowMod f) xid x =
    if f.command == 4 then record x { xid = xid; deleted = insert_key nat_cmp x.deleted f.cookie }
    else record x { xid = xid }
known_after body xid x = record x { xid = xid }

-- a message is sent
abbrev pub send : Sending → Body → Sending
send s body = record {
  known = known_after body (next_xid s.known.xid) s.known;
  messages = s.messages ++ spelling (record { xid = next_xid s.known.xid; body = body }) ∷ [];
}

-- messages are sent, in order
abbrev pub send_all : List Body → Sending → Sending
send_all bodies s = fold send s bodies

-- after want of memory: some of the messages were sent, from the first on
pub record IsPartlySent (bodies : List Body) (old new : Sending) : Type 0 where
  pub sent : List Body
  pub left : List Body
  pub all : bodies ≡ sent ++ left
  pub so_far : new ≡ send_all sent old
