-- Polls and packets change nothing of members, of counts and of cookies.
use Rattle.std.proofs.Common.{◌≡◌, ◌∙◌, ℕ, Bool, true, false, List, Option, Some, None, if◌then◌else◌, refl, length}
use Rattle.std.proofs.Common.{[]}
use Rattle.std.specs.Prelude.{fold, nat_lt, slice_get}
use Rattle.of10_msgs.specs.declared.message.Body.{Body}
use Rattle.policies.specs.Policies.{PolicyOf}
use Rattle.switch_state.specs.Known.{KnownOf}
use Rattle.switch_state.specs.Messages.{flow_request, packet_out, port_request}
use Rattle.machine_meaning.specs.Drafts.{Draft}
use Rattle.machine_meaning.specs.Requests.{dispatch, dispatched, dispatched_if_up, poll, poll_at, polled}
use Rattle.machine_meaning.specs.Requests.{polled_if_up, request, request_all, sent_one, with_sent}
use Rattle.machine_meaning.specs.States.{State, SwitchOf}
use Rattle.machine_meaning.specs.Ways.{switches_of}
use Rattle.machine_meaning.specs.declared.said.Asked.{Asked}
use Rattle.machine_meaning.specs.declared.said.Sent.{Sent}
use Rattle.machine_meaning.proofs.Composed.{fold_holds}
use Rattle.machine_meaning.proofs.KeptCookies.{AreKeptCookies, known_cookies}
use Rattle.machine_meaning.proofs.SentKnown.{IsPlain, plain_sent}

-- what requests leave as it is
pub record AreRequested (before d : State) : Type 0 where
  pub members : d.members ≡ before.members
  pub owed : d.owed ≡ before.owed
  pub counts : d.counts ≡ before.counts
  pub next : d.next_cookie ≡ before.next_cookie
  pub cookies : AreKeptCookies d.standing d.switches d.counts d.next_cookie

request_plain : (a : Asked) → IsPlain (request a)
request_plain a = by a.ports
  where
    by : (b : Bool) → IsPlain (if b then port_request else flow_request)
    by true = record { xid = λ n x. refl; first = λ n x. refl; deleted = λ n x. refl }
    by false = record { xid = λ n x. refl; first = λ n x. refl; deleted = λ n x. refl }

packet_plain : (port : ℕ) (bytes : List ℕ) → IsPlain (packet_out port bytes)
packet_plain port bytes = record { xid = λ n x. refl; first = λ n x. refl; deleted = λ n x. refl }

module _ (before : State) where
  one_sent : (n : ℕ) (x : SwitchOf) (body : Body) → IsPlain body → (s : State) → slice_get s.switches n ≡ Some x
      → x.outbox.up ≡ true → AreRequested before s → AreRequested before (with_sent n (sent_one x body) s)
  one_sent n x body plain s at up h =
      let sent = plain_sent body plain (record { known = x.known; messages = [] }) (h.cookies.sides n x at).xid in
      record {
        members = h.members;
        owed = h.owed;
        counts = h.counts;
        next = h.next;
        cookies =
            known_cookies s.standing s.switches s.counts s.next_cookie h.cookies n
            (λ (k : KnownOf). (sent_one x body).known) x at up sent.xid sent.first sent.deleted;
      }

  poll_sent : (a : Asked) (d : Draft) (n : ℕ) → AreRequested before d.state → AreRequested before (poll_at a d n).state
  poll_sent a d n h = by (slice_get d.state.switches n) refl
    where
      by : (o : Option SwitchOf) → slice_get d.state.switches n ≡ o → AreRequested before (polled_if_up n o a d).state
      by None at = h
      by (Some x) at = up x.outbox.up refl
        where
          up : (u : Bool) → x.outbox.up ≡ u → AreRequested before (if u then polled n x a d else d).state
          up true e =
              let r = one_sent n x (request a) (request_plain a) d.state at e h in
              record { members = r.members; owed = r.owed; counts = r.counts; next = r.next; cookies = r.cookies }
          up false e = h

  packet_sent : (d : Draft) (o : Sent) → AreRequested before d.state → AreRequested before (dispatch d o).state
  packet_sent d o h = by (slice_get d.state.switches o.switch) refl
    where
      by : (q : Option SwitchOf) → slice_get d.state.switches o.switch ≡ q
          → AreRequested before (dispatched_if_up q o d).state
      by None at = h
      by (Some x) at = up x.outbox.up refl
        where
          up : (u : Bool) → x.outbox.up ≡ u
              → AreRequested before (if u then dispatched o.switch x (packet_out o.port o.bytes) d else d).state
          up true e = one_sent o.switch x (packet_out o.port o.bytes) (packet_plain o.port o.bytes) d.state at e h
          up false e = h

  polls_sent : (p : PolicyOf) (d : Draft) (a : Asked) → AreRequested before d.state
      → AreRequested before (poll p d a).state
  polls_sent p d a h = by (nat_lt a.v (length p.virtuals))
    where
      by : (b : Bool) → AreRequested before (if b then fold (poll_at a) d (switches_of p a.v) else d).state
      by true =
          fold_holds (poll_at a) (λ (e : Draft). AreRequested before e.state) (λ e n k. poll_sent a e n k)
          (switches_of p a.v) d h
      by false = h

  pub all_requested : (p : PolicyOf) (d : Draft) → AreRequested before d.state
      → AreRequested before (request_all p d).state
  all_requested p d h =
      fold_holds dispatch (λ (e : Draft). AreRequested before e.state) (λ e o k. packet_sent e o k) d.sent
      (fold (poll p) d d.asked)
      (fold_holds (poll p) (λ (e : Draft). AreRequested before e.state) (λ e a k. polls_sent p e a k) d.asked d h)

-- nor do they write anything
poll_next : (a : Asked) (d : Draft) (n : ℕ) → (poll_at a d n).state.next_cookie ≡ d.state.next_cookie
poll_next a d n = by (slice_get d.state.switches n)
  where
    by : (o : Option SwitchOf) → (polled_if_up n o a d).state.next_cookie ≡ d.state.next_cookie
    by None = refl
    by (Some x) = up x.outbox.up
      where
        up : (u : Bool) → (if u then polled n x a d else d).state.next_cookie ≡ d.state.next_cookie
        up true = refl
        up false = refl

packet_next : (d : Draft) (o : Sent) → (dispatch d o).state.next_cookie ≡ d.state.next_cookie
packet_next d o = by (slice_get d.state.switches o.switch)
  where
    by : (q : Option SwitchOf) → (dispatched_if_up q o d).state.next_cookie ≡ d.state.next_cookie
    by None = refl
    by (Some x) = up x.outbox.up
      where
        up : (u : Bool) → (if u then dispatched o.switch x (packet_out o.port o.bytes) d else d).state.next_cookie
            ≡ d.state.next_cookie
        up true = refl
        up false = refl

pub requested_next : (p : PolicyOf) (d : Draft) → (request_all p d).state.next_cookie ≡ d.state.next_cookie
requested_next p d =
    fold_holds dispatch (λ (e : Draft). e.state.next_cookie ≡ d.state.next_cookie) (λ e o k. packet_next e o ∙ k)
    d.sent (fold (poll p) d d.asked)
    (fold_holds (poll p) (λ (e : Draft). e.state.next_cookie ≡ d.state.next_cookie)
    (λ e a k. by e a (nat_lt a.v (length p.virtuals)) ∙ k) d.asked d refl)
  where
    by : (e : Draft) (a : Asked) (b : Bool)
        → (if b then fold (poll_at a) e (switches_of p a.v) else e).state.next_cookie ≡ e.state.next_cookie
    by e a true =
        fold_holds (poll_at a) (λ (f : Draft). f.state.next_cookie ≡ e.state.next_cookie)
        (λ f n k. poll_next a f n ∙ k) (switches_of p a.v) e refl
    by e a false = refl
