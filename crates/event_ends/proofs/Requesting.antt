-- A message to a switch, where it is up, as one message to the switch at its place.
use Rattle.std.proofs.Common.{◌≡◌, ◌∙◌, ℕ, zero, suc, ◌+◌, ◌<◌, Bool, true, false, List, [], ◌∷◌, ◌++◌, drop, get_or}
use Rattle.std.proofs.Common.{length, map, Option, Some, None, refl, sym, subst, take, ap, arith, true≢false}
use Rattle.std.specs.Prelude.{fold, if◌then◌else◌, option_map, slice_get}
use Rattle.std.specs.Option.{option_map_or}
use Rattle.std.proofs.Math.Seq.{take-append_seam}
use Rattle.std.proofs.lemmas.List.{length-map}
use Rattle.install_plan.specs.declared.written.Written.{Written}
use Rattle.outbox.specs.Outboxes.{OutboxOf}
use Rattle.policies.specs.Policies.{PolicyOf}
use Rattle.switch_state.specs.Messages.{packet_out}
use Rattle.machine_meaning.specs.Barriers.{with_known as known_as}
use Rattle.machine_meaning.specs.Composing.{sent_to}
use Rattle.machine_meaning.specs.Drafts.{Draft, letter}
use Rattle.machine_drafts.specs.InsideRequests.{known_sent, with_dispatched, with_polled}
use Rattle.machine_drafts.specs.InsideSessions.{is_switch_up}
use Rattle.machine_meaning.specs.Lists.{changed_at}
use Rattle.machine_drafts.specs.Outcomes.{switch_bases}
use Rattle.machine_meaning.specs.Requests.{dispatch, dispatched, dispatched_if_up, poll, poll_at, polled, polled_if_up}
use Rattle.machine_meaning.specs.Requests.{request, sent_one}
use Rattle.machine_meaning.specs.States.{SwitchOf}
use Rattle.machine_drafts.specs.SwitchDrafts.{SwitchDraftOf}
use Rattle.machine_meaning.specs.declared.said.Asked.{Asked}
use Rattle.machine_meaning.specs.declared.said.Letter.{Letter}
use Rattle.machine_meaning.specs.declared.said.Sent.{Sent}
use Rattle.machine_drafts.specs.declared.session.Switch.{Switch}
use Rattle.waitings.specs.Waitings.{with_xid}
use Rattle.waitings.specs.declared.state.Waiting.{Waiting}

-- one place of a list ------------------------------------------------------------------------------------------------

-- what is looked up where the list was changed
pub changed_there : {A : Type 0} (g : A → A) (xs : List A) (n : ℕ) (x : A) → slice_get xs n ≡ Some x
    → slice_get (changed_at n g xs) n ≡ Some (g x)
changed_there g [] n x e = absurd (cc)
changed_there g (y ∷ ys) zero x e = let p : y ≡ x = cc in ap (λ z. Some (g z)) p
changed_there g (y ∷ ys) (suc n) x e = changed_there g ys n x e

-- two changes that make the same of the item at the place
pub changed_alike : {A : Type 0} (f g : A → A) (xs : List A) (n : ℕ) (x : A) → slice_get xs n ≡ Some x → f x ≡ g x
    → changed_at n f xs ≡ changed_at n g xs
changed_alike f g [] n x e h = refl
changed_alike f g (y ∷ ys) zero x e h =
    let p : y ≡ x = cc in ap (λ z. z ∷ ys) (ap f p ∙ (h ∙ ap g (sym p)))
changed_alike f g (y ∷ ys) (suc n) x e h = ap (λ zs. y ∷ zs) (changed_alike f g ys n x e h)

-- sessions ----------------------------------------------------------------------------------------------------------

record IsUpAt (xs : List SwitchOf) (n : ℕ) : Type 0 where
  switch : SwitchOf
  at : slice_get xs n ≡ Some switch
  up : switch.outbox.up ≡ true

up_in : (xs : List SwitchOf) (n : ℕ) (o : Option SwitchOf) → slice_get xs n ≡ o
    → option_map_or (λ (b : OutboxOf). b.up) (option_map (λ (x : SwitchOf). x.outbox) o) false ≡ true → IsUpAt xs n
up_in xs n None e h = absurd (true≢false (sym h))
up_in xs n (Some x) e h = record { switch = x; at = e; up = h }

up_at : (xs : List SwitchOf) (n : ℕ) → is_switch_up xs n ≡ true → IsUpAt xs n
up_at xs n h = up_in xs n (slice_get xs n) refl h

-- polls -------------------------------------------------------------------------------------------------------------

polled_down : (n : ℕ) (o : Option SwitchOf) (a : Asked) (d : Draft)
    → option_map_or (λ (b : OutboxOf). b.up) (option_map (λ (x : SwitchOf). x.outbox) o) false ≡ false
    → polled_if_up n o a d ≡ d
polled_down n None a d h = refl
polled_down n (Some x) a d h = ap (λ (up : Bool). if up then polled n x a d else d) h

pub none_polled : (a : Asked) (n : ℕ) (d : Draft) → is_switch_up d.state.switches n ≡ false → poll_at a d n ≡ d
none_polled a n d h = polled_down n (slice_get d.state.switches n) a d h

polled_up : (n : ℕ) (o : Option SwitchOf) (x : SwitchOf) (a : Asked) (d : Draft) → o ≡ Some x → x.outbox.up ≡ true
    → polled_if_up n o a d ≡ polled n x a d
polled_up n o x a d e h =
    ap (λ (o : Option SwitchOf). polled_if_up n o a d) e ∙ ap (λ (up : Bool). if up then polled n x a d else d) h

module _ (a : Asked) (n : ℕ) (xs ys : List SwitchOf) (ws vs : List Waiting) (ls ms : List Letter)
    (messages : List (List ℕ)) (xid : ℕ) (d : Draft) where
  pub one_polled : is_switch_up xs n ≡ true → ys ≡ changed_at n (known_as (known_sent (request a))) xs
      → ((x : SwitchOf) → slice_get xs n ≡ Some x → messages ≡ (sent_one x (request a)).messages)
      → ((y : SwitchOf) → slice_get ys n ≡ Some y → xid ≡ y.known.xid)
      → vs ≡ map (with_xid a.v n xid) ws → ms ≡ ls ++ map (letter n) messages
      → poll_at a (with_polled xs ws ls d) n ≡ with_polled ys vs ms d
  one_polled up switches written told waited posted =
      let u = up_at xs n up in
      let x = u.switch in
      let body = request a in
      let first : changed_at n (sent_to (sent_one x body)) xs ≡ ys =
      changed_alike (sent_to (sent_one x body)) (known_as (known_sent body)) xs n x u.at refl ∙ sym switches in
      let there : slice_get ys n ≡ Some (known_as (known_sent body) x) =
      ap (λ (zs : List SwitchOf). slice_get zs n) switches
      ∙ changed_there (known_as (known_sent body)) xs n x u.at in
      let second : map (with_xid a.v n (sent_one x body).known.xid) ws ≡ vs =
      ap (λ (k : ℕ). map (with_xid a.v n k) ws) (sym (told (known_as (known_sent body) x) there)) ∙ sym waited in
      let third : ls ++ map (letter n) (sent_one x body).messages ≡ ms =
      ap (λ (zs : List (List ℕ)). ls ++ map (letter n) zs) (sym (written x u.at)) ∙ sym posted in
      polled_up n (slice_get xs n) x a (with_polled xs ws ls d) u.at u.up
      ∙ (ap (λ (zs : List SwitchOf). with_polled zs (map (with_xid a.v n (sent_one x body).known.xid) ws)
      (ls ++ map (letter n) (sent_one x body).messages) d) first
      ∙ (ap (λ (zs : List Waiting). with_polled ys zs (ls ++ map (letter n) (sent_one x body).messages) d) second
      ∙ ap (λ (zs : List Letter). with_polled ys vs zs d) third))

-- packets -----------------------------------------------------------------------------------------------------------

dispatched_down : (o : Option SwitchOf) (one : Sent) (d : Draft)
    → option_map_or (λ (b : OutboxOf). b.up) (option_map (λ (x : SwitchOf). x.outbox) o) false ≡ false
    → dispatched_if_up o one d ≡ d
dispatched_down None one d h = refl
dispatched_down (Some x) one d h =
    ap (λ (up : Bool). if up then dispatched one.switch x (packet_out one.port one.bytes) d else d) h

pub none_dispatched : (one : Sent) (d : Draft) → is_switch_up d.state.switches one.switch ≡ false → dispatch d one ≡ d
none_dispatched one d h = dispatched_down (slice_get d.state.switches one.switch) one d h

dispatched_up : (o : Option SwitchOf) (x : SwitchOf) (one : Sent) (d : Draft) → o ≡ Some x → x.outbox.up ≡ true
    → dispatched_if_up o one d ≡ dispatched one.switch x (packet_out one.port one.bytes) d
dispatched_up o x one d e h =
    ap (λ (o : Option SwitchOf). dispatched_if_up o one d) e
    ∙ ap (λ (up : Bool). if up then dispatched one.switch x (packet_out one.port one.bytes) d else d) h

module _ (one : Sent) (xs ys : List SwitchOf) (ls ms : List Letter) (messages : List (List ℕ)) (d : Draft) where
  pub one_dispatched : is_switch_up xs one.switch ≡ true
      → ys ≡ changed_at one.switch (known_as (known_sent (packet_out one.port one.bytes))) xs
      → ((x : SwitchOf) → slice_get xs one.switch ≡ Some x
      → messages ≡ (sent_one x (packet_out one.port one.bytes)).messages)
      → ms ≡ ls ++ map (letter one.switch) messages
      → dispatch (with_dispatched xs ls d) one ≡ with_dispatched ys ms d
  one_dispatched up switches written posted =
      let u = up_at xs one.switch up in
      let x = u.switch in
      let n = one.switch in
      let body = packet_out one.port one.bytes in
      let first : changed_at n (sent_to (sent_one x body)) xs ≡ ys =
      changed_alike (sent_to (sent_one x body)) (known_as (known_sent body)) xs n x u.at refl ∙ sym switches in
      let second : ls ++ map (letter n) (sent_one x body).messages ≡ ms =
      ap (λ (zs : List (List ℕ)). ls ++ map (letter n) zs) (sym (written x u.at)) ∙ sym posted in
      dispatched_up (slice_get xs n) x one (with_dispatched xs ls d) u.at u.up
      ∙ (ap (λ (zs : List SwitchOf). with_dispatched zs (ls ++ map (letter n) (sent_one x body).messages) d) first
      ∙ ap (λ (zs : List Letter). with_dispatched ys zs d) second)

-- all of them -------------------------------------------------------------------------------------------------------

-- one more of a list is gone by
fold_step : {S A : Type 0} (f : S → A → S) (xs : List A) (i : ℕ) (d : A) (s : S) → i < length xs
    → fold f (f s (get_or xs i d)) (drop (suc i) xs) ≡ fold f s (drop i xs)
fold_step f [] i d s h = absurd (omega arith)
fold_step f (x ∷ xs) zero d s h = refl
fold_step f (x ∷ xs) (suc i) d s h = fold_step f xs i d s (omega arith)

pub fold_next : {S A : Type 0} (f : S → A → S) (xs : List A) (i : ℕ) (d : A) (s t : S) → i < length xs
    → f s (get_or xs i d) ≡ t → fold f t (drop (i + 1) xs) ≡ fold f s (drop i xs)
fold_next f xs i d s t h e =
    let more : suc i ≡ i + 1 = omega arith in
    ap (λ k. fold f t (drop k xs)) (sym more)
    ∙ (ap (λ u. fold f u (drop (suc i) xs)) (sym e) ∙ fold_step f xs i d s h)

-- as many switches, and what is written back to their list
pub as_many : (xs ys : List SwitchDraftOf) → switch_bases xs ≡ switch_bases ys → length xs ≡ length ys
as_many xs ys e =
    sym (length-map xs (λ (x : SwitchDraftOf). x.base))
    ∙ (ap (λ (bs : List Switch). length bs) e ∙ length-map ys (λ (x : SwitchDraftOf). x.base))

pub written_back : {A : Type 0} (old new : List A) → length new ≡ length old
    → take (length old) (new ++ drop (length new) old) ≡ new
written_back old new e =
    subst (λ (k : ℕ). take k (new ++ drop (length new) old) ≡ new) e (take-append_seam new (drop (length new) old))

-- polls are asked
pub polls_requested : (p : PolicyOf) (d : Draft) (switches : List SwitchOf) (waiting : List Waiting)
    (polls : List Letter) (standing : List (List Written))
    → fold (poll p) d d.asked ≡ with_polled switches waiting polls d
    → standing ≡ d.state.standing
    → record d { state = record d.state { switches = switches; standing = standing; waiting = waiting }; polls = polls }
    ≡ fold (poll p) d d.asked
polls_requested p d switches waiting polls standing all stood =
    ap (λ (ws : List (List Written)). record d {
      state = record d.state { switches = switches; standing = ws; waiting = waiting };
      polls = polls;
    }) stood
    ∙ sym all

-- packets leave
pub packets_sent : (d : Draft) (switches : List SwitchOf) (packets : List Letter) (standing : List (List Written))
    → fold dispatch d d.sent ≡ with_dispatched switches packets d → standing ≡ d.state.standing
    → record d { state = record d.state { switches = switches; standing = standing }; packets = packets }
    ≡ fold dispatch d d.sent
packets_sent d switches packets standing all stood =
    ap (λ (ws : List (List Written)). record d {
      state = record d.state { switches = switches; standing = ws };
      packets = packets;
    }) stood
    ∙ sym all
