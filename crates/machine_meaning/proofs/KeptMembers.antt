-- Members stay sound when their tables and their sessions change.
use Rattle.std.proofs.Common.{◌≡◌, ◌∙◌, ℕ, zero, suc, ◌+◌, ◌<◌, ◌^◌, ◌==◌, Bool, true, false, true≢false, List, []}
use Rattle.std.proofs.Common.{◌∷◌, map, Option, Some, None, option_map, slice_get, refl, sym, ap, subst, arith, ◌≤◌}
use Rattle.std.proofs.Common.{if◌then◌else◌, length}
use Rattle.std.proofs.lemmas.Bool.{eqb-true}
use Rattle.std.specs.List.{enumerate_from}
use Rattle.member_state.proofs.Within.{count_within, message_within, removal_within, time_within}
use Rattle.member_state.specs.Changes.{accepted, expired, touched, without}
use Rattle.member_state.specs.Denials.{denial}
use Rattle.member_state.specs.Sound.{AreWithin}
use Rattle.member_state.specs.States.{MemberStateOf}
use Rattle.member_table.proofs.Least.{and_true}
use Rattle.of10_actions.specs.Actions.{AreInRange}
use Rattle.of10_msgs.specs.declared.message.FlowMod.{FlowMod}
use Rattle.outbox.specs.Outboxes.{OutboxOf, is_open, later, taken, with_more}
use Rattle.policies.specs.Policies.{PolicyOf}
use Rattle.policies.specs.declared.policy.MemberItem.{MemberItem}
use Rattle.machine_meaning.specs.Drafts.{Draft}
use Rattle.machine_meaning.specs.Lists.{changed_at}
use Rattle.machine_meaning.specs.Names.{all_ports, virtual_of}
use Rattle.machine_meaning.specs.Putting.{for_member, put_to, put_to_member}
use Rattle.machine_meaning.specs.Removing.{with_kept}
use Rattle.machine_meaning.specs.Rounds.{begun_member, ended_member}
use Rattle.machine_meaning.specs.Sound.{IsOutbox, IsSoundMember}
use Rattle.machine_meaning.specs.States.{MemberOf}
use Rattle.machine_meaning.proofs.Composed.{elsewhere}
use Rattle.machine_meaning.proofs.KeptTables.{IsStateAfter, accepted_after, expired_after, touched_after}
use Rattle.machine_meaning.proofs.KeptTables.{without_after}
use Rattle.machine_meaning.proofs.Numbered.{at_changed}
use Rattle.machine_meaning.proofs.Places.{made_of}

-- lists -------------------------------------------------------------------------------------------------------------

-- each item is so to that at its place
abbrev pub EachAt : {A B : Type 0} → (A → B → Type 0) → List A → List B → Type 0
EachAt {A} {B} R xs ys = (n : ℕ) (a : A) (b : B) → slice_get xs n ≡ Some a → slice_get ys n ≡ Some b → R a b

module _ {A B : Type 0} (R : A → B → Type 0) (xs : List A) (ys : List B) (each : EachAt R xs ys) where
  -- an item is changed
  pub changed_each : (k : ℕ) (f : B → B)
      → ((a : A) (b : B) → slice_get xs k ≡ Some a → slice_get ys k ≡ Some b → R a b → R a (f b))
      → EachAt R xs (changed_at k f ys)
  changed_each k f keeps n a b at got = by (k == n) refl
    where
      here : (o : Option B) → slice_get ys k ≡ o → slice_get xs k ≡ Some a → option_map f o ≡ Some b → R a b
      here None e at got = absurd (cc (got))
      here (Some c) e at got =
          let is : f c ≡ b = cc (got) in subst (R a) is (keeps a c at e (each k a c at e))

      by : (t : Bool) → (k == n) ≡ t → R a b
      by true t =
          let same : n ≡ k = sym (eqb-true k n t) in
          here (slice_get ys k) refl (ap (slice_get xs) (sym same) ∙ at)
          (sym (at_changed k f ys) ∙ (ap (slice_get (changed_at k f ys)) (sym same) ∙ got))
      by false t = each n a b at (sym (elsewhere k n f ys t) ∙ got)

  -- all are
  pub mapped_each : (f : B → B) → ((a : A) (b : B) → R a b → R a (f b)) → EachAt R xs (map f ys)
  mapped_each f keeps n a b at got =
      let made = made_of f ys n b got in
      subst (R a) made.is (keeps a made.item (each n a made.item at made.at))

-- an item of a list of which each is changed by its number
record IsChangedBy {B : Type 0} (f : ℕ × B → B) (bs : List B) (n : ℕ) (b : B) : Type 0 where
  item : B
  number : ℕ
  at : slice_get bs n ≡ Some item
  is : f (number, item) ≡ b

changed_by : {B : Type 0} (f : ℕ × B → B) (k : ℕ) (bs : List B) (n : ℕ) (b : B)
    → slice_get (map f (enumerate_from k bs)) n ≡ Some b → IsChangedBy f bs n b
changed_by f k [] n b got = absurd (cc (got))
changed_by f k (x ∷ xs) zero b got = record { item = x; number = k; at = refl; is = cc (got) }
changed_by f k (x ∷ xs) (suc n) b got =
    let r = changed_by f (k + 1) xs n b got in
    record { item = r.item; number = r.number; at = r.at; is = r.is }

pub numbered_each : {A B : Type 0} (R : A → B → Type 0) (xs : List A) (ys : List B) → EachAt R xs ys → (f : ℕ × B → B)
    → ((a : A) (i : ℕ) (b : B) → R a b → R a (f (i, b))) → EachAt R xs (map f (enumerate_from 0 ys))
numbered_each R xs ys each f keeps n a b at got =
    let r = changed_by f 0 ys n b got in
    subst (R a) r.is (keeps a r.number r.item (each n a r.item at r.at))

-- sessions ----------------------------------------------------------------------------------------------------------

pub put_outbox : (messages : List (List ℕ)) (o : OutboxOf) → IsOutbox o → IsOutbox (put_to messages o)
put_outbox messages o h = by o.up refl
  where
    by : (u : Bool) → o.up ≡ u → IsOutbox (if u then with_more messages o else o)
    by true e = λ f. absurd (true≢false (sym e ∙ f))
    by false e = h

pub taken_outbox : (round : ℕ) (o : OutboxOf) → IsOutbox o → IsOutbox (taken o round)
taken_outbox round o h = by (is_open o round) refl
  where
    by : (b : Bool) → is_open o round ≡ b → IsOutbox (if b then record o { waiting = later o.waiting } else o)
    by true e = λ f. absurd (true≢false (sym (and_true o.up (o.round == round) e).0 ∙ f))
    by false e = h

-- members -----------------------------------------------------------------------------------------------------------

module _ (p : PolicyOf) (m : MemberItem) (x : MemberOf) (h : IsSoundMember p m x) where
  -- its table changes
  other_table : (y : MemberStateOf) → IsStateAfter x.kept y → AreWithin m.grant (all_ports p (virtual_of m)) y
      → IsSoundMember p m (record x { kept = y })
  other_table y a within =
      let limit = h.limit in
      let few = a.few in
      record {
        outbox = h.outbox;
        sound = a.sound;
        within = within;
        limit = a.limit ∙ h.limit;
        few = omega (arith, limit, few);
        size = a.size ∙ h.size;
      }

  few_of : length x.kept.table.entries ≤ x.kept.table.limit
  few_of = let limit = h.limit in let few = h.few in omega (arith, limit, few)

  pub accepted_member : (change : FlowMod) (now : ℕ) → denial m.grant (all_ports p (virtual_of m)) x.kept change ≡ None
      → AreInRange change.actions → (accepted change now x.kept).table.next + 1 < 2 ^ 64
      → IsSoundMember p m (with_kept (accepted change now) x)
  accepted_member change now none in_range fits =
      let g = m.grant in
      let v = all_ports p (virtual_of m) in
      other_table (accepted change now x.kept)
      (accepted_after x.kept h.sound few_of g v change now none in_range fits)
      (message_within g v x.kept change now none h.within)

  pub expired_member : (now : ℕ) → IsSoundMember p m (with_kept (expired now) x)
  expired_member now =
      other_table (expired now x.kept) (expired_after x.kept h.sound few_of now)
      (time_within m.grant (all_ports p (virtual_of m)) x.kept now h.within)

  pub without_member : (serial : ℕ) → IsSoundMember p m (with_kept (without serial) x)
  without_member serial =
      other_table (without serial x.kept) (without_after x.kept h.sound few_of serial)
      (removal_within m.grant (all_ports p (virtual_of m)) x.kept serial h.within)

  pub touched_member : (serial now : ℕ) → IsSoundMember p m (with_kept (touched serial now) x)
  touched_member serial now =
      other_table (touched serial now x.kept) (touched_after x.kept h.sound few_of serial now)
      (count_within m.grant (all_ports p (virtual_of m)) x.kept serial now h.within)

  -- its session does
  pub other_session : (y : MemberOf) → y.kept ≡ x.kept → IsOutbox y.outbox → IsSoundMember p m y
  other_session y same outbox =
      let K : MemberStateOf → Type 0 = λ kept. IsSoundMember p m (record y { kept = kept }) in
      subst K (sym same)
      (record {
        outbox = outbox;
        sound = h.sound;
        within = h.within;
        limit = h.limit;
        few = h.few;
        size = h.size;
      })

  pub ended_kept : IsSoundMember p m (ended_member x)
  ended_kept = other_session (ended_member x) refl (λ e. refl)

  pub begun_kept : IsSoundMember p m (begun_member x)
  begun_kept = other_session (begun_member x) refl (λ e. absurd (true≢false e))

  pub put_kept : (d : Draft) (i : ℕ) → IsSoundMember p m (put_to_member d (i, x))
  put_kept d i =
      other_session (put_to_member d (i, x)) refl (put_outbox (for_member d i) x.outbox h.outbox)

  pub taken_kept : (round : ℕ) → IsSoundMember p m (record x { outbox = taken x.outbox round })
  taken_kept round =
      other_session (record x { outbox = taken x.outbox round }) refl (taken_outbox round x.outbox h.outbox)
