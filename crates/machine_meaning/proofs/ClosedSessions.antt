-- A session that an event closes as slow isn't up afterwards.
use Rattle.std.proofs.Common.{◌≡◌, ◌∙◌, ℕ, ◌==◌, Bool, true, false, true≢false, List, [], ◌∷◌, map, filter, length}
use Rattle.std.proofs.Common.{Option, Some, None, refl, sym, ap, subst}
use Rattle.std.proofs.lemmas.Bool.{eqb-true}
use Rattle.std.specs.Prelude.{find, fold, if◌then◌else◌, nat_lt, option_map, slice_get, unwrap_or}
use Rattle.std.specs.List.{AllByRecursion}
use Rattle.cv_io.specs.declared.leaf.Who.TheVariants.{Member, Switch}
use Rattle.member_table.specs.Entries.{has_serial}
use Rattle.member_table.specs.declared.entry.Entry.{Entry}
use Rattle.policies.specs.Policies.{PolicyOf}
use Rattle.switch_meaning.proofs.Items.{split_and}
use Rattle.switch_meaning.proofs.Members.{IsIn, filter-in, here, there}
use Rattle.machine_meaning.specs.Acting.{act}
use Rattle.machine_meaning.specs.Composing.{compose}
use Rattle.machine_meaning.specs.Counted.{count_of}
use Rattle.machine_meaning.specs.Drafts.{Draft}
use Rattle.machine_meaning.specs.Hearing.{heard}
use Rattle.machine_meaning.specs.Laws.{SlowIsLeast}
use Rattle.machine_meaning.specs.Lists.{places}
use Rattle.machine_meaning.specs.Phases.{draft_of, overfills_member, overfills_switch, settled_of}
use Rattle.machine_meaning.specs.Removing.{with_kept}
use Rattle.machine_meaning.specs.Rounds.{Closing, close, close_member, close_switch, ended_member, ended_switch}
use Rattle.machine_meaning.specs.Sessions.{is_up}
use Rattle.machine_meaning.specs.Settling.{decided, decided_on, entries_at, settle, settle_for, settle_one, with_risen}
use Rattle.machine_meaning.specs.Settling.{with_undone, without_idle}
use Rattle.machine_meaning.specs.Sound.{IsSoundState}
use Rattle.machine_meaning.specs.States.{State, SwitchOf}
use Rattle.waitings.specs.Waitings.{is_done}
use Rattle.events.specs.declared.event.Event.{Event}
use Rattle.machine_meaning.specs.declared.said.Letter.{Letter}
use Rattle.waitings.specs.declared.state.Doubt.{Doubt}
use Rattle.waitings.specs.declared.state.Purpose.{Purpose}
use Rattle.waitings.specs.declared.state.Purpose.TheVariants as purposes
use Rattle.machine_meaning.proofs.Composed.{Rest, elsewhere, fold_holds, rest_composed, rest_of}
use Rattle.machine_meaning.proofs.Numbered.{at_changed, changed_unseen}
use Rattle.machine_meaning.proofs.QuietMessages.{IsQuietLetter}
use Rattle.machine_meaning.proofs.Readied.{IsReady, Seen, Side, long_changed, long_map, map_changed, seen_of}
use Rattle.machine_meaning.proofs.Readied.{settled_keeps, settled_ready, side_of}
use Rattle.machine_meaning.proofs.Requested.{IsTold, Kept, all_told, kept_in}
use Rattle.machine_meaning.proofs.Sizes.{act_keeps}
use Rattle.machine_meaning.proofs.SlowRounds.{AreOpen, rounds_least, same_places_from}
use Rattle.machine_meaning.proofs.WhoIsUp.{down, is_up_member, is_up_switch, member_up, off, switch_up, up_in}

-- rounds that end ---------------------------------------------------------------------------------------------------

abbrev switch_ups : Draft → List Bool
switch_ups d = map switch_up d.state.switches

abbrev member_ups : Draft → List Bool
member_ups d = map member_up d.state.members

off_here : (us : List Bool) (n : ℕ) → up_in (off us n) n ≡ false
off_here us n = ap (λ (o : Option Bool). unwrap_or o false) (at_changed n down us) ∙ by (slice_get us n)
  where
    by : (o : Option Bool) → unwrap_or (option_map down o) false ≡ false
    by None = refl
    by (Some u) = refl

stays_off : (us : List Bool) (k n : ℕ) → up_in us n ≡ false → up_in (off us k) n ≡ false
stays_off us k n h = by (k == n) refl
  where
    by : (b : Bool) → (k == n) ≡ b → up_in (off us k) n ≡ false
    by true t = subst (λ (m : ℕ). up_in (off us k) m ≡ false) (eqb-true k n t) (off_here us k)
    by false t = ap (λ (o : Option Bool). unwrap_or o false) (elsewhere k n down us t) ∙ h

all_off : (ns : List ℕ) (us : List Bool) (n : ℕ) → IsIn n ns → up_in (fold off us ns) n ≡ false
all_off [] us n i = elim i [ ]
all_off (k ∷ ks) us n here =
    fold_holds off (λ (vs : List Bool). up_in vs n ≡ false) (λ vs m h. stays_off vs m n h) ks (off us n) (off_here us n)
all_off (k ∷ ks) us n (there i) = all_off ks (off us k) n i

long_off : (ns : List ℕ) (us : List Bool) → length (fold off us ns) ≡ length us
long_off ns us =
    fold_holds off (λ (vs : List Bool). length vs ≡ length us) (λ vs k h. long_changed k down vs ∙ h) ns us refl

-- closing -----------------------------------------------------------------------------------------------------------

switches_closed : (ns : List ℕ) (d : Draft) → switch_ups (fold close_switch d ns) ≡ fold off (switch_ups d) ns
switches_closed [] d = refl
switches_closed (n ∷ ns) d =
    switches_closed ns (close_switch d n)
    ∙ ap (λ (us : List Bool). fold off us ns) (map_changed switch_up ended_switch down (λ x. refl) n d.state.switches)

members_closed : (ns : List ℕ) (d : Draft) → member_ups (fold close_member d ns) ≡ fold off (member_ups d) ns
members_closed [] d = refl
members_closed (n ∷ ns) d =
    members_closed ns (close_member d n)
    ∙ ap (λ (us : List Bool). fold off us ns) (map_changed member_up ended_member down (λ x. refl) n d.state.members)

closed_switches : (c : Closing) (d : Draft) → switch_ups (close c d) ≡ fold off (switch_ups d) c.switches
closed_switches c d =
    let first = fold close_switch d c.switches in
    fold_holds close_member (λ (e : Draft). switch_ups e ≡ switch_ups first) (λ e n h. h) c.members first refl
    ∙ switches_closed c.switches d

closed_members : (c : Closing) (d : Draft) → member_ups (close c d) ≡ fold off (member_ups d) c.members
closed_members c d =
    members_closed c.members (fold close_switch d c.switches)
    ∙ ap (λ (us : List Bool). fold off us c.members)
    (fold_holds close_switch (λ (e : Draft). member_ups e ≡ member_ups d) (λ e n h. h) c.switches d refl)

-- settling ----------------------------------------------------------------------------------------------------------

decided_ups : (s : State) (doubt : Doubt) → map member_up (decided s doubt).members ≡ map member_up s.members
decided_ups s doubt = by (find (has_serial doubt.serial) (entries_at (slice_get s.members doubt.member)))
  where
    by : (o : Option Entry) → map member_up (decided_on o doubt s).members ≡ map member_up s.members
    by None = refl
    by (Some e) = risen (nat_lt doubt.packets (count_of s doubt.member doubt.serial).packets)
      where
        risen : (b : Bool) → map member_up (if b then with_risen doubt s else without_idle doubt e s).members
            ≡ map member_up s.members
        risen true = changed_unseen member_up (with_kept _) (λ x. refl) doubt.member s.members
        risen false = changed_unseen member_up (with_kept _) (λ x. refl) doubt.member s.members

settle_ups : (p : PolicyOf) (purpose : Purpose) (d : Draft) → member_ups (settle_for p purpose d) ≡ member_ups d
settle_ups p (purposes.Flow asker f) d = refl
settle_ups p (purposes.Aggregate asker f) d = refl
settle_ups p (purposes.Port asker port_no told) d = refl
settle_ups p (purposes.Idle doubts) d =
    fold_holds decided (λ (s : State). map member_up s.members ≡ member_ups d) (λ s doubt h. decided_ups s doubt ∙ h)
    doubts d.state refl
settle_ups p (purposes.Barrier asker) d = refl

settled_members : (p : PolicyOf) (d : Draft) → member_ups (settle p d) ≡ member_ups d
settled_members p d =
    fold_holds (settle_one p) (λ (e : Draft). member_ups e ≡ member_ups d) (λ e w h. settle_ups p w.purpose e ∙ h)
    (filter is_done d.state.waiting) (with_undone d) refl

of_sides : (xs : List SwitchOf) → map switch_up xs ≡ map (λ (x : Side). x.0) (map side_of xs)
of_sides [] = refl
of_sides (x ∷ xs) = ap (λ us. x.outbox.up ∷ us) (of_sides xs)

settled_switches : (p : PolicyOf) (d : Draft) → switch_ups (settle p d) ≡ switch_ups d
settled_switches p d =
    of_sides (settle p d).state.switches
    ∙ (ap (λ (v : Seen). map (λ (x : Side). x.0) v.sides) (settled_keeps p d) ∙ sym (of_sides d.state.switches))

-- all ---------------------------------------------------------------------------------------------------------------

module _ (p : PolicyOf) (s : State) (sound : IsSoundState p s) (e : Event) (c : Closing) where
  abbrev start : State
  start = heard s e

  abbrev acted : Draft
  acted = act p start e

  abbrev settled : Draft
  settled = settled_of p start e c

  abbrev composed : Draft
  composed = compose p settled

  abbrev final : Draft
  final = draft_of p start e c

  rest : rest_of composed ≡ rest_of settled
  rest = rest_composed p settled

  none_quiet : (ls : List Letter) → ls ≡ [] → AllByRecursion IsQuietLetter ls
  none_quiet ls h = subst (AllByRecursion IsQuietLetter) (sym h) tt

  told : IsTold (kept_in composed) final
  told =
      let ready : IsReady s (seen_of settled) = settled_ready p s sound e c in
      all_told (kept_in composed) p start composed
      (record {
        kept = refl;
        polls = none_quiet composed.polls (ap (λ (r : Rest). r.polls) rest ∙ ready.polls);
        packets = none_quiet composed.packets (ap (λ (r : Rest). r.packets) rest ∙ ready.packets);
      })

  switches_then : switch_ups final ≡ fold off (switch_ups acted) c.switches
  switches_then =
      ap (λ (k : Kept). k.ups) told.kept
      ∙ (ap (λ (r : Rest). r.ups) rest
      ∙ (settled_switches p (close c acted) ∙ closed_switches c acted))

  members_then : member_ups final ≡ fold off (member_ups acted) c.members
  members_then =
      ap (λ (k : Kept). map member_up k.members) told.kept
      ∙ (ap (λ (r : Rest). map member_up r.members) rest
      ∙ (settled_members p (close c acted) ∙ closed_members c acted))

  switch_places : places final.state.switches ≡ places start.switches
  switch_places =
      same_places_from 0 final.state.switches start.switches
      (sym (long_map switch_up final.state.switches)
      ∙ (ap length switches_then
      ∙ (long_off c.switches (switch_ups acted)
      ∙ (long_map switch_up acted.state.switches ∙ ap (λ (k : ℕ × ℕ). k.1) (act_keeps p start e)))))

  member_places : places final.state.members ≡ places start.members
  member_places =
      same_places_from 0 final.state.members start.members
      (sym (long_map member_up final.state.members)
      ∙ (ap length members_then
      ∙ (long_off c.members (member_ups acted)
      ∙ (long_map member_up acted.state.members ∙ ap (λ (k : ℕ × ℕ). k.0) (act_keeps p start e)))))

  are_open : AreOpen p start e c
  are_open = record {
    switches = λ n i.
        let r = filter-in (overfills_switch start final) n (places final.state.switches) i in
        let up = (split_and (is_up final.state (Switch n)) _ r.1).0 in (
          subst (λ (ns : List ℕ). IsIn n ns) switch_places r.0,
          λ closed. true≢false (sym up
              ∙ (is_up_switch final.state n
              ∙ (ap (λ (us : List Bool). up_in us n) switches_then
              ∙ all_off c.switches (switch_ups acted) n closed))),
        );
    members = λ n i.
        let r = filter-in (overfills_member start final) n (places final.state.members) i in
        let up = (split_and (is_up final.state (Member n)) _ r.1).0 in (
          subst (λ (ns : List ℕ). IsIn n ns) member_places r.0,
          λ closed. true≢false (sym up
              ∙ (is_up_member final.state n
              ∙ (ap (λ (us : List Bool). up_in us n) members_then
              ∙ all_off c.members (member_ups acted) n closed))),
        );
  }

pub slow_least : SlowIsLeast
slow_least p policy s sound e given = rounds_least p (heard s e) e (λ c. are_open p s sound e c)
