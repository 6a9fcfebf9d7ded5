-- An event of a replay: what it reports to each switch is what it puts to it.
use Rattle.std.proofs.Common.{◌≡◌, ◌∙◌, ℕ, ◌+◌, Bool, true, false, List, []}
use Rattle.std.proofs.Common.{◌++◌, map, Option, Some, if◌then◌else◌, option_map, refl, sym}
use Rattle.std.proofs.Common.{ap}
use Rattle.std.proofs.Common.{subst}
use Rattle.std.proofs.lemmas.List.Concat.{flat_map-append}
use Rattle.std.specs.Prelude.{flat_map, nat_eq, slice_get}
use Rattle.std.specs.Cmp.Lexicographic.{pointwise}
use Rattle.std.specs.List.{AllByRecursion, enumerate_from}
use Rattle.std.specs.Option.{option_map_or}
use Rattle.cv_io.specs.declared.leaf.Who.TheVariants.{Audit, Switch}
use Rattle.events.specs.declared.event.Event.{Event}
use Rattle.policies.specs.Policies.{PolicyOf}
use Rattle.policies.specs.Sound.{IsSound}
use Rattle.report_lines.specs.ReadBack.{IsPlain, MessagesAreReadBack, Other, ReportsAreReadBack, Told, read_back}
use Rattle.report_lines.specs.ReadBack.{report_with, said_by, said_to}
use Rattle.report_lines.specs.Reading.{messages_to}
use Rattle.switch_meaning.specs.BatchLaw.{IsTableOf}
use Rattle.switch_meaning.specs.declared.entry.FlowEntry.{FlowEntry}
use Rattle.switch_state.proofs.Fitting.{all_joined}
use Rattle.virtual_topology.specs.declared.plan.SwitchItem.{SwitchItem}
use Rattle.machine_meaning.specs.Events.{IsEvent}
use Rattle.machine_meaning.specs.Laws.{SoundnessIsKept}
use Rattle.machine_meaning.specs.Names.{switch_name}
use Rattle.machine_meaning.specs.Runs.{after}
use Rattle.machine_meaning.specs.Sound.{HasNumbers, IsSoundState}
use Rattle.machine_meaning.specs.States.{State, SwitchOf}
use Rattle.machine_meaning.specs.Written.{put_by, standing_at}
use Rattle.machine_meaning.proofs.FitEntries.{within}
use Rattle.machine_meaning.proofs.Numbered.{from_zero}
use Rattle.replay_report.specs.Sessions.{named_member, named_switch, sessions_of}
use Rattle.replay_report.specs.Takings.{does, emptied, takes_of, waiting_in, waits_for}
use Rattle.written_tables.specs.AuditLines.{IsAuditLine}
use Rattle.written_tables.specs.Laws.{AuditHasItsLines, FlowModsAreBytes, NothingWaits, RoundsFit, StepsMakeTables}
use Rattle.written_tables.specs.Laws.{WhatIsPutWaits}
use Rattle.written_tables.specs.Making.{Makes, brings_up, made_by}
use Rattle.written_tables.proofs.InOrder.{made_both}
use Rattle.written_tables.proofs.Reported.{made_same, names_are_words}
use Rattle.replayed_tables.proofs.Emptied.{IsBare, IsGood, all_good, all_make, all_silent, switches_bare, taken_good}
use Rattle.replayed_tables.proofs.Names.{members_apart, same_self, session_words, unlike}
use Rattle.replayed_tables.proofs.Numbers.{does_after}
use Rattle.replayed_tables.proofs.Plain.{lines_plain}
use Rattle.replayed_tables.proofs.Told.{members_wait, report_both, said_at, said_nowhere, said_others, told_both}
use Rattle.replayed_tables.proofs.Told.{others_text, state_both, told_of, told_plain, told_text}

-- what is true of a machine between the events of a replay
pub record IsIdle (p : PolicyOf) (s : State) : Type 0 where
  pub good : IsGood p s
  pub bare : (n : ℕ) → NothingWaits s n
  pub silent : s.audit ≡ []

-- a report of lines, whose messages to a switch make what stands on it
pub record IsTold (p : PolicyOf) (s : State) (n : ℕ) (report : List ℕ) : Type 0 where
  pub told : List Told
  pub plain : AllByRecursion IsPlain told
  pub is : report ≡ report_with told
  pub makes : Makes s n (messages_to (switch_name p n) report)

-- nothing that can be taken waits for a switch of a sound state, so nothing waits
bare_idle : (p : PolicyOf) (s : State) (n : ℕ) → IsSoundState p s → IsBare s n → NothingWaits s n
bare_idle p s n sound h x at = by x.outbox.up refl
  where
    by : (b : Bool) → x.outbox.up ≡ b → x.outbox.waiting ≡ []
    by true e = sym (ap (λ (u : Bool). let w : List (List ℕ) = if u then x.outbox.waiting else [] in w) e) ∙ h x at
    by false e = (sound.switches n x at).outbox e

-- each switch of the policy is taken from
all_taken : (p : PolicyOf) (s : State) (n : ℕ) (item : SwitchItem) → slice_get p.switches n ≡ Some item
    → IsBare (takes_of (sessions_of p) s).state n
all_taken p s n item at =
    let members = map named_member (enumerate_from 0 p.members) in
    let switches = map named_switch (enumerate_from 0 p.switches) in
    let v = (takes_of members s).state in
    subst (λ (u : State). IsBare u n) (sym (state_both members switches s))
    (subst (λ (k : ℕ). IsBare (takes_of switches v).state k) (from_zero n) (switches_bare 0 p.switches v n item at))

-- the lines of what is taken after an event
abbrev lines_of : PolicyOf → State → List Told
lines_of p t = map Other t.audit ++ told_of (sessions_of p) (emptied Audit t)

-- what happens leaves nothing that waits, and what it reports tells of each switch
pub record IsDone (p : PolicyOf) (s t : State) (begins : ℕ → Bool) (text : List ℕ) : Type 0 where
  pub idle : IsIdle p t
  pub told : (n : ℕ) (report : List ℕ) → IsTold p s n report → IsTold p t n (if begins n then text else report ++ text)

-- the laws that a replay rests on
pub record AreLaws : Type 0 where
  pub kept : SoundnessIsKept
  pub fits : RoundsFit
  pub audit : AuditHasItsLines
  pub waits : WhatIsPutWaits
  pub steps : StepsMakeTables
  pub bytes : FlowModsAreBytes
  pub reads : MessagesAreReadBack
  pub reports : ReportsAreReadBack

module _ (l : AreLaws) (p : PolicyOf) (policy : IsSound p) where
  -- the report of an event is made of these lines
  does_text : (e : Event) (s : State) → (does p e s).text ≡ report_with (lines_of p (after p s e))
  unfolding does
  does_text e s =
      let t = after p s e in
      (λ i. sym (others_text t.audit) i ++ told_text (sessions_of p) (emptied Audit t) i)
      ∙ sym (report_both (map Other t.audit) (told_of (sessions_of p) (emptied Audit t)))

  -- after it, all is taken
  does_state : (e : Event) (s : State)
      → (does p e s).state ≡ (takes_of (sessions_of p) (emptied Audit (after p s e))).state
  unfolding does
  does_state e s = refl

  does_plain : (e : Event) (s : State) → s.audit ≡ [] → AllByRecursion IsPlain (lines_of p (after p s e))
  does_plain e s silent =
      let t = after p s e in
      all_joined IsPlain (map Other t.audit) (told_of (sessions_of p) (emptied Audit t))
      (lines_plain p policy t.audit
      (l.audit p s e (subst (AllByRecursion (IsAuditLine p)) (sym silent) tt)))
      (told_plain (sessions_of p) (session_words p policy) (emptied Audit t))

  -- of the lines to a switch, the messages are those that wait for it
  does_said : (t : State) (n : ℕ) (item : SwitchItem) → slice_get p.switches n ≡ Some item
      → said_to (switch_name p n) (lines_of p t) ≡ waits_for t (Switch n)
  does_said t n item at =
      let name = switch_name p n in
      let members = map named_member (enumerate_from 0 p.members) in
      let switches = map named_switch (enumerate_from 0 p.switches) in
      let u = emptied Audit t in
      let v = (takes_of members u).state in
      let named : item.name ≡ name =
      sym (ap (λ (o : Option SwitchItem). option_map_or (λ (x : SwitchItem). x.name) o []) at) in
      flat_map-append (said_by name) (map Other t.audit) (told_of (sessions_of p) u)
      ∙ (ap (λ (ms : List (List ℕ)). ms ++ said_to name (told_of (sessions_of p) u)) (said_others name t.audit)
      ∙ (ap (said_to name) (told_both members switches u)
      ∙ (flat_map-append (said_by name) (told_of members u) (told_of switches v)
      ∙ (ap (λ (ms : List (List ℕ)). ms ++ said_to name (told_of switches v))
      (said_nowhere name members (members_apart p policy n item at) u)
      ∙ (said_at name 0 n p.switches item at
      (subst (λ (other : List ℕ). pointwise nat_eq other item.name ≡ true) named (same_self item.name))
      (λ k y e d. subst (λ (other : List ℕ). pointwise nat_eq other y.name ≡ false) named
      (unlike p.switches policy.limits.unlike_switches n item at k y e d)) v
      ∙ (members_wait 0 p.members u (0 + n)
      ∙ ap (λ (k : ℕ). waits_for t (Switch k)) (from_zero n)))))))

  -- what waits for a switch that is up is what the event put to it
  does_put : (e : Event) (s : State) → IsIdle p s → (n : ℕ) (x : SwitchOf)
      → slice_get (after p s e).switches n ≡ Some x → x.outbox.up ≡ true
      → waits_for (after p s e) (Switch n) ≡ put_by p s e n
  does_put e s idle n x at up =
      ap (λ (o : Option SwitchOf). option_map_or waiting_in (option_map (λ (y : SwitchOf). y.outbox) o) []) at
      ∙ (ap (λ (u : Bool). let w : List (List ℕ) = if u then x.outbox.waiting else [] in w) up
      ∙ l.waits p s e n (idle.bare n) x at up)

  -- and is read so of the report
  does_read : (e : Event) (s : State) → IsIdle p s → IsSoundState p (after p s e) → (n : ℕ) (x : SwitchOf)
      → slice_get (after p s e).switches n ≡ Some x → x.outbox.up ≡ true
      → said_to (switch_name p n) (lines_of p (after p s e)) ≡ put_by p s e n
  does_read e s idle sound n x at up =
      let t = after p s e in
      let item = within t.switches p.switches (sym sound.all_switches) n x at in
      does_said t n item.0 item.1 ∙ does_put e s idle n x at up

  module _ (e : Event) (s : State) (idle : IsIdle p s) (given : IsEvent e) (numbers : HasNumbers (after p s e)) where
    abbrev t : State
    t = after p s e

    sound : IsSoundState p t
    sound = l.kept p policy s idle.good.sound e given numbers

    -- the lines of a report with those of the event
    abbrev more : Bool → List Told → List Told
    more up told = if up then lines_of p t else told ++ lines_of p t

    plain_more : (up : Bool) (told : List Told) → AllByRecursion IsPlain told → AllByRecursion IsPlain (more up told)
    plain_more true told h = does_plain e s idle.silent
    plain_more false told h = all_joined IsPlain told (lines_of p t) h (does_plain e s idle.silent)

    text_more : (up : Bool) (report : List ℕ) (told : List Told) → report ≡ report_with told
        → (if up then (does p e s).text else report ++ (does p e s).text) ≡ report_with (more up told)
    text_more true report told is = does_text e s
    text_more false report told is =
        (λ i. is i ++ does_text e s i) ∙ sym (report_both told (lines_of p t))

    -- what is read of it makes what the messages make
    read_more : (up : Bool) (n : ℕ) (told : List Told) → AllByRecursion IsPlain told → (x : SwitchOf)
        → slice_get t.switches n ≡ Some x → x.outbox.up ≡ true → (table : List FlowEntry)
        → made_by (messages_to (switch_name p n) (report_with (more up told))) table
        ≡ made_by (if up then put_by p s e n
        else messages_to (switch_name p n) (report_with told) ++ put_by p s e n) table
    read_more true n told plain x at rises table =
        let name = switch_name p n in
        let word = names_are_words p policy n in
        ap (λ (ms : List (List ℕ)). made_by ms table)
        (l.reports name word (lines_of p t) (does_plain e s idle.silent)
        ∙ ap (flat_map read_back) (does_read e s idle sound n x at rises))
        ∙ made_same l.reads (put_by p s e n) (l.bytes p policy s idle.good.sound e given numbers n x at rises) table
    read_more false n told plain x at rises table =
        let name = switch_name p n in
        let word = names_are_words p policy n in
        let put = put_by p s e n in
        let before = messages_to name (report_with told) in
        ap (λ (ms : List (List ℕ)). made_by ms table)
        (l.reports name word (told ++ lines_of p t) (plain_more false told plain)
        ∙ (ap (flat_map read_back) (flat_map-append (said_by name) told (lines_of p t))
        ∙ (flat_map-append read_back (said_to name told) (said_to name (lines_of p t))
        ∙ (λ i. sym (l.reports name word told plain) i
        ++ flat_map read_back (does_read e s idle sound n x at rises i)))))
        ∙ (made_both before (flat_map read_back put) table
        ∙ (made_same l.reads put (l.bytes p policy s idle.good.sound e given numbers n x at rises)
        (made_by before table)
        ∙ sym (made_both before put table)))

    tells : (up : Bool) (n : ℕ) (report : List ℕ) (told : List Told) → report ≡ report_with told
        → AllByRecursion IsPlain told → brings_up n e ≡ up → Makes s n (messages_to (switch_name p n) report)
        → Makes t n (messages_to (switch_name p n) (report_with (more up told)))
    tells up n report told is plain rises makes x at high table =
        let name = switch_name p n in
        subst (IsTableOf (standing_at t n)) (sym (read_more up n told plain x at high table))
        (subst (λ (b : Bool). IsTableOf (standing_at t n) (made_by (if b then put_by p s e n
        else messages_to name (report_with told) ++ put_by p s e n) table)) rises
        (l.steps p policy s idle.good.sound e given numbers n (messages_to name (report_with told))
        (subst (λ (r : List ℕ). Makes s n (messages_to name r)) is makes) x at high table))

    -- after an event the report tells of the switch what stands there
    told_more : (n : ℕ) (report : List ℕ) → IsTold p s n report
        → IsTold p (does p e s).state n
        (if brings_up n e then (does p e s).text else report ++ (does p e s).text)
    told_more n report h =
        let up = brings_up n e in
        let name = switch_name p n in
        let lines = more up h.told in
        let text = text_more up report h.told h.is in
        record {
          told = lines;
          plain = plain_more up h.told h.plain;
          is = text;
          makes =
              subst (λ (u : State). Makes u n (messages_to name
              (if up then (does p e s).text else report ++ (does p e s).text))) (sym (does_state e s))
              (all_make (sessions_of p) (emptied Audit t) n
              (messages_to name (if up then (does p e s).text else report ++ (does p e s).text))
              (subst (λ (r : List ℕ). Makes t n (messages_to name r)) (sym text)
              (tells up n report h.told h.is h.plain refl h.makes)));
        }

    -- and nothing waits
    idle_after : IsIdle p (does p e s).state
    idle_after =
        let u = (takes_of (sessions_of p) (emptied Audit t)).state in
        let good = all_good l.kept l.fits p policy (sessions_of p) (emptied Audit t)
        (taken_good l.kept l.fits p policy t Audit
        (record { sound = sound; rounds = l.fits.step p s e idle.good.rounds; numbers = numbers })) in
        subst (IsIdle p) (sym (does_state e s))
        (record {
          good = good;
          bare = λ n. bare_idle p u n good.sound (λ x at.
              let item = within u.switches p.switches (sym good.sound.all_switches) n x at in
              all_taken p (emptied Audit t) n item.0 item.1 x at);
          silent = all_silent (sessions_of p) (emptied Audit t) refl;
        })

  -- an event that fits its types does, as long as numbers are left
  pub event_done : (e : Event) (s : State) → IsIdle p s → IsEvent e → HasNumbers (does p e s).state
      → IsDone p s (does p e s).state (λ n. brings_up n e) (does p e s).text
  event_done e s idle given left =
      let numbers = does_after p e s left in
      record { idle = idle_after e s idle given numbers; told = told_more e s idle given numbers }
